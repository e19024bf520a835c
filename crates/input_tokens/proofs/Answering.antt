-- An answer to what is still to come is an answer to all that was read.
use Rattle.std.proofs.Common.{◌≡◌, Bool, true, false, List, [], ℕ, refl, ap, ◌∙◌, subst, append-nil}
use Rattle.std.specs.Prelude.{Result, Err}
use Rattle.hg_base.specs.declared.fault.InputFault.{InputFault}
use Rattle.hg_base.specs.declared.fault.ReadError.{ReadError}
use Rattle.hg_base.specs.declared.fault.ReadError.TheVariants.{OutOfMemory}
use Rattle.input_tokens.specs.Progress.{Onward, ReadsOnFrom, Answers}

answered-by : {A : Type 0} (r : Result A ReadError) (x y : Result A InputFault) (out : Bool)
    → (out ≡ false → x ≡ y) → (out ≡ false → Answers r x) → (out ≡ true → r ≡ Err OutOfMemory) → Answers r y
answered-by {A} r x y false same answers none = subst (λ (z : Result A InputFault). Answers r z) (same refl) (answers refl)
answered-by r x y true same answers none = rw (none refl) tt

pub answered : {A : Type 0} (gives : List ℕ → Result A InputFault) (settles : List ℕ → Bool) (r : Result A ReadError) (onward : Onward A) (bytes : List ℕ)
    → ReadsOnFrom gives settles bytes onward
    → (onward.out_of_memory ≡ false → Answers r (onward.reading []))
    → (onward.out_of_memory ≡ true → r ≡ Err OutOfMemory)
    → Answers r (gives bytes)
answered gives settles r onward bytes read answers none =
    answered-by r (onward.reading []) (gives bytes) onward.out_of_memory (λ memory. read.reading memory [] ∙ ap gives (append-nil bytes)) answers none

-- what is settled where nothing follows
pub settled : {A : Type 0} (gives : List ℕ → Result A InputFault) (settles : List ℕ → Bool) (onward : Onward A) (bytes : List ℕ)
    → ReadsOnFrom gives settles bytes onward → onward.settling [] ≡ settles bytes
settled gives settles onward bytes read = read.settling [] ∙ ap settles (append-nil bytes)

-- what isn't so before wasn't so
pub back : (a b : Bool) → (a ≡ true → b ≡ true) → b ≡ false → a ≡ false
back true b h e = let t : b ≡ true = h refl in cc
back false b h e = refl
