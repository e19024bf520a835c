-- Faults that stand at one place, and aren't that the input ends: those of the rules.
use Rattle.std.proofs.Common.{◌≡◌, ◌≢◌, ℕ, Bool, true, false, sym, ap, ◌∙◌}
use Rattle.std.specs.Prelude.{Result, Ok, Err, if◌then◌else◌, nat_lt}
use Rattle.hg_base.specs.declared.fault.FaultKind.{FaultKind}
use Rattle.hg_base.specs.declared.fault.FaultKind.TheVariants.{BadNumber, TooLarge, Truncated}
use Rattle.hg_base.specs.declared.fault.InputFault.{InputFault}
use Rattle.input_tokens.specs.declared.token.Token.{Token}
use Rattle.input_tokens.specs.declared.token.Token.TheVariants.{Graph, GraphWithAreas, Number, Other}
use Rattle.input_tokens.specs.Rules.{◌>>=◌, fault, number_read, within_limit}

-- each fault of it stands at this place, and isn't that the input ends
abbrev pub FaultsAt : {A : Type 0} → ℕ → Result A InputFault → Type 0
FaultsAt at r = (f : InputFault) → r ≡ Err f → (f.at ≡ at) × (f.kind ≢ Truncated)

pub at-ok : {A : Type 0} (at : ℕ) (x : A) → FaultsAt at (Ok x)
at-ok at x f e = cc

err-inj : {A : Type 0} (x y : InputFault) → (let r : Result A InputFault = Err x in r) ≡ Err y → x ≡ y
err-inj x y e = cc

pub at-fault : {A : Type 0} (kind : FaultKind) (at value : ℕ) → kind ≢ Truncated → FaultsAt {A = A} at (fault kind at value)
at-fault {A} kind at value other f e =
    let same = err-inj {A = A} (record { kind = kind; at = at; value = value }) f e in
    (sym (ap (λ (g : InputFault). g.at) same), λ ends. other (ap (λ (g : InputFault). g.kind) same ∙ ends))

pub at-then : {A B : Type 0} (at : ℕ) (r : Result A InputFault) (next : A → Result B InputFault) → FaultsAt at r → ((x : A) → FaultsAt at (next x)) → FaultsAt at (r >>= next)
at-then at (Ok x) next first others f e = others x f e
at-then {A} at (Err g) next first others f e = first f (ap (λ (h : InputFault). let r : Result A InputFault = Err h in r) (err-inj g f e))

pub at-either : {A : Type 0} (at : ℕ) (b : Bool) (x y : Result A InputFault) → FaultsAt at x → FaultsAt at y → FaultsAt at (if b then x else y)
at-either at true x y p q = p
at-either at false x y p q = q

-- a rule's faults stand at the token that it is for
abbrev pub IsRule : {A : Type 0} → (ℕ → Token → Result A InputFault) → Type 0
IsRule rule = (at : ℕ) (token : Token) → FaultsAt at (rule at token)

pub rule-number : IsRule number_read
unfolding number_read
rule-number at (Number n) = at-ok at n
rule-number at Graph = at-fault BadNumber at 0 (λ e. cc)
rule-number at GraphWithAreas = at-fault BadNumber at 0 (λ e. cc)
rule-number at Other = at-fault BadNumber at 0 (λ e. cc)

pub at-most : (limit at n : ℕ) → FaultsAt at (within_limit limit at n)
at-most limit at n = at-either at (nat_lt limit n) (fault TooLarge at n) (Ok n) (at-fault TooLarge at n (λ e. cc)) (at-ok at n)
