-- What a token says, byte after byte.
use Rattle.std.proofs.Common.{◌≡◌, ◌≢◌, ℕ, zero, suc, ◌+◌, ◌-◌, ◌*◌, ◌<◌, ◌≤◌, Bool, true, false, ◌&&◌, List, [], ◌∷◌, ◌++◌, length, take, get_or, refl, arith, append_assoc, zero-add, add-zero}
use Rattle.std.specs.Prelude.{codes, nat_le}
use Rattle.std.specs.Char.{is_ascii_digit}
use Rattle.std.proofs.lemmas.List.{take_more}
use Rattle.std.proofs.lemmas.Bool.{ne_eqb}
use Rattle.input_tokens.specs.declared.token.Token.TheVariants as tokens
use Rattle.input_tokens.specs.declared.text.Text.TheVariants.{Word, Number, Other}
use Rattle.input_tokens.specs.Tokens.{meaning}
use Rattle.input_tokens.specs.Lexing.{meaning_with}

and-false : (a : Bool) → (a && false) ≡ false
and-false true = refl
and-false false = refl

and-true : (a : Bool) → (a && true) ≡ a
and-true true = refl
and-true false = refl

one-add : (n : ℕ) → 1 + n ≡ suc n
one-add n = omega arith

one-le : (n : ℕ) → nat_le 1 (suc n) ≡ true
one-le n = grind arith

too-many : (digits n : ℕ) → 10 ≤ digits → nat_le (digits + suc n) 10 ≡ false
too-many digits n full = grind arith

shift : (digits n : ℕ) → digits + suc n ≡ (digits + 1) + n
shift digits n = omega arith

within : (n : ℕ) → n ≤ 10 → nat_le n 10 ≡ true
within n h = grind arith

-- a digit begins a number
pub meaning-digit : (b : ℕ) (more : List ℕ) → is_ascii_digit b ≡ true → b ≤ 57 → meaning_with (Number 1 (b - 48)) more ≡ meaning (b ∷ more)
unfolding meaning_with meaning
meaning-digit b more digit h = rw (ne_eqb b 103 (λ e. omega arith), digit, one-le, and-true, one-add, zero-add) refl

pub meaning-g : (more : List ℕ) → meaning_with (Word 1) more ≡ meaning (103 ∷ more)
unfolding meaning_with meaning
meaning-g more = refl

-- no other byte begins a word or a number
pub meaning-other : (b : ℕ) (more : List ℕ) → is_ascii_digit b ≡ false → b ≢ 103 → meaning_with Other more ≡ meaning (b ∷ more)
unfolding meaning meaning_with
meaning-other b more digit g = rw (ne_eqb b 103 g, digit) refl

-- a word goes on
pub meaning-word : (k b : ℕ) (more : List ℕ) → k < 6 → get_or (codes "graph2") k 0 ≡ b → meaning_with (Word (k + 1)) more ≡ meaning_with (Word k) (b ∷ more)
unfolding meaning_with
meaning-word k b more h e =
    let longer : take (k + 1) (codes "graph2") ≡ take k (codes "graph2") ++ b ∷ [] = rw (← e) (take_more (codes "graph2") k 0 h) in
    rw (longer, append_assoc) refl

-- with another byte it is no word any more, and no number
pub meaning-word-other : (k b : ℕ) (more : List ℕ) → 1 ≤ k → k ≤ 6 → (k < 6 → b ≢ get_or (codes "graph2") k 0) → meaning_with Other more ≡ meaning_with (Word k) (b ∷ more)
unfolding meaning_with meaning
meaning-word-other zero b more l h e = absurd (omega arith)
meaning-word-other (suc zero) b more l h e = rw (ne_eqb b 114 (e (omega arith))) refl
meaning-word-other (suc (suc zero)) b more l h e = rw (ne_eqb b 97 (e (omega arith))) refl
meaning-word-other (suc (suc (suc zero))) b more l h e = rw (ne_eqb b 112 (e (omega arith))) refl
meaning-word-other (suc (suc (suc (suc zero)))) b more l h e = rw (ne_eqb b 104 (e (omega arith))) refl
meaning-word-other (suc (suc (suc (suc (suc zero))))) b more l h e = rw (ne_eqb b 50 (e (omega arith))) refl
meaning-word-other (suc (suc (suc (suc (suc (suc zero)))))) b more l h e = refl
meaning-word-other (suc (suc (suc (suc (suc (suc (suc k))))))) b more l h e = absurd (omega arith)

-- a number goes on with a digit, up to ten
pub meaning-number : (digits value b : ℕ) (more : List ℕ) → is_ascii_digit b ≡ true
    → meaning_with (Number (digits + 1) (value * 10 + (b - 48))) more ≡ meaning_with (Number digits value) (b ∷ more)
unfolding meaning_with
meaning-number digits value b more digit = rw (digit, shift digits (length more)) refl

pub meaning-number-other : (digits value b : ℕ) (more : List ℕ) → is_ascii_digit b ≡ false → meaning_with Other more ≡ meaning_with (Number digits value) (b ∷ more)
unfolding meaning_with
meaning-number-other digits value b more digit = rw digit refl

pub meaning-number-full : (digits value b : ℕ) (more : List ℕ) → 10 ≤ digits → meaning_with Other more ≡ meaning_with (Number digits value) (b ∷ more)
unfolding meaning_with
meaning-number-full digits value b more full = rw (too-many digits (length more) full, and-false) refl

pub meaning-Other : (b : ℕ) (more : List ℕ) → meaning_with Other more ≡ meaning_with Other (b ∷ more)
unfolding meaning_with
meaning-Other b more = refl

-- at a token's end
pub token-graph : tokens.Graph ≡ meaning_with (Word 5) []
unfolding meaning_with meaning
token-graph = refl

pub token-graph2 : tokens.GraphWithAreas ≡ meaning_with (Word 6) []
unfolding meaning_with meaning
token-graph2 = refl

pub token-number : (digits value : ℕ) → digits ≤ 10 → tokens.Number value ≡ meaning_with (Number digits value) []
unfolding meaning_with
token-number digits value h = rw (add-zero, within digits h) refl

pub token-word : (k : ℕ) → 1 ≤ k → k ≤ 6 → k ≢ 5 → k ≢ 6 → tokens.Other ≡ meaning_with (Word k) []
unfolding meaning_with meaning
token-word zero l h p q = absurd (omega arith)
token-word (suc zero) l h p q = refl
token-word (suc (suc zero)) l h p q = refl
token-word (suc (suc (suc zero))) l h p q = refl
token-word (suc (suc (suc (suc zero)))) l h p q = refl
token-word (suc (suc (suc (suc (suc zero))))) l h p q = absurd (p refl)
token-word (suc (suc (suc (suc (suc (suc zero)))))) l h p q = absurd (q refl)
token-word (suc (suc (suc (suc (suc (suc (suc k))))))) l h p q = absurd (omega arith)

pub token-other : tokens.Other ≡ meaning_with Other []
unfolding meaning_with
token-other = refl
