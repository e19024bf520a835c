-- The tokens of a header are cut as those of an edge list are.
use Rattle.std.proofs.Common.{◌≡◌, ◌≢◌, ℕ, ◌+◌, Bool, true, false, not, ◌&&◌, ◌||◌, List, [], ◌∷◌, length, refl, sym, ap, ◌∙◌, inl, inr, add-zero}
use Rattle.std.specs.Prelude.{◌==◌}
use Rattle.std.specs.List.{before_first}
use Rattle.std.proofs.lemmas.Bool.{cases_Bool}
use Rattle.input_tokens.specs.Tokens.{is_space, is_line_end, blanked, word, meaning, tokens_from}
use Rattle.input_tokens.proofs.ByteByByte.{word-space, word-other, tokens-space, tokens-begin, blanked-hash, blanked-other}
use Rattle.input_tokens.proofs.Comments.{none, hash-is, hash-not, line-end-no, blanked-open, blanked-shut}
use Rattle.pgm_reader.specs.Pgm.{ends_token, gap, cut, token_cut_at}
use Rattle.pgm_reader.specs.HeaderTokens.{IsFirstOf}
use Rattle.pgm_reader.proofs.NextToken.{gap-more, cut-more, text-ends, text-more, ends-not}
use Rattle.pgm_reader.proofs.CutTokens.{gap-stops}

-- a text that white space or a `#` ends is a word once comments are blanked
text-is-word : (bs : List ℕ) → before_first (ends_token true) bs ≡ word (blanked false bs)
unfolding blanked
text-is-word [] = refl
text-is-word (b ∷ bs) = elim (cases_Bool (is_space b)) [
  | inl e ↦
      text-ends true b bs (rw e refl)
      ∙ sym (word-space b (blanked false bs) e)
      ∙ ap (λ (w : List ℕ). word w) (sym (blanked-other b bs (λ h. let no : is_space 35 ≡ true = rw h at e in cc)))
  | inr e ↦ elim (cases_Bool (b == 35)) [
    | inl h ↦ rw (hash-is b h) (text-ends true 35 bs refl ∙ ap (λ (w : List ℕ). word w) (sym (blanked-hash bs)))
    | inr h ↦
        text-more true b bs (ends-not true b e (hash-not b h)) ∙ ap (λ (w : List ℕ). b ∷ w) (text-is-word bs)
        ∙ sym (word-other b (blanked false bs) e) ∙ ap (λ (w : List ℕ). word w) (sym (blanked-other b bs (hash-not b h)))
  ]
]

-- the first token begins with the first byte
first-here : (hash within : Bool) (place b : ℕ) (bs : List ℕ) → blanked within (b ∷ bs) ≡ b ∷ blanked false bs → is_space b ≡ false → b ≢ 35
    → IsFirstOf hash (tokens_from true place (blanked within (b ∷ bs))) (cut hash within place (b ∷ bs))
unfolding cut token_cut_at
first-here hash within place b bs e s h =
    let same : before_first (ends_token true) (b ∷ bs) ≡ word (b ∷ blanked false bs) =
    text-more true b bs (ends-not true b s h) ∙ ap (λ (w : List ℕ). b ∷ w) (text-is-word bs) ∙ sym (word-other b (blanked false bs) s)
    in
    rw (gap-stops within false b b bs e s, e, tokens-begin place b (blanked false bs) s, add-zero) (refl, says hash same)
  where
    says : (hash : Bool) → before_first (ends_token true) (b ∷ bs) ≡ word (b ∷ blanked false bs) → hash ≡ true
        → (place + length (before_first (ends_token hash) (b ∷ bs)) ≡ place + length (word (b ∷ blanked false bs)))
        × (meaning (before_first (ends_token hash) (b ∷ bs)) ≡ meaning (word (b ∷ blanked false bs)))
    says true same q = (ap (λ (w : List ℕ). place + length w) same, ap (λ (w : List ℕ). meaning w) same)
    says false same q = cc

first-later : (hash within into : Bool) (place b c : ℕ) (bs : List ℕ) → blanked within (b ∷ bs) ≡ c ∷ blanked into bs → is_space c ≡ true
    → IsFirstOf hash (tokens_from true (place + 1) (blanked into bs)) (cut hash into (place + 1) bs)
    → IsFirstOf hash (tokens_from true place (blanked within (b ∷ bs))) (cut hash within place (b ∷ bs))
first-later hash within into place b c bs e s first =
    rw (cut-more hash within into place b bs (gap-more within into b c bs e s), e, tokens-space true place c (blanked into bs) s) first

first-of : (hash within : Bool) (place : ℕ) (bytes : List ℕ) → IsFirstOf hash (tokens_from true place (blanked within bytes)) (cut hash within place bytes)
unfolding cut token_cut_at gap blanked tokens_from
first-of hash within place [] = tt
first-of hash within place (b ∷ bs) = elim (cases_Bool ((within || (b == 35)) && not (is_line_end b))) [
  | inl e ↦ first-later hash within true place b 32 bs (blanked-open within b bs e) refl (first-of hash true (place + 1) bs)
  | inr e ↦ elim (cases_Bool (is_space b)) [
    | inl s ↦ first-later hash within false place b b bs (blanked-shut within b bs e) s (first-of hash false (place + 1) bs)
    | inr s ↦ first-here hash within place b bs (blanked-shut within b bs e) s (hash-not b (none within (b == 35) (is_line_end b) e (line-end-no b s)).1)
  ]
]

pub first-cut : (hash : Bool) (place : ℕ) (bytes : List ℕ) → IsFirstOf hash (tokens_from true place (blanked false bytes)) (cut hash false place bytes)
first-cut hash place bytes = first-of hash false place bytes
