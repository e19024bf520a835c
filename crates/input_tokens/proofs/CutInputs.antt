-- The tokens of an input that is cut right behind one of its tokens, or goes on differently from there.
use Rattle.std.proofs.Common.{◌≡◌, ℕ, zero, suc, ◌+◌, ◌<◌, ◌≤◌, Bool, true, false, not, ◌&&◌, ◌||◌, List, [], ◌∷◌, ◌++◌, length, take, drop, refl, sym, ap, ◌∙◌, ◌⊎◌, inl, inr, arith, append-nil, add-zero}
use Rattle.std.specs.Prelude.{◌==◌, if◌then◌else◌}
use Rattle.std.proofs.lemmas.List.{take-append-drop, length-take-le}
use Rattle.input_tokens.specs.Tokens.{PlacedToken, is_space, is_line_end, blanked, word, token_at, tokens_from, meaning, tokens, goes_on_apart}
use Rattle.input_tokens.proofs.ByteByByte.{word-space, word-other, tokens-space, tokens-begin, tokens-within, shift}

pub either : (b : Bool) → (b ≡ true) ⊎ (b ≡ false)
either true = inl refl
either false = inr refl

-- comments are blanked byte by byte from the left
pub blanked-first : (within : Bool) (b : ℕ) → (c : ℕ) × (after : Bool) × ((bs : List ℕ) → blanked within (b ∷ bs) ≡ c ∷ blanked after bs)
unfolding blanked
blanked-first within b = elim (either ((within || (b == 35)) && not (is_line_end b))) [
  | inl e ↦ (32, true, λ bs. rw e refl)
  | inr e ↦ (b, false, λ bs. rw e refl)
]

pub blanked-length : (within : Bool) (bs : List ℕ) → length (blanked within bs) ≡ length bs
unfolding blanked
blanked-length within [] = refl
blanked-length within (b ∷ bs) =
    let f = blanked-first within b in
    ap (λ (all : List ℕ). length all) (f.2 bs) ∙ ap suc (blanked-length f.1 bs)

blanked-take : (within : Bool) (k : ℕ) (bs : List ℕ) → blanked within (take k bs) ≡ take k (blanked within bs)
unfolding blanked
blanked-take within zero bs = refl
blanked-take within (suc k) [] = refl
blanked-take within (suc k) (b ∷ bs) =
    let f = blanked-first within b in
    f.2 (take k bs) ∙ ap (λ (more : List ℕ). f.0 ∷ more) (blanked-take f.1 k bs) ∙ ap (λ (all : List ℕ). take (suc k) all) (sym (f.2 bs))

blanked-more : (within : Bool) (bs rest : List ℕ) → (after : Bool) × (blanked within (bs ++ rest) ≡ blanked within bs ++ blanked after rest)
unfolding blanked
blanked-more within [] rest = (within, refl)
blanked-more within (b ∷ bs) rest =
    let f = blanked-first within b in
    let r = blanked-more f.1 bs rest in
    (r.0, f.2 (bs ++ rest) ∙ ap (λ (more : List ℕ). f.0 ∷ more) r.1 ∙ ap (λ (all : List ℕ). all ++ blanked r.0 rest) (sym (f.2 bs)))

pub word-le : (bs : List ℕ) → length (word bs) ≤ length bs
word-le [] = omega arith
word-le (b ∷ bs) = elim (either (is_space b)) [
  | inl e ↦ rw (word-space b bs e) (omega arith)
  | inr e ↦ let h = word-le bs in rw (word-other b bs e) (omega (arith, h))
]

pub head-same : (u t : PlacedToken) (us ts : List PlacedToken) → u ∷ us ≡ t ∷ ts → u ≡ t
head-same u t us ts e = cc

pub tail-same : (u t : PlacedToken) (us ts : List PlacedToken) → u ∷ us ≡ t ∷ ts → us ≡ ts
tail-same u t us ts e = cc

-- where the token stands
abbrev Within : ℕ → PlacedToken → ℕ → Type 0
Within first t end = (first ≤ t.from) × (t.from < t.to) × (t.to ≤ end)

further : (p n : ℕ) (t : PlacedToken) → Within (p + 1) t ((p + 1) + n) → Within p t (p + suc n)
further p n t w = (omega (arith, w.0), w.1, omega (arith, w.2))

-- a token has at least one byte, and stands inside
token-within : (s : Bool) (p : ℕ) (xs : List ℕ) (front : List PlacedToken) (t : PlacedToken) (back : List PlacedToken)
    → tokens_from s p xs ≡ front ++ t ∷ back → Within p t (p + length xs)
unfolding tokens_from
token-within s p [] [] t back e = cc
token-within s p [] (u ∷ front) t back e = cc
token-within false p (b ∷ bs) front t back e = elim (either (is_space b)) [
  | inl h ↦ further p (length bs) t (token-within true (p + 1) bs front t back (sym (tokens-space false p b bs h) ∙ e))
  | inr h ↦ further p (length bs) t (token-within false (p + 1) bs front t back (sym (tokens-within p b bs h) ∙ e))
]
token-within true p (b ∷ bs) [] t back e = elim (either (is_space b)) [
  | inl h ↦ further p (length bs) t (token-within true (p + 1) bs [] t back (sym (tokens-space true p b bs h) ∙ e))
  | inr h ↦
      let here = head-same (token_at p (b ∷ bs)) t (tokens_from false (p + 1) bs) back (sym (tokens-begin p b bs h) ∙ e) in
      let from : p ≡ t.from = ap (λ (u : PlacedToken). u.from) here in
      let goes : p + length (word (b ∷ bs)) ≡ t.to = ap (λ (u : PlacedToken). u.to) here in
      let to : p + suc (length (word bs)) ≡ t.to = rw (word-other b bs h) at goes in
      let short = word-le bs in
      (omega (arith, from), omega (arith, from, to), omega (arith, to, short))
]
token-within true p (b ∷ bs) (u ∷ front) t back e = elim (either (is_space b)) [
  | inl h ↦ further p (length bs) t (token-within true (p + 1) bs (u ∷ front) t back (sym (tokens-space true p b bs h) ∙ e))
  | inr h ↦
      let later = tail-same (token_at p (b ∷ bs)) u (tokens_from false (p + 1) bs) (front ++ t ∷ back) (sym (tokens-begin p b bs h) ∙ e) in
      further p (length bs) t (token-within false (p + 1) bs front t back later)
]

-- no token goes on or begins with the first of these bytes
abbrev IsGap : List ℕ → Type 0
IsGap bytes = word bytes ≡ []

-- where a token goes up to this place, it does so whatever follows the gap behind it
word-ends : (p : ℕ) (xs ys zs : List ℕ) → length (word (xs ++ ys)) ≡ length xs → IsGap zs
    → (word (xs ++ zs) ≡ word (xs ++ ys)) × (tokens_from false p (xs ++ zs) ≡ tokens_from false (p + length xs) zs)
word-ends p [] ys zs e gap = (gap ∙ none (word ys) e, ap (λ (q : ℕ). tokens_from false q zs) (sym (add-zero p)))
  where
    none : (w : List ℕ) → length w ≡ 0 → [] ≡ w
    none [] e = refl
    none (b ∷ w) e = cc
word-ends p (b ∷ xs) ys zs e gap = elim (either (is_space b)) [
  | inl h ↦ let no : 0 ≡ suc (length xs) = rw (word-space b (xs ++ ys) h) at e in absurd (omega (arith, no))
  | inr h ↦
      let longer : suc (length (word (xs ++ ys))) ≡ suc (length xs) = rw (word-other b (xs ++ ys) h) at e in
      let r = word-ends (p + 1) xs ys zs (omega (arith, longer)) gap in (
        word-other b (xs ++ zs) h ∙ ap (λ (w : List ℕ). b ∷ w) r.0 ∙ sym (word-other b (xs ++ ys) h),
        tokens-within p b (xs ++ zs) h ∙ r.1 ∙ ap (λ (q : ℕ). tokens_from false q zs) (sym (shift p (length xs))),
      )
]

-- a word that another token follows has ended before that token
word-before : (p : ℕ) (xs ys zs : List ℕ) (front : List PlacedToken) (t : PlacedToken) (back : List PlacedToken)
    → tokens_from false p (xs ++ ys) ≡ front ++ t ∷ back → t.to ≡ p + length xs → word (xs ++ zs) ≡ word (xs ++ ys)
word-before p [] ys zs front t back e to = let w = token-within false p ys front t back e in absurd (omega (arith, w.0, w.1, to))
word-before p (b ∷ xs) ys zs front t back e to = elim (either (is_space b)) [
  | inl h ↦ word-space b (xs ++ zs) h ∙ sym (word-space b (xs ++ ys) h)
  | inr h ↦
      let later = sym (tokens-within p b (xs ++ ys) h) ∙ e in
      word-other b (xs ++ zs) h
      ∙ ap (λ (w : List ℕ). b ∷ w) (word-before (p + 1) xs ys zs front t back later (to ∙ shift p (length xs)))
      ∙ sym (word-other b (xs ++ ys) h)
]

token-same : (p b : ℕ) (xs ys zs : List ℕ) → is_space b ≡ false → word (xs ++ zs) ≡ word (xs ++ ys) → token_at p (b ∷ (xs ++ zs)) ≡ token_at p (b ∷ (xs ++ ys))
token-same p b xs ys zs h e =
    ap (λ (w : List ℕ). let t : PlacedToken = record { from = p; to = p + length w; token = meaning w } in t)
    (word-other b (xs ++ zs) h ∙ ap (λ (w : List ℕ). b ∷ w) e ∙ sym (word-other b (xs ++ ys) h))

-- the tokens up to this one are the same whatever follows a gap behind it
abbrev Cut : Bool → ℕ → List ℕ → List PlacedToken → PlacedToken → Type 0
Cut s p xs front t = (zs : List ℕ) → IsGap zs → tokens_from s p (xs ++ zs) ≡ front ++ t ∷ tokens_from false t.to zs

cut-space : (s : Bool) (p b : ℕ) (xs : List ℕ) (front : List PlacedToken) (t : PlacedToken) → is_space b ≡ true
    → Cut true (p + 1) xs front t → Cut s p (b ∷ xs) front t
cut-space s p b xs front t h c zs gap = tokens-space s p b (xs ++ zs) h ∙ c zs gap

cut-within : (p b : ℕ) (xs : List ℕ) (front : List PlacedToken) (t : PlacedToken) → is_space b ≡ false
    → Cut false (p + 1) xs front t → Cut false p (b ∷ xs) front t
cut-within p b xs front t h c zs gap = tokens-within p b (xs ++ zs) h ∙ c zs gap

-- the token itself is the first
cut-here : (p b : ℕ) (xs ys : List ℕ) (t : PlacedToken) → is_space b ≡ false → token_at p (b ∷ (xs ++ ys)) ≡ t → t.to ≡ p + suc (length xs)
    → Cut true p (b ∷ xs) [] t
cut-here p b xs ys t h here to zs gap =
    let goes : p + length (word (b ∷ (xs ++ ys))) ≡ t.to = ap (λ (u : PlacedToken). u.to) here in
    let longer : p + suc (length (word (xs ++ ys))) ≡ t.to = rw (word-other b (xs ++ ys) h) at goes in
    let r = word-ends (p + 1) xs ys zs (omega (arith, longer, to)) gap in
    let place : (p + 1) + length xs ≡ t.to = omega (arith, to) in
    tokens-begin p b (xs ++ zs) h
    ∙ ap (λ (u : PlacedToken). u ∷ tokens_from false (p + 1) (xs ++ zs)) (token-same p b xs ys zs h r.0 ∙ here)
    ∙ ap (λ (ts : List PlacedToken). t ∷ ts) (r.1 ∙ ap (λ (q : ℕ). tokens_from false q zs) place)

-- another token comes first
cut-later : (p b : ℕ) (xs ys : List ℕ) (u : PlacedToken) (front : List PlacedToken) (t : PlacedToken) (back : List PlacedToken) → is_space b ≡ false
    → token_at p (b ∷ (xs ++ ys)) ≡ u → tokens_from false (p + 1) (xs ++ ys) ≡ front ++ t ∷ back → t.to ≡ (p + 1) + length xs
    → Cut false (p + 1) xs front t → Cut true p (b ∷ xs) (u ∷ front) t
cut-later p b xs ys u front t back h first later to c zs gap =
    tokens-begin p b (xs ++ zs) h
    ∙ ap (λ (v : PlacedToken). v ∷ tokens_from false (p + 1) (xs ++ zs))
    (token-same p b xs ys zs h (word-before (p + 1) xs ys zs front t back later to) ∙ first)
    ∙ ap (λ (ts : List PlacedToken). u ∷ ts) (c zs gap)

cut : (s : Bool) (p : ℕ) (xs ys : List ℕ) (front : List PlacedToken) (t : PlacedToken) (back : List PlacedToken)
    → tokens_from s p (xs ++ ys) ≡ front ++ t ∷ back → t.to ≡ p + length xs → Cut s p xs front t
cut s p [] ys front t back e to = let w = token-within s p ys front t back e in absurd (omega (arith, w.0, w.1, to))
cut false p (b ∷ xs) ys front t back e to = elim (either (is_space b)) [
  | inl h ↦ cut-space false p b xs front t h (cut true (p + 1) xs ys front t back (sym (tokens-space false p b (xs ++ ys) h) ∙ e) (to ∙ shift p (length xs)))
  | inr h ↦ cut-within p b xs front t h (cut false (p + 1) xs ys front t back (sym (tokens-within p b (xs ++ ys) h) ∙ e) (to ∙ shift p (length xs)))
]
cut true p (b ∷ xs) ys [] t back e to = elim (either (is_space b)) [
  | inl h ↦ cut-space true p b xs [] t h (cut true (p + 1) xs ys [] t back (sym (tokens-space true p b (xs ++ ys) h) ∙ e) (to ∙ shift p (length xs)))
  | inr h ↦
      let all = sym (tokens-begin p b (xs ++ ys) h) ∙ e in
      cut-here p b xs ys t h (head-same (token_at p (b ∷ (xs ++ ys))) t (tokens_from false (p + 1) (xs ++ ys)) back all) to
]
cut true p (b ∷ xs) ys (u ∷ front) t back e to = elim (either (is_space b)) [
  | inl h ↦ cut-space true p b xs (u ∷ front) t h (cut true (p + 1) xs ys (u ∷ front) t back (sym (tokens-space true p b (xs ++ ys) h) ∙ e) (to ∙ shift p (length xs)))
  | inr h ↦
      let all = sym (tokens-begin p b (xs ++ ys) h) ∙ e in
      let first = head-same (token_at p (b ∷ (xs ++ ys))) u (tokens_from false (p + 1) (xs ++ ys)) (front ++ t ∷ back) all in
      let later = tail-same (token_at p (b ∷ (xs ++ ys))) u (tokens_from false (p + 1) (xs ++ ys)) (front ++ t ∷ back) all in
      let place = to ∙ shift p (length xs) in
      cut-later p b xs ys u front t back h first later place (cut false (p + 1) xs ys front t back later place)
]

gap-space : (b : ℕ) (bs : List ℕ) → is_space b ≡ true → IsGap (b ∷ bs)
gap-space b bs h = word-space b bs h

line-end-space : (b : ℕ) → is_space b ≡ false → is_line_end b ≡ false
line-end-space b h = grind (arith, h)

-- what ends a token is a gap once comments are blanked
gap-of-end : (within : Bool) (rest : List ℕ) → goes_on_apart rest ≡ true → IsGap (blanked within rest)
unfolding blanked
gap-of-end within [] e = refl
gap-of-end within (b ∷ bs) e = elim (either (is_space b)) [
  | inl h ↦ space-or-blank ((within || (b == 35)) && not (is_line_end b)) h refl
  | inr h ↦
      let hash : (b == 35) ≡ true = rw h at e in
      rw (hash, line-end-space b h) (hash-blank within)
]
  where
    space-or-blank : (c : Bool) → is_space b ≡ true → ((within || (b == 35)) && not (is_line_end b)) ≡ c → IsGap (blanked within (b ∷ bs))
    space-or-blank true h q = rw q refl
    space-or-blank false h q = rw q (gap-space b (blanked false bs) h)

    hash-blank : (w : Bool) → IsGap (if (w || true) && true then 32 ∷ blanked true bs else b ∷ blanked false bs)
    hash-blank true = refl
    hash-blank false = refl

-- up to a token's end, and with anything behind it that ends it, the tokens so far are the same
pub tokens-onward : (bytes : List ℕ) (front : List PlacedToken) (t : PlacedToken) (back : List PlacedToken) → tokens bytes ≡ front ++ t ∷ back
    → (rest : List ℕ) → goes_on_apart rest ≡ true → (more : List PlacedToken) × (tokens (take t.to bytes ++ rest) ≡ front ++ t ∷ more)
tokens-onward bytes front t back e rest ended =
    let xs = blanked false bytes in
    let w = token-within true 0 xs front t back e in
    let room : t.to ≤ length xs = omega (arith, w.2) in
    let whole : tokens_from true 0 (take t.to xs ++ drop t.to xs) ≡ front ++ t ∷ back = ap (λ (all : List ℕ). tokens_from true 0 all) (take-append-drop t.to xs) ∙ e in
    let to : t.to ≡ 0 + length (take t.to xs) = rw (length-take-le t.to xs room) (omega arith) in
    let r = blanked-more false (take t.to bytes) rest in
    let same = cut true 0 (take t.to xs) (drop t.to xs) front t back whole to (blanked r.0 rest) (gap-of-end r.0 rest ended) in (
      tokens_from false t.to (blanked r.0 rest),
      ap (λ (all : List ℕ). tokens_from true 0 all) (r.1 ∙ ap (λ (all : List ℕ). all ++ blanked r.0 rest) (blanked-take false t.to bytes)) ∙ same,
    )

pub tokens-cut : (bytes : List ℕ) (front : List PlacedToken) (t : PlacedToken) (back : List PlacedToken) → tokens bytes ≡ front ++ t ∷ back
    → tokens (take t.to bytes) ≡ front ++ t ∷ []
unfolding tokens_from
tokens-cut bytes front t back e =
    let xs = blanked false bytes in
    let w = token-within true 0 xs front t back e in
    let room : t.to ≤ length xs = omega (arith, w.2) in
    let whole : tokens_from true 0 (take t.to xs ++ drop t.to xs) ≡ front ++ t ∷ back = ap (λ (all : List ℕ). tokens_from true 0 all) (take-append-drop t.to xs) ∙ e in
    let to : t.to ≡ 0 + length (take t.to xs) = rw (length-take-le t.to xs room) (omega arith) in
    let same = cut true 0 (take t.to xs) (drop t.to xs) front t back whole to [] refl in
    ap (λ (all : List ℕ). tokens_from true 0 all) (blanked-take false t.to bytes ∙ sym (append-nil (take t.to xs))) ∙ same

-- a token has at least one byte, and ends with the input at the latest
pub token-inside : (bytes : List ℕ) (front : List PlacedToken) (t : PlacedToken) (back : List PlacedToken) → tokens bytes ≡ front ++ t ∷ back
    → (t.from < t.to) × (t.to ≤ length bytes)
token-inside bytes front t back e =
    let w = token-within true 0 (blanked false bytes) front t back e in
    let same = blanked-length false bytes in
    (w.1, omega (arith, w.2, same))
