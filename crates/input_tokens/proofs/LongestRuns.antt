-- Tokens are longest runs.
use Rattle.std.proofs.Common.{◌≡◌, ℕ, zero, suc, ◌+◌, ◌-◌, ◌<◌, ◌≤◌, Bool, true, false, List, [], ◌∷◌, ◌++◌, length, take, drop, get_or, refl, sym, ap, ◌∙◌, subst, ◌⊎◌, inl, inr, arith, add-zero}
use Rattle.std.specs.Prelude.{Contains, nat_lt}
use Rattle.std.proofs.lemmas.List.{length-drop, get_or-drop}
use Rattle.std.proofs.lemmas.List.Elements.{Contains-append_cases, Contains-append_right, Contains-append_left, Contains-push, All-contains, All-cons, All-nil}
use Rattle.input_tokens.specs.Tokens.{PlacedToken, is_space, blanked, word, token_at, tokens_from, meaning, tokens}
use Rattle.input_tokens.specs.LongestRuns.{IsTokenByte, IsLongestRun}
use Rattle.input_tokens.proofs.ByteByByte.{word-space, word-other, tokens-space, tokens-begin, tokens-within, shift}
use Rattle.input_tokens.proofs.CutInputs.{either, head-same, tail-same, blanked-length, word-le}
use Rattle.input_tokens.proofs.Comments.{told}

contains-first : (t : PlacedToken) (ts : List PlacedToken) → Contains (t ∷ ts) t
contains-first t ts = Contains-append_left (t ∷ []) ts t (Contains-push [] t)

contains-later : (u t : PlacedToken) (ts : List PlacedToken) → Contains ts t → Contains (u ∷ ts) t
contains-later u t ts h = Contains-append_right (u ∷ []) ts t h

one-of : (u t : PlacedToken) → Contains (u ∷ []) t → u ≡ t
one-of u t h = All-contains (λ v. u ≡ v) (u ∷ []) t (All-cons (λ v. u ≡ v) u [] refl (All-nil (λ v. u ≡ v))) h

-- a word has no white space, and ends before some or with the bytes
word-run : (ys : List ℕ) (i : ℕ) → i < length (word ys) → is_space (get_or ys i 0) ≡ false
word-run [] i h = absurd (omega (arith, h))
word-run (b ∷ ys) zero h = elim (either (is_space b)) [
  | inl e ↦ let no : 0 < 0 = rw (word-space b ys e) at h in absurd (omega (arith, no))
  | inr e ↦ e
]
word-run (b ∷ ys) (suc i) h = elim (either (is_space b)) [
  | inl e ↦ let no : suc i < 0 = rw (word-space b ys e) at h in absurd (omega (arith, no))
  | inr e ↦ let more : suc i < suc (length (word ys)) = rw (word-other b ys e) at h in word-run ys i (omega (arith, more))
]

word-stops : (ys : List ℕ) → length (word ys) < length ys → is_space (get_or ys (length (word ys)) 0) ≡ true
word-stops [] h = absurd (omega (arith, h))
word-stops (b ∷ ys) h = elim (either (is_space b)) [
  | inl e ↦ rw (word-space b ys e) e
  | inr e ↦
      let more : suc (length (word ys)) < suc (length ys) = rw (word-other b ys e) at h in
      rw (word-other b ys e) (word-stops ys (omega (arith, more)))
]

word-take : (ys : List ℕ) → word ys ≡ take (length (word ys)) ys
word-take [] = refl
word-take (b ∷ ys) = elim (either (is_space b)) [
  | inl e ↦ rw (word-space b ys e) refl
  | inr e ↦ rw (word-other b ys e) (ap (λ (w : List ℕ). b ∷ w) (word-take ys))
]

-- where a token begins among bytes without comments: right behind white space, or first
record Begins (after : Bool) (place : ℕ) (xs : List ℕ) (t : PlacedToken) : Type 0 where
  at : ℕ
  within : at < length xs
  first : is_space (get_or xs at 0) ≡ false
  is : t ≡ token_at (place + at) (drop at xs)
  behind : (i : ℕ) → suc i ≡ at → is_space (get_or xs i 0) ≡ true
  front : at ≡ 0 → after ≡ true

begins-later : (after into : Bool) (place b : ℕ) (bs : List ℕ) (t : PlacedToken) → (into ≡ true → is_space b ≡ true)
    → Begins into (place + 1) bs t → Begins after place (b ∷ bs) t
begins-later after into place b bs t space s = record {
  at = suc s.at;
  within = omega (arith, s.within);
  first = s.first;
  is = s.is ∙ ap (λ (p : ℕ). token_at p (drop s.at bs)) (sym (shift place s.at));
  behind = before;
  front = λ e. cc;
}
  where
    before : (i : ℕ) → suc i ≡ suc s.at → is_space (get_or (b ∷ bs) i 0) ≡ true
    before zero e = space (s.front (omega (arith, e)))
    before (suc i) e = s.behind i (omega (arith, e))

begins-here : (place b : ℕ) (bs : List ℕ) (t : PlacedToken) → is_space b ≡ false → token_at place (b ∷ bs) ≡ t → Begins true place (b ∷ bs) t
begins-here place b bs t e same = record {
  at = 0;
  within = omega arith;
  first = e;
  is = sym same ∙ ap (λ (p : ℕ). token_at p (b ∷ bs)) (sym (add-zero place));
  behind = λ i q. cc;
  front = λ q. refl;
}

begins : (after : Bool) (place : ℕ) (xs : List ℕ) (t : PlacedToken) → Contains (tokens_from after place xs) t → Begins after place xs t
unfolding tokens_from
begins after place [] t h = absurd (omega (arith, h.1))
begins false place (b ∷ bs) t h = elim (either (is_space b)) [
  | inl e ↦ begins-later false true place b bs t (λ r. e) (begins true (place + 1) bs t (subst (λ (ts : List PlacedToken). Contains ts t) (tokens-space false place b bs e) h))
  | inr e ↦ begins-later false false place b bs t (λ r. cc) (begins false (place + 1) bs t (subst (λ (ts : List PlacedToken). Contains ts t) (tokens-within place b bs e) h))
]
begins true place (b ∷ bs) t h = elim (either (is_space b)) [
  | inl e ↦ begins-later true true place b bs t (λ r. e) (begins true (place + 1) bs t (subst (λ (ts : List PlacedToken). Contains ts t) (tokens-space true place b bs e) h))
  | inr e ↦
      elim (Contains-append_cases (token_at place (b ∷ bs) ∷ []) (tokens_from false (place + 1) bs) t (subst (λ (ts : List PlacedToken). Contains ts t) (tokens-begin place b bs e) h)) [
        | inl here ↦ begins-here place b bs t e (one-of (token_at place (b ∷ bs)) t here)
        | inr later ↦ begins-later true false place b bs t (λ r. cc) (begins false (place + 1) bs t later)
      ]
]

-- a byte is in one of the tokens, or still in the word at the front
abbrev Covering : Bool → ℕ → List ℕ → ℕ → Type 0
Covering after place xs i =
    ((t : PlacedToken) × Contains (tokens_from after place xs) t × (t.from ≤ place + i) × (place + i < t.to)) ⊎ ((after ≡ false) × (i < length (word xs)))

covers-here : (place b : ℕ) (bs : List ℕ) (i : ℕ) → is_space b ≡ false → i < length (word (b ∷ bs)) → Covering true place (b ∷ bs) i
covers-here place b bs i e w =
    inl (token_at place (b ∷ bs), rw (tokens-begin place b bs e) (contains-first (token_at place (b ∷ bs)) (tokens_from false (place + 1) bs)), omega arith, omega (arith, w))

covers-spaced : (after : Bool) (place b : ℕ) (bs : List ℕ) (i : ℕ) → is_space b ≡ true → Covering true (place + 1) bs i → Covering after place (b ∷ bs) (suc i)
covers-spaced after place b bs i e (inl t) = inl (t.0, rw (tokens-space after place b bs e) t.1, omega (arith, t.2), omega (arith, t.3))
covers-spaced after place b bs i e (inr w) = let no = w.0 in cc

covers-within : (place b : ℕ) (bs : List ℕ) (i : ℕ) → is_space b ≡ false → Covering false (place + 1) bs i → Covering false place (b ∷ bs) (suc i)
covers-within place b bs i e (inl t) = inl (t.0, rw (tokens-within place b bs e) t.1, omega (arith, t.2), omega (arith, t.3))
covers-within place b bs i e (inr w) = let long = w.1 in inr (refl, rw (word-other b bs e) (omega (arith, long)))

covers-begun : (place b : ℕ) (bs : List ℕ) (i : ℕ) → is_space b ≡ false → Covering false (place + 1) bs i → Covering true place (b ∷ bs) (suc i)
covers-begun place b bs i e (inl t) =
    inl (t.0, rw (tokens-begin place b bs e) (contains-later (token_at place (b ∷ bs)) t.0 (tokens_from false (place + 1) bs) t.1), omega (arith, t.2), omega (arith, t.3))
covers-begun place b bs i e (inr w) = let long = w.1 in covers-here place b bs (suc i) e (rw (word-other b bs e) (omega (arith, long)))

covers : (after : Bool) (place : ℕ) (xs : List ℕ) (i : ℕ) → i < length xs → is_space (get_or xs i 0) ≡ false → Covering after place xs i
covers after place [] i h s = absurd (omega (arith, h))
covers false place (b ∷ bs) zero h s = inr (refl, rw (word-other b bs s) (omega arith))
covers true place (b ∷ bs) zero h s = covers-here place b bs 0 s (rw (word-other b bs s) (omega arith))
covers false place (b ∷ bs) (suc i) h s = elim (either (is_space b)) [
  | inl e ↦ covers-spaced false place b bs i e (covers true (place + 1) bs i (omega (arith, h)) s)
  | inr e ↦ covers-within place b bs i e (covers false (place + 1) bs i (omega (arith, h)) s)
]
covers true place (b ∷ bs) (suc i) h s = elim (either (is_space b)) [
  | inl e ↦ covers-spaced true place b bs i e (covers true (place + 1) bs i (omega (arith, h)) s)
  | inr e ↦ covers-begun place b bs i e (covers false (place + 1) bs i (omega (arith, h)) s)
]

-- inside a word, the next token begins behind the white space that ends it
after-word : (place : ℕ) (ys : List ℕ) (u : PlacedToken) → Contains (tokens_from false place ys) u → place + length (word ys) < u.from
after-word place ys u h =
    let s = begins false place ys u h in
    behind-word place ys u s.at (ap (λ (v : PlacedToken). v.from) s.is) s.front s.behind
  where
    behind-word : (place : ℕ) (ys : List ℕ) (u : PlacedToken) (n : ℕ) → u.from ≡ place + n → (n ≡ 0 → false ≡ true) → ((i : ℕ) → suc i ≡ n → is_space (get_or ys i 0) ≡ true)
        → place + length (word ys) < u.from
    behind-word place ys u zero from front behind = let no = front refl in cc
    behind-word place ys u (suc n) from front behind = elim (either (nat_lt n (length (word ys)))) [
      | inl e ↦ let no : true ≡ false = sym (behind n refl) ∙ word-run ys n (grind (arith, e)) in cc
      | inr e ↦ let short : length (word ys) ≤ n = grind (arith, e) in omega (arith, from, short)
    ]

in-order : (after : Bool) (place : ℕ) (xs : List ℕ) (front : List PlacedToken) (t u : PlacedToken) (back : List PlacedToken)
    → tokens_from after place xs ≡ front ++ t ∷ u ∷ back → t.to < u.from
unfolding tokens_from
in-order after place [] [] t u back e = cc
in-order after place [] (f ∷ front) t u back e = cc
in-order false place (b ∷ bs) front t u back e = elim (either (is_space b)) [
  | inl h ↦ in-order true (place + 1) bs front t u back (sym (tokens-space false place b bs h) ∙ e)
  | inr h ↦ in-order false (place + 1) bs front t u back (sym (tokens-within place b bs h) ∙ e)
]
in-order true place (b ∷ bs) [] t u back e = elim (either (is_space b)) [
  | inl h ↦ in-order true (place + 1) bs [] t u back (sym (tokens-space true place b bs h) ∙ e)
  | inr h ↦
      let all = sym (tokens-begin place b bs h) ∙ e in
      let here = head-same (token_at place (b ∷ bs)) t (tokens_from false (place + 1) bs) (u ∷ back) all in
      let later = tail-same (token_at place (b ∷ bs)) t (tokens_from false (place + 1) bs) (u ∷ back) all in
      let next = after-word (place + 1) bs u (rw later (contains-first u back)) in
      let to : place + length (word (b ∷ bs)) ≡ t.to = ap (λ (v : PlacedToken). v.to) here in
      let upto : place + suc (length (word bs)) ≡ t.to = rw (word-other b bs h) at to in
      omega (arith, next, upto)
]
in-order true place (b ∷ bs) (f ∷ front) t u back e = elim (either (is_space b)) [
  | inl h ↦ in-order true (place + 1) bs (f ∷ front) t u back (sym (tokens-space true place b bs h) ∙ e)
  | inr h ↦
      let later = tail-same (token_at place (b ∷ bs)) f (tokens_from false (place + 1) bs) (front ++ t ∷ u ∷ back) (sym (tokens-begin place b bs h) ∙ e) in
      in-order false (place + 1) bs front t u back later
]

-- a byte that isn't white space once comments are blanked is one of a token
token-byte : (bytes : List ℕ) (i : ℕ) → i < length bytes → is_space (get_or (blanked false bytes) i 0) ≡ false → IsTokenByte bytes i × (get_or (blanked false bytes) i 0 ≡ get_or bytes i 0)
token-byte bytes i h s =
    let r = (told false bytes i h).shows s in
    (record { there = h; no_space = r.0; no_comment = λ c. r.1 (inr c) }, r.2)

shown-byte : (bytes : List ℕ) (i : ℕ) → IsTokenByte bytes i → is_space (get_or (blanked false bytes) i 0) ≡ false
shown-byte bytes i is = (told false bytes i is.there).hides is.no_space (λ c. elim c [
  | inl w ↦ let no = w.0 in cc
  | inr h ↦ is.no_comment h
])

-- lists that have the same first elements
take-same : (n : ℕ) (xs ys : List ℕ) → n ≤ length xs → n ≤ length ys → ((i : ℕ) → i < n → get_or xs i 0 ≡ get_or ys i 0) → take n xs ≡ take n ys
take-same zero xs ys h k same = refl
take-same (suc n) [] ys h k same = absurd (omega (arith, h))
take-same (suc n) (x ∷ xs) [] h k same = absurd (omega (arith, k))
take-same (suc n) (x ∷ xs) (y ∷ ys) h k same =
    let first : x ≡ y = same 0 (omega arith) in
    rw first (ap (λ (zs : List ℕ). y ∷ zs) (take-same n xs ys (omega (arith, h)) (omega (arith, k)) (λ i l. same (suc i) (omega (arith, l)))))

zero-plus : (k : ℕ) → 0 + k ≡ k
zero-plus k = omega arith

span : (at n from to : ℕ) → from ≡ at → to ≡ at + n → n ≡ to - from
span at n from to e f = omega (arith, e, f)

nonempty : (ys : List ℕ) → 0 < length ys → is_space (get_or ys 0 0) ≡ false → 0 < length (word ys)
nonempty [] h s = absurd (omega (arith, h))
nonempty (b ∷ ys) h s = rw (word-other b ys s) (omega arith)

pub runs : (bytes : List ℕ) (t : PlacedToken) → Contains (tokens bytes) t → IsLongestRun bytes t
runs bytes t h = of (begins true 0 (blanked false bytes) t h)
  where
    of : Begins true 0 (blanked false bytes) t → IsLongestRun bytes t
    of s =
        let xs = blanked false bytes in
        let ys = drop s.at xs in
        let n = length (word ys) in
        let long = blanked-length false bytes in
        let left : length ys ≡ length xs - s.at = length-drop s.at xs in
        let most = word-le ys in
        let from : t.from ≡ s.at = ap (λ (v : PlacedToken). v.from) s.is ∙ zero-plus s.at in
        let to : t.to ≡ s.at + n = ap (λ (v : PlacedToken). v.to) s.is ∙ ap (λ (k : ℕ). k + n) (zero-plus s.at) in
        let some : 0 < n = nonempty ys (omega (arith, left, s.within)) (rw (get_or-drop s.at xs 0 0, add-zero) s.first) in
        let inside : (k : ℕ) → k < n → is_space (get_or xs (s.at + k) 0) ≡ false = λ k l. rw (← get_or-drop s.at xs k 0) (word-run ys k l) in
        record {
          some = omega (arith, from, to, some);
          run = λ place l m.
              let k : s.at + (place - s.at) ≡ place = omega (arith, from, l) in
              (token-byte bytes place (omega (arith, m, to, most, left, long, s.within)) (rw k at (inside (place - s.at) (omega (arith, m, to, from, l))))).0;
          begins = λ place e is.
              let no : true ≡ false = sym (s.behind place (e ∙ from)) ∙ shown-byte bytes place is in
              cc;
          ends = λ is.
              let there = is.there in
              let stop = word-stops ys (omega (arith, there, to, left, long, s.within)) in
              let here : is_space (get_or xs (s.at + n) 0) ≡ true = rw (get_or-drop s.at xs n 0) at stop in
              let no : true ≡ false = sym here ∙ (rw to at (shown-byte bytes t.to is)) in
              cc;
          says =
              ap (λ (v : PlacedToken). v.token) s.is
              ∙ ap meaning (word-take ys ∙ take-same n ys (drop s.at bytes) most (rw length-drop (omega (arith, most, left, long)))
              (λ i l. get_or-drop s.at xs i 0 ∙ (token-byte bytes (s.at + i) (omega (arith, l, most, left, long, s.within)) (inside i l)).1 ∙ sym (get_or-drop s.at bytes i 0)))
              ∙ ap (λ (k : ℕ). meaning (take k (drop s.at bytes))) (span s.at n t.from t.to from to)
              ∙ ap (λ (k : ℕ). meaning (take (t.to - t.from) (drop k bytes))) (sym from);
        }

-- each byte of a token is in one
pub all-in : (bytes : List ℕ) (i : ℕ) → IsTokenByte bytes i → (t : PlacedToken) × Contains (tokens bytes) t × (t.from ≤ i) × (i < t.to)
all-in bytes i is =
    let there = is.there in
    let long = blanked-length false bytes in
    elim (covers true 0 (blanked false bytes) i (omega (arith, there, long)) (shown-byte bytes i is)) [
      | inl t ↦ (t.0, t.1, omega (arith, t.2), omega (arith, t.3))
      | inr w ↦ let no = w.0 in cc
    ]

pub rising : (bytes : List ℕ) (front : List PlacedToken) (t u : PlacedToken) (back : List PlacedToken) → tokens bytes ≡ front ++ t ∷ u ∷ back → t.to < u.from
rising bytes front t u back e = in-order true 0 (blanked false bytes) front t u back e
