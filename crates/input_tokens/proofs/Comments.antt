-- What is blanked is what a comment covers.
use Rattle.std.proofs.Common.{◌≡◌, ◌≢◌, ℕ, zero, suc, ◌<◌, ◌≤◌, Bool, true, false, not, ◌&&◌, ◌||◌, List, [], ◌∷◌, length, get_or, refl, sym, ◌∙◌, subst, ◌⊎◌, inl, inr, arith}
use Rattle.std.specs.Prelude.{◌==◌, if◌then◌else◌}
use Rattle.input_tokens.specs.Tokens.{is_space, is_line_end, blanked}
use Rattle.input_tokens.specs.LongestRuns.{IsCommented}
use Rattle.input_tokens.proofs.CutInputs.{either}

both : (w h l : Bool) → ((w || h) && not l) ≡ true → (l ≡ false) × ((w ≡ true) ⊎ (h ≡ true))
both true h false e = (refl, inl refl)
both false true false e = (refl, inr refl)
both false false false e = cc
both true h true e = cc
both false true true e = cc
both false false true e = cc

pub none : (w h l : Bool) → ((w || h) && not l) ≡ false → l ≡ false → (w ≡ false) × (h ≡ false)
none true h false e l = cc
none false true false e l = cc
none false false false e l = (refl, refl)
none w h true e l = cc

-- a comment covers this place, or the comment does in which the bytes begin
abbrev pub Covered : Bool → List ℕ → ℕ → Type 0
Covered within bytes i = ((within ≡ true) × ((k : ℕ) → k ≤ i → is_line_end (get_or bytes k 0) ≡ false)) ⊎ IsCommented bytes i

-- a comment of these bytes, with one byte before them
later : (b : ℕ) (bs : List ℕ) (i : ℕ) → IsCommented bs i → IsCommented (b ∷ bs) (suc i)
later b bs i c = record {
  from = suc c.from;
  before = omega (arith, c.before);
  hash = c.hash;
  one_line = line;
}
  where
    line : (k : ℕ) → suc c.from ≤ k → k ≤ suc i → is_line_end (get_or (b ∷ bs) k 0) ≡ false
    line zero h l = absurd (omega (arith, h))
    line (suc k) h l = c.one_line k (omega (arith, h)) (omega (arith, l))

-- a comment that begins with the first byte
begun : (b : ℕ) (bs : List ℕ) (i : ℕ) → b ≡ 35 → is_line_end b ≡ false → ((k : ℕ) → suc k ≤ i → is_line_end (get_or bs k 0) ≡ false) → IsCommented (b ∷ bs) i
begun b bs i hash first line = record { from = 0; before = omega arith; hash = hash; one_line = all }
  where
    all : (k : ℕ) → 0 ≤ k → k ≤ i → is_line_end (get_or (b ∷ bs) k 0) ≡ false
    all zero h l = first
    all (suc k) h l = line k l

-- a comment that covers a later byte begins with the first one or later
sooner : (b : ℕ) (bs : List ℕ) (i from : ℕ) → from ≤ suc i → get_or (b ∷ bs) from 0 ≡ 35
    → ((k : ℕ) → from ≤ k → k ≤ suc i → is_line_end (get_or (b ∷ bs) k 0) ≡ false)
    → ((b ≡ 35) × (is_line_end b ≡ false) × ((k : ℕ) → k ≤ i → is_line_end (get_or bs k 0) ≡ false)) ⊎ IsCommented bs i
sooner b bs i zero h hash line = inl (hash, line 0 (omega arith) (omega arith), λ k l. line (suc k) (omega arith) (omega (arith, l)))
sooner b bs i (suc from) h hash line =
    inr (record { from = from; before = omega (arith, h); hash = hash; one_line = λ k p q. line (suc k) (omega (arith, p)) (omega (arith, q)) })

-- what is blanked behind the first byte
abbrev Opens : Bool → ℕ → Bool
Opens within b = (within || (b == 35)) && not (is_line_end b)

pub hash-is : (b : ℕ) → (b == 35) ≡ true → b ≡ 35
hash-is b e = grind (arith, e)

pub hash-not : (b : ℕ) → (b == 35) ≡ false → b ≢ 35
hash-not b e = grind (arith, e)

-- a first byte that a comment covers
covered-first : (within : Bool) (b : ℕ) (bs : List ℕ) → Opens within b ≡ true → Covered within (b ∷ bs) 0
covered-first within b bs e =
    let f = both within (b == 35) (is_line_end b) e in
    elim f.1 [
      | inl w ↦ inl (w, λ k h. let z : k ≡ 0 = omega (arith, h) in rw z f.0)
      | inr h ↦ inr (begun b bs 0 (hash-is b h) f.0 (λ k l. absurd (omega (arith, l))))
    ]

not-covered-first : (within : Bool) (b : ℕ) (bs : List ℕ) → Opens within b ≡ false → is_line_end b ≡ false → Covered within (b ∷ bs) 0 → ⊥
not-covered-first within b bs e l c =
    let f = none within (b == 35) (is_line_end b) e l in
    elim c [
      | inl w ↦ let no : true ≡ false = sym w.0 ∙ f.0 in cc
      | inr h ↦ let z : h.from ≡ 0 = omega (arith, h.before) in hash-not b f.1 (rw z at h.hash)
    ]

covered-down : (within : Bool) (b : ℕ) (bs : List ℕ) (i : ℕ) → Covered within (b ∷ bs) (suc i) → Covered (Opens within b) bs i
covered-down within b bs i c = elim (either (Opens within b)) [
  | inl e ↦ elim c [
    | inl w ↦ inl (e, λ k h. w.1 (suc k) (omega (arith, h)))
    | inr h ↦ elim (sooner b bs i h.from h.before h.hash h.one_line) [
      | inl s ↦ inl (e, s.2)
      | inr s ↦ inr s
    ]
  ]
  | inr e ↦ elim c [
    | inl w ↦ let f = none within (b == 35) (is_line_end b) e (w.1 0 (omega arith)) in let no : true ≡ false = sym w.0 ∙ f.0 in cc
    | inr h ↦ elim (sooner b bs i h.from h.before h.hash h.one_line) [
      | inl s ↦ let f = none within (b == 35) (is_line_end b) e s.1 in absurd (hash-not b f.1 s.0)
      | inr s ↦ inr s
    ]
  ]
]

covered-up : (within : Bool) (b : ℕ) (bs : List ℕ) (i : ℕ) → Covered (Opens within b) bs i → Covered within (b ∷ bs) (suc i)
covered-up within b bs i (inr c) = inr (later b bs i c)
covered-up within b bs i (inl c) =
    let f = both within (b == 35) (is_line_end b) c.0 in
    elim f.1 [
      | inl w ↦ inl (w, line f.0)
      | inr h ↦ inr (begun b bs (suc i) (hash-is b h) f.0 (λ k l. c.1 k (omega (arith, l))))
    ]
  where
    line : is_line_end b ≡ false → (k : ℕ) → k ≤ suc i → is_line_end (get_or (b ∷ bs) k 0) ≡ false
    line first zero h = first
    line first (suc k) h = c.1 k (omega (arith, h))

-- these bytes, which comments of the others are blanked in, have no white space exactly where those have none and no comment covers them
pub record IsTold (shown : List ℕ) (within : Bool) (bytes : List ℕ) (i : ℕ) : Type 0 where
  pub shows : is_space (get_or shown i 0) ≡ false → (is_space (get_or bytes i 0) ≡ false) × (Covered within bytes i → ⊥) × (get_or shown i 0 ≡ get_or bytes i 0)
  pub hides : is_space (get_or bytes i 0) ≡ false → (Covered within bytes i → ⊥) → is_space (get_or shown i 0) ≡ false

blanked-by : (within : Bool) (b : ℕ) (bs : List ℕ) → blanked within (b ∷ bs) ≡ (if Opens within b then 32 else b) ∷ blanked (Opens within b) bs
unfolding blanked
blanked-by within b bs = by (Opens within b)
  where
    by : (o : Bool) → (if o then 32 ∷ blanked true bs else b ∷ blanked false bs) ≡ (if o then 32 else b) ∷ blanked o bs
    by true = refl
    by false = refl

pub blanked-open : (within : Bool) (b : ℕ) (bs : List ℕ) → Opens within b ≡ true → blanked within (b ∷ bs) ≡ 32 ∷ blanked true bs
unfolding blanked
blanked-open within b bs e = rw e refl

pub blanked-shut : (within : Bool) (b : ℕ) (bs : List ℕ) → Opens within b ≡ false → blanked within (b ∷ bs) ≡ b ∷ blanked false bs
unfolding blanked
blanked-shut within b bs e = rw e refl

pub line-end-no : (b : ℕ) → is_space b ≡ false → is_line_end b ≡ false
line-end-no b h = grind (arith, h)

pub told : (within : Bool) (bytes : List ℕ) (i : ℕ) → i < length bytes → IsTold (blanked within bytes) within bytes i
told within [] i h = absurd (omega (arith, h))
told within (b ∷ bs) zero h = elim (either (Opens within b)) [
  | inl e ↦
      subst (λ (zs : List ℕ). IsTold zs within (b ∷ bs) 0) (sym (blanked-open within b bs e))
      (record { shows = λ s. cc; hides = λ s n. absurd (n (covered-first within b bs e)) })
  | inr e ↦
      subst (λ (zs : List ℕ). IsTold zs within (b ∷ bs) 0) (sym (blanked-shut within b bs e))
      (record { shows = λ s. (s, not-covered-first within b bs e (line-end-no b s), refl); hides = λ s n. s })
]
told within (b ∷ bs) (suc i) h =
    let t = told (Opens within b) bs i (omega (arith, h)) in
    subst (λ (zs : List ℕ). IsTold zs within (b ∷ bs) (suc i)) (sym (blanked-by within b bs)) (record {
      shows = λ s.
          let r = t.shows s in
          (r.0, λ c. r.1 (covered-down within b bs i c), r.2);
      hides = λ s n. t.hides s (λ c. n (covered-up within b bs i c));
    })
