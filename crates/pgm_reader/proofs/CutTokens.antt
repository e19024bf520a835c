-- A token of some bytes, where more stands behind them.
use Rattle.std.proofs.Common.{◌≡◌, ℕ, suc, ◌+◌, ◌-◌, ◌<◌, ◌≤◌, Bool, false, List, [], ◌∷◌, ◌++◌, length, drop, inl, inr, refl, sym, ap, ◌∙◌, subst, arith}
use Rattle.std.specs.Prelude.{Some, None}
use Rattle.std.specs.List.{before_first}
use Rattle.std.proofs.lemmas.Bool.{cases_Bool}
use Rattle.std.proofs.lemmas.List.{drop-append-le, length-drop}
use Rattle.input_tokens.specs.Tokens.{is_space, blanked, meaning}
use Rattle.input_tokens.proofs.CutInputs.{blanked-first}
use Rattle.pgm_reader.specs.Pgm.{CutToken, ends_token, gap, cut, token_cut_at}
use Rattle.pgm_reader.proofs.NextToken.{gap-more, text-ends, text-more}

-- the bytes of the token that begins where these bytes do
abbrev text : Bool → List ℕ → List ℕ
text hash bytes = before_first (ends_token hash) bytes

text-le : (hash : Bool) (ys : List ℕ) → length (text hash ys) ≤ length ys
text-le hash [] = omega arith
text-le hash (b ∷ ys) = elim (cases_Bool (ends_token hash b)) [
  | inl e ↦ rw (text-ends hash b ys e) (omega arith)
  | inr e ↦ let h = text-le hash ys in rw (text-more hash b ys e) (omega (arith, h))
]

-- a text that ends within these bytes is the same whatever follows them
text-same : (hash : Bool) (ys rest : List ℕ) → length (text hash (ys ++ rest)) ≤ length ys → text hash (ys ++ rest) ≡ text hash ys
text-same hash [] rest h = none (text hash rest) h
  where
    none : (w : List ℕ) → length w ≤ 0 → w ≡ []
    none [] h = refl
    none (b ∷ w) h = absurd (omega (arith, h))
text-same hash (b ∷ ys) rest h = elim (cases_Bool (ends_token hash b)) [
  | inl e ↦ text-ends hash b (ys ++ rest) e ∙ sym (text-ends hash b ys e)
  | inr e ↦
      let longer : suc (length (text hash (ys ++ rest))) ≤ suc (length ys) = rw (text-more hash b (ys ++ rest) e) at h in
      text-more hash b (ys ++ rest) e ∙ ap (λ (w : List ℕ). b ∷ w) (text-same hash ys rest (omega (arith, longer))) ∙ sym (text-more hash b ys e)
]

pub gap-stops : (within into : Bool) (b c : ℕ) (bs : List ℕ) → blanked within (b ∷ bs) ≡ c ∷ blanked into bs → is_space c ≡ false → gap within (b ∷ bs) ≡ 0
unfolding gap
gap-stops within into b c bs e s = rw (e, s) refl

-- white space and comments that end within these bytes are the same whatever follows them
gap-same : (within : Bool) (ys rest : List ℕ) → gap within ys < length ys → gap within (ys ++ rest) ≡ gap within ys
gap-same within [] rest h = absurd (omega (arith, h))
gap-same within (b ∷ ys) rest h =
    let f = blanked-first within b in
    elim (cases_Bool (is_space f.0)) [
      | inl e ↦
          let here = gap-more within f.1 b f.0 ys (f.2 ys) e in
          let longer : suc (gap f.1 ys) < suc (length ys) = rw here at h in
          gap-more within f.1 b f.0 (ys ++ rest) (f.2 (ys ++ rest)) e ∙ ap suc (gap-same f.1 ys rest (omega (arith, longer))) ∙ sym here
      | inr e ↦ gap-stops within f.1 b f.0 (ys ++ rest) (f.2 (ys ++ rest)) e ∙ sym (gap-stops within f.1 b f.0 ys (f.2 ys) e)
    ]

-- a token with other bytes behind it
abbrev pub with_rest : CutToken → List ℕ → CutToken
with_rest t rest = record { from = t.from; token = t.token; to = t.to; rest = rest }

-- the token that begins with the first of these bytes
abbrev begun : Bool → ℕ → ℕ → List ℕ → CutToken
begun hash place b bs =
    let w = text hash (b ∷ bs) in
    record { from = place; token = meaning w; to = place + length w; rest = drop (length w) (b ∷ bs) }

begun-onward : (hash : Bool) (place b : ℕ) (bs rest : List ℕ) → length (text hash (b ∷ (bs ++ rest))) ≤ suc (length bs)
    → begun hash place b (bs ++ rest) ≡ with_rest (begun hash place b bs) (drop (length (text hash (b ∷ bs))) (b ∷ bs) ++ rest)
begun-onward hash place b bs rest h =
    let same = text-same hash (b ∷ bs) rest h in
    let over = drop-append-le (length (text hash (b ∷ bs))) (b ∷ bs) rest (text-le hash (b ∷ bs)) in
    ap (λ (w : List ℕ). let t : CutToken = record { from = place; token = meaning w; to = place + length w; rest = drop (length w) (b ∷ (bs ++ rest)) } in t) same
    ∙ ap (λ (r : List ℕ). with_rest (begun hash place b bs) r) over

cut-begun : (hash : Bool) (place n b : ℕ) (ys bs : List ℕ) → gap false ys ≡ n → drop n ys ≡ b ∷ bs → cut hash false place ys ≡ Some (begun hash (place + n) b bs)
unfolding cut token_cut_at
cut-begun hash place n b ys bs g d = rw (g, d) refl

cut-none : (hash : Bool) (place n : ℕ) (ys : List ℕ) → gap false ys ≡ n → drop n ys ≡ [] → cut hash false place ys ≡ None
unfolding cut token_cut_at
cut-none hash place n ys g d = rw (g, d) refl

-- a token that is cut from these bytes; the one that begins there, where more stands behind them, is the same if it ends within them
pub record IsCut (hash : Bool) (place : ℕ) (ys : List ℕ) (t : CutToken) : Type 0 where
  pub below : t.from < place + length ys
  pub left : t.to + length t.rest ≡ place + length ys
  pub onward : (rest : List ℕ) → (u : CutToken) × (cut hash false place (ys ++ rest) ≡ Some u) × (u.from ≡ t.from)
      × (u.to ≤ place + length ys → u ≡ with_rest t (t.rest ++ rest))

some-same : (x y : CutToken) → Some x ≡ Some y → x ≡ y
some-same x y e = cc

pub is-cut : (hash : Bool) (place : ℕ) (ys : List ℕ) (t : CutToken) → cut hash false place ys ≡ Some t → IsCut hash place ys t
is-cut hash place ys t e = from-rest (drop (gap false ys) ys) refl
  where
    from-rest : (zs : List ℕ) → drop (gap false ys) ys ≡ zs → IsCut hash place ys t
    from-rest [] d = let no : None ≡ Some t = sym (cut-none hash place (gap false ys) ys refl d) ∙ e in cc
    from-rest (b ∷ bs) d =
        let n = gap false ys in
        let here = some-same (begun hash (place + n) b bs) t (sym (cut-begun hash place n b ys bs refl d) ∙ e) in
        let long : length ys - n ≡ suc (length bs) = sym (length-drop n ys) ∙ ap (λ (zs : List ℕ). length zs) d in
        let w = text hash (b ∷ bs) in
        let short = text-le hash (b ∷ bs) in
        let over : length (drop (length w) (b ∷ bs)) ≡ suc (length bs) - length w = length-drop (length w) (b ∷ bs) in
        let same : gap false ys < length ys = omega (arith, long) in
        subst (λ (s : CutToken). IsCut hash place ys s) here (record {
          below = omega (arith, long);
          left = omega (arith, long, short, over);
          onward = λ rest.
              let g = gap-same false ys rest same in
              let behind = drop-append-le n ys rest (omega (arith, same)) ∙ ap (λ (zs : List ℕ). zs ++ rest) d in
              (begun hash (place + n) b (bs ++ rest), cut-begun hash place n b (ys ++ rest) (bs ++ rest) g behind, refl, λ h. begun-onward hash (place + n) b bs rest (omega (arith, h, long)));
        })
