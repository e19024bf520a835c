-- A picture that is read was spelled.
use Rattle.std.proofs.Common.{◌≡◌, ℕ, zero, suc, ◌+◌, ◌*◌, ◌/◌, ◌%◌, ◌<◌, ◌≤◌, Bool, true, false, List, [], ◌∷◌, ◌++◌, length, drop, All, inl, inr, refl, sym, ap, ◌∙◌, subst, arith}
use Rattle.std.specs.Prelude.{Result, Ok, Err, Option, Some, None, nat_lt, nat_eq, if◌then◌else◌}
use Rattle.std.specs.List.{flat_map}
use Rattle.std.proofs.lemmas.Bool.{cases_Bool}
use Rattle.std.proofs.lemmas.List.Elements.{All-nil, All-cons, All-tail, All-drop}
use Rattle.std.proofs.lemmas.Nat.{div-mul-add, div-add-mod'}
use Rattle.hg_base.specs.declared.fault.FaultKind.TheVariants.{BadNumber, TooLarge, NoVertex}
use Rattle.hg_base.specs.declared.fault.InputFault.{InputFault}
use Rattle.input_tokens.specs.Rules.{◌>>=◌, fault, within_limit, number_read}
use Rattle.input_tokens.specs.declared.token.Token.{Token}
use Rattle.input_tokens.specs.declared.token.Token.TheVariants.{Graph, GraphWithAreas, Number, Other}
use Rattle.pgm_reader.specs.Raster.{Raster}
use Rattle.pgm_reader.specs.Pgm.{CutToken, cut, token_cut_at, width, height, greatest, samples, pixels, from_width, from_height, from_greatest, picture}
use Rattle.hg_base.specs.Samples.{sample_bytes}
use Rattle.pgm_reader.specs.Spelling.{Spells}
use Rattle.pgm_reader.proofs.Samples.{samples-one, samples-two, judged}

ok-split : {A B : Type 0} (r : Result A InputFault) (f : A → Result B InputFault) (y : B) → (r >>= f) ≡ Ok y → (x : A) × (r ≡ Ok x) × (f x ≡ Ok y)
ok-split (Ok x) f y e = (x, refl, e)
ok-split (Err q) f y e = cc

ok-inj : {A : Type 0} (x y : A) → (let r : Result A InputFault = Ok x in r) ≡ Ok y → x ≡ y
ok-inj x y e = cc

some-inj : {A : Type 0} (x y : A) → Some x ≡ Some y → x ≡ y
some-inj x y e = cc

-- a test that fails here would have given a fault
tested : {A : Type 0} (b : Bool) (f : InputFault) (r : Result A InputFault) (y : A) → (if b then Err f else r) ≡ Ok y → (b ≡ false) × (r ≡ Ok y)
tested true f r y e = cc
tested false f r y e = (refl, e)

number-ok : (at : ℕ) (token : Token) (n : ℕ) → number_read at token ≡ Ok n → token ≡ Number n
unfolding number_read
number-ok at (Number m) n e = ap Number (ok-inj m n e)
number-ok at Graph n e = cc
number-ok at GraphWithAreas n e = cc
number-ok at Other n e = cc

not-0 : (n : ℕ) → nat_eq n 0 ≡ false → 1 ≤ n
not-0 n e = grind (arith, e)

not-above : (most n : ℕ) → nat_lt most n ≡ false → n ≤ most
not-above most n e = grind (arith, e)

-- a number that a rule accepts: it isn't 0, and within the limit
width-ok : (at : ℕ) (token : Token) (n : ℕ) → width at token ≡ Ok n → (token ≡ Number n) × (1 ≤ n)
unfolding width
width-ok at token n e =
    let s = ok-split (number_read at token) (λ (k : ℕ). if nat_eq k 0 then fault {A = ℕ} NoVertex at 0 else within_limit 1048576 at k) n e in
    let t = tested (nat_eq s.0 0) _ _ n s.2 in
    let u = tested (nat_lt 1048576 s.0) _ _ n t.1 in
    let same = ok-inj s.0 n u.1 in
    (number-ok at token s.0 s.1 ∙ ap Number same, subst (λ (k : ℕ). 1 ≤ k) same (not-0 s.0 t.0))

height-ok : (w at : ℕ) (token : Token) (n : ℕ) → height w at token ≡ Ok n → (token ≡ Number n) × (1 ≤ n) × (w * n ≤ 1048576)
unfolding height
height-ok w at token n e =
    let s = ok-split (number_read at token) (λ (k : ℕ). if nat_eq k 0 then fault {A = ℕ} NoVertex at 0 else (if nat_lt 1048576 (w * k) then fault {A = ℕ} TooLarge at (w * k) else Ok k)) n e in
    let t = tested (nat_eq s.0 0) _ _ n s.2 in
    let u = tested (nat_lt 1048576 (w * s.0)) _ _ n t.1 in
    let same = ok-inj s.0 n u.1 in
    let range = subst (λ (k : ℕ). (1 ≤ k) × (w * k ≤ 1048576)) same (not-0 s.0 t.0, not-above 1048576 (w * s.0) u.0) in
    (number-ok at token s.0 s.1 ∙ ap Number same, range.0, range.1)

greatest-ok : (at : ℕ) (token : Token) (n : ℕ) → greatest at token ≡ Ok n → (token ≡ Number n) × (1 ≤ n) × (n ≤ 65535)
unfolding greatest
greatest-ok at token n e =
    let s = ok-split (number_read at token) (λ (k : ℕ). if nat_eq k 0 then fault {A = ℕ} BadNumber at 0 else within_limit 65535 at k) n e in
    let t = tested (nat_eq s.0 0) _ _ n s.2 in
    let u = tested (nat_lt 65535 s.0) _ _ n t.1 in
    let same = ok-inj s.0 n u.1 in
    let range = subst (λ (k : ℕ). (1 ≤ k) × (k ≤ 65535)) same (not-0 s.0 t.0, not-above 65535 s.0 u.0) in
    (number-ok at token s.0 s.1 ∙ ap Number same, range.0, range.1)

abbrev IsByte : ℕ → Type 0
IsByte b = b < 256

-- samples that were read, and the bytes that they have
record Read (max k : ℕ) (bytes xs : List ℕ) : Type 0 where
  count : length xs ≡ k
  least : All (λ s. s ≤ max) xs
  spelled : bytes ≡ flat_map (sample_bytes max) xs

judged-ok : (end max k place s next : ℕ) (rest xs : List ℕ) → judged end max k place s next rest ≡ Ok xs → (s ≤ max) × ((ys : List ℕ) × (samples end max k next rest ≡ Ok ys) × (xs ≡ s ∷ ys))
judged-ok end max k place s next rest xs e =
    let t = tested (nat_lt max s) _ _ xs e in
    let u = ok-split (samples end max k next rest) (λ (more : List ℕ). let r : Result (List ℕ) InputFault = Ok (s ∷ more) in r) xs t.1 in
    (not-above max s t.0, (u.0, u.1, sym (ok-inj (s ∷ u.0) xs u.2)))

one-byte : (max s : ℕ) → nat_lt max 256 ≡ true → sample_bytes max s ≡ s ∷ []
one-byte max s h = rw h refl

two-bytes : (max s : ℕ) → nat_lt max 256 ≡ false → sample_bytes max s ≡ s / 256 ∷ s % 256 ∷ []
two-bytes max s h = rw h refl

none-ok : (end max place : ℕ) (bytes xs : List ℕ) → samples end max 0 place bytes ≡ Ok xs → Read max 0 bytes xs
unfolding samples
none-ok end max place [] xs e =
    let same = ok-inj [] xs e in
    subst (λ (ys : List ℕ). Read max 0 [] ys) same (record { count = refl; least = All-nil (λ (s : ℕ). s ≤ max); spelled = refl })
none-ok end max place (b ∷ bs) xs e = cc

missing-one : (end max k place : ℕ) (xs : List ℕ) → nat_lt max 256 ≡ true → samples end max (suc k) place [] ≡ Ok xs → ⊥
unfolding samples
missing-one end max k place xs h e = let f = rw h at e in cc

read-one : (end max k place : ℕ) (bytes xs : List ℕ) → nat_lt max 256 ≡ true → samples end max k place bytes ≡ Ok xs → Read max k bytes xs
read-one end max zero place bytes xs h e = none-ok end max place bytes xs e
read-one end max (suc k) place [] xs h e = absurd (missing-one end max k place xs h e)
read-one end max (suc k) place (b ∷ bs) xs h e =
    let j = judged-ok end max k place b (place + 1) bs xs (sym (samples-one end max k place b bs h) ∙ e) in
    let more = read-one end max k (place + 1) bs j.1.0 h j.1.1 in
    subst (λ (ys : List ℕ). Read max (suc k) (b ∷ bs) ys) (sym j.1.2) (record {
      count = ap suc more.count;
      least = All-cons (λ (s : ℕ). s ≤ max) b j.1.0 j.0 more.least;
      spelled = ap (λ (l : List ℕ). b ∷ l) more.spelled ∙ ap (λ (l : List ℕ). l ++ flat_map (sample_bytes max) j.1.0) (sym (one-byte max b h));
    })

missing-two : (end max k place : ℕ) (xs : List ℕ) → nat_lt max 256 ≡ false → samples end max (suc k) place [] ≡ Ok xs → ⊥
unfolding samples
missing-two end max k place xs h e = let f = rw h at e in cc

missing-low : (end max k place b : ℕ) (xs : List ℕ) → nat_lt max 256 ≡ false → samples end max (suc k) place (b ∷ []) ≡ Ok xs → ⊥
unfolding samples
missing-low end max k place b xs h e = let f = rw h at e in cc

-- the two bytes of a sample
split : (high low : ℕ) → low < 256 → ((high * 256 + low) / 256 ≡ high) × ((high * 256 + low) % 256 ≡ low)
split high low h =
    let quotient : (high * 256 + low) / 256 ≡ high = div-mul-add high 256 low h in
    let whole = div-add-mod' (high * 256 + low) 256 in
    let turned = rw quotient at whole in
    (quotient, omega (arith, turned))

read-two : (end max k place : ℕ) (bytes xs : List ℕ) → nat_lt max 256 ≡ false → All IsByte bytes → samples end max k place bytes ≡ Ok xs → Read max k bytes xs
read-two end max zero place bytes xs h all e = none-ok end max place bytes xs e
read-two end max (suc k) place [] xs h all e = absurd (missing-two end max k place xs h e)
read-two end max (suc k) place (b ∷ []) xs h all e = absurd (missing-low end max k place b xs h e)
read-two end max (suc k) place (b ∷ l ∷ bs) xs h all e =
    let j = judged-ok end max k place (b * 256 + l) (place + 2) bs xs (sym (samples-two end max k place b l bs h) ∙ e) in
    let tail = All-tail IsByte b (l ∷ bs) all in
    let more = read-two end max k (place + 2) bs j.1.0 h (All-tail IsByte l bs tail) j.1.1 in
    let parts = split b l (tail 0 l (omega arith)) in
    let pair : sample_bytes max (b * 256 + l) ≡ b ∷ l ∷ [] = two-bytes max (b * 256 + l) h ∙ rw (parts.0, parts.1) refl in
    subst (λ (ys : List ℕ). Read max (suc k) (b ∷ l ∷ bs) ys) (sym j.1.2) (record {
      count = ap suc more.count;
      least = All-cons (λ (s : ℕ). s ≤ max) (b * 256 + l) j.1.0 j.0 more.least;
      spelled = ap (λ (rest : List ℕ). b ∷ l ∷ rest) more.spelled ∙ ap (λ (rest : List ℕ). rest ++ flat_map (sample_bytes max) j.1.0) (sym pair);
    })

read-samples : (end max k place : ℕ) (bytes xs : List ℕ) → All IsByte bytes → samples end max k place bytes ≡ Ok xs → Read max k bytes xs
read-samples end max k place bytes xs all e = elim (cases_Bool (nat_lt max 256)) [
  | inl small ↦ read-one end max k place bytes xs small e
  | inr large ↦ read-two end max k place bytes xs large all e
]

-- what stands behind a token are bytes of the input
token-bytes : (hash : Bool) (place : ℕ) (bytes : List ℕ) (t : CutToken) → All IsByte bytes → token_cut_at hash place bytes ≡ Some t → All IsByte t.rest
unfolding token_cut_at
token-bytes hash place [] t all e = cc
token-bytes hash place (b ∷ bs) t all e =
    let same = some-inj _ t e in
    subst (λ (u : CutToken). All IsByte u.rest) same (All-drop IsByte _ (b ∷ bs) all)

cut-bytes : (hash within : Bool) (place : ℕ) (bytes : List ℕ) (t : CutToken) → All IsByte bytes → cut hash within place bytes ≡ Some t → All IsByte t.rest
unfolding cut
cut-bytes hash within place bytes t all e = token-bytes hash _ _ t (All-drop IsByte _ bytes all) e

pixels-ok : (end w h max place : ℕ) (bytes : List ℕ) (r : Raster) → pixels end w h max place bytes ≡ Ok r
    → (space : ℕ) × (rest : List ℕ) × (xs : List ℕ) × (bytes ≡ space ∷ rest) × (samples end max (w * h) (place + 1) rest ≡ Ok xs)
    × (r ≡ record { width = w; height = h; max = max; samples = xs })
unfolding pixels
pixels-ok end w h max place [] r e = cc
pixels-ok end w h max place (b ∷ bs) r e =
    let s = ok-split (samples end max (w * h) (place + 1) bs) (λ (greys : List ℕ). let p : Result Raster InputFault = Ok (record { width = w; height = h; max = max; samples = greys }) in p) r e in
    (b, bs, s.0, refl, s.1, sym (ok-inj _ r s.2))

greatest-split : (end w h : ℕ) (c : Option CutToken) (r : Raster) → from_greatest end w h c ≡ Ok r
    → (t : CutToken) × (n : ℕ) × (c ≡ Some t) × (greatest t.from t.token ≡ Ok n) × (pixels end w h n t.to t.rest ≡ Ok r)
unfolding from_greatest
greatest-split end w h None r e = cc
greatest-split end w h (Some t) r e =
    let s = ok-split (greatest t.from t.token) (λ (n : ℕ). pixels end w h n t.to t.rest) r e in
    (t, s.0, refl, s.1, s.2)

height-split : (end w : ℕ) (c : Option CutToken) (r : Raster) → from_height end w c ≡ Ok r
    → (t : CutToken) × (n : ℕ) × (c ≡ Some t) × (height w t.from t.token ≡ Ok n) × (from_greatest end w n (cut false false t.to t.rest) ≡ Ok r)
unfolding from_height
height-split end w None r e = cc
height-split end w (Some t) r e =
    let s = ok-split (height w t.from t.token) (λ (n : ℕ). from_greatest end w n (cut false false t.to t.rest)) r e in
    (t, s.0, refl, s.1, s.2)

width-split : (end : ℕ) (c : Option CutToken) (r : Raster) → from_width end c ≡ Ok r
    → (t : CutToken) × (n : ℕ) × (c ≡ Some t) × (width t.from t.token ≡ Ok n) × (from_height end n (cut true false t.to t.rest) ≡ Ok r)
unfolding from_width
width-split end None r e = cc
width-split end (Some t) r e =
    let s = ok-split (width t.from t.token) (λ (n : ℕ). from_height end n (cut true false t.to t.rest)) r e in
    (t, s.0, refl, s.1, s.2)

-- what is read was spelled
pub read-spelled : (bytes : List ℕ) (r : Raster) → All IsByte bytes → picture bytes ≡ Ok r
    → (w : CutToken) × (h : CutToken) × (g : CutToken) × (space : ℕ) × Spells bytes r w h g space
unfolding picture
read-spelled bytes r all e =
    let end = length bytes in
    let w = width-split end (cut true false 2 (drop 2 bytes)) r e in
    let h = height-split end w.1 (cut true false w.0.to w.0.rest) r w.4 in
    let g = greatest-split end w.1 h.1 (cut false false h.0.to h.0.rest) r h.4 in
    let p = pixels-ok end w.1 h.1 g.1 g.0.to g.0.rest r g.4 in
    let wide = width-ok w.0.from w.0.token w.1 w.3 in
    let high = height-ok w.1 h.0.from h.0.token h.1 h.3 in
    let deep = greatest-ok g.0.from g.0.token g.1 g.3 in
    let in_w = cut-bytes true false 2 (drop 2 bytes) w.0 (All-drop IsByte 2 bytes all) w.2 in
    let in_h = cut-bytes true false w.0.to w.0.rest h.0 in_w h.2 in
    let in_g = cut-bytes false false h.0.to h.0.rest g.0 in_h g.2 in
    let in_p = All-tail IsByte p.0 p.1 (subst (All IsByte) p.3 in_g) in
    let read = read-samples end g.1 (w.1 * h.1) (g.0.to + 1) p.1 p.2 in_p p.4 in
    let seen : Raster = record { width = w.1; height = h.1; max = g.1; samples = p.2 } in
    let P : Raster → Type 0 = λ s. Spells bytes s w.0 h.0 g.0 p.0 in (
      w.0,
      h.0,
      g.0,
      p.0,
      subst P (sym p.5) (record {
        picture = record { some_width = wide.1; some_height = high.1; pixels = high.2; one_sample_each = read.count; some_max = deep.1; up_to_max = read.least };
        depth = deep.2;
        first = w.2;
        second = h.2;
        third = g.2;
        says_width = wide.0;
        says_height = high.0;
        says_greatest = deep.0;
        samples = p.3 ∙ ap (λ (l : List ℕ). p.0 ∷ l) read.spelled;
      }),
    )
