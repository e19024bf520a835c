-- A picture that is spelled is read.
use Rattle.std.proofs.Common.{◌≡◌, ℕ, suc, ◌+◌, ◌*◌, ◌/◌, ◌%◌, ◌≤◌, true, false, List, [], ◌∷◌, ◌++◌, length, All, inl, inr, refl, ap, ◌∙◌, arith}
use Rattle.std.specs.Prelude.{Ok, nat_lt}
use Rattle.std.specs.List.{flat_map}
use Rattle.std.proofs.lemmas.Bool.{cases_Bool, ne_eqb}
use Rattle.std.proofs.lemmas.List.Elements.{All-tail}
use Rattle.std.proofs.lemmas.Nat.{div-add-mod'}
use Rattle.std.proofs.Math.Nat.{mul_comm, mul-le-mul_right}
use Rattle.input_tokens.specs.declared.token.Token.TheVariants.{Number}
use Rattle.pgm_reader.specs.Raster.{Raster, IsRaster}
use Rattle.pgm_reader.specs.Pgm.{CutToken, width, height, greatest, samples, pixels, from_width, from_height, from_greatest, picture}
use Rattle.input_tokens.specs.Rules.{number_read}
use Rattle.hg_base.specs.Samples.{sample_bytes}
use Rattle.pgm_reader.specs.Spelling.{Spells}
use Rattle.pgm_reader.proofs.Samples.{samples-one, samples-two}

not-above : (max s : ℕ) → s ≤ max → nat_lt max s ≡ false
not-above max s h = grind (arith, h)

none-left : (end max place : ℕ) → samples end max 0 place [] ≡ Ok []
unfolding samples
none-left end max place = refl

one-byte : (max s : ℕ) → nat_lt max 256 ≡ true → sample_bytes max s ≡ s ∷ []
one-byte max s h = rw h refl

two-bytes : (max s : ℕ) → nat_lt max 256 ≡ false → sample_bytes max s ≡ s / 256 ∷ s % 256 ∷ []
two-bytes max s h = rw h refl

-- samples of one byte
read-one : (end max place : ℕ) (xs : List ℕ) → nat_lt max 256 ≡ true → All (λ s. s ≤ max) xs → samples end max (length xs) place (flat_map (sample_bytes max) xs) ≡ Ok xs
read-one end max place [] h all = none-left end max place
read-one end max place (x ∷ xs) h all =
    let more = read-one end max (place + 1) xs h (All-tail (λ (s : ℕ). s ≤ max) x xs all) in
    let least = not-above max x (all 0 x (omega arith)) in
    ap (λ (bytes : List ℕ). samples end max (suc (length xs)) place (bytes ++ flat_map (sample_bytes max) xs)) (one-byte max x h)
    ∙ samples-one end max (length xs) place x (flat_map (sample_bytes max) xs) h ∙ rw (least, more) refl

-- samples of two bytes
read-two : (end max place : ℕ) (xs : List ℕ) → nat_lt max 256 ≡ false → All (λ s. s ≤ max) xs → samples end max (length xs) place (flat_map (sample_bytes max) xs) ≡ Ok xs
read-two end max place [] h all = none-left end max place
read-two end max place (x ∷ xs) h all =
    let more = read-two end max (place + 2) xs h (All-tail (λ (s : ℕ). s ≤ max) x xs all) in
    let least = not-above max x (all 0 x (omega arith)) in
    ap (λ (bytes : List ℕ). samples end max (suc (length xs)) place (bytes ++ flat_map (sample_bytes max) xs)) (two-bytes max x h)
    ∙ samples-two end max (length xs) place (x / 256) (x % 256) (flat_map (sample_bytes max) xs) h ∙ rw (div-add-mod' x 256, least, more) refl

read-samples : (end max place : ℕ) (xs : List ℕ) → All (λ s. s ≤ max) xs → samples end max (length xs) place (flat_map (sample_bytes max) xs) ≡ Ok xs
read-samples end max place xs all = elim (cases_Bool (nat_lt max 256)) [
  | inl small ↦ read-one end max place xs small all
  | inr large ↦ read-two end max place xs large all
]

width-says : (at n : ℕ) → 1 ≤ n → n ≤ 1048576 → width at (Number n) ≡ Ok n
unfolding width number_read
width-says at n some most =
    let least : nat_lt 1048576 n ≡ false = grind (arith, most) in
    rw (ne_eqb n 0 (λ e. omega (arith, e, some)), least) refl

height-says : (w at n : ℕ) → 1 ≤ n → w * n ≤ 1048576 → height w at (Number n) ≡ Ok n
unfolding height number_read
height-says w at n some most =
    let least : nat_lt 1048576 (w * n) ≡ false = not-above 1048576 (w * n) most in
    rw (ne_eqb n 0 (λ e. omega (arith, e, some)), least) refl

greatest-says : (at n : ℕ) → 1 ≤ n → n ≤ 65535 → greatest at (Number n) ≡ Ok n
unfolding greatest number_read
greatest-says at n some most =
    let least : nat_lt 65535 n ≡ false = grind (arith, most) in
    rw (ne_eqb n 0 (λ e. omega (arith, e, some)), least) refl

-- a picture is no wider than it has pixels
narrow : (r : Raster) → IsRaster r → r.width ≤ 1048576
narrow r is =
    let rows : 1 * r.width ≤ r.height * r.width = mul-le-mul_right r.width is.some_height in
    omega (arith, rows, is.pixels, mul_comm r.width r.height)

-- what is spelled is read
pub spelled-read : (bytes : List ℕ) (r : Raster) (w h g : CutToken) (space : ℕ) → Spells bytes r w h g space → picture bytes ≡ Ok r
unfolding picture from_width from_height from_greatest pixels
spelled-read bytes r w h g space s =
    let is = s.picture in
    rw (
      s.first,
      s.says_width,
      width-says w.from r.width is.some_width (narrow r is),
      s.second,
      s.says_height,
      height-says r.width h.from r.height is.some_height is.pixels,
      s.third,
      s.says_greatest,
      greatest-says g.from r.max is.some_max s.depth,
      s.samples,
      ← is.one_sample_each,
      read-samples (length bytes) r.max (g.to + 1) r.samples is.up_to_max,
    ) refl
