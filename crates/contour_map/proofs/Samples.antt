-- The bytes of the samples of a picture.
use Rattle.std.proofs.Common.{◌≡◌, ℕ, zero, suc, ◌*◌, ◌/◌, ◌%◌, ◌<◌, ◌≤◌, true, false, List, [], ◌∷◌, ◌++◌, length, get_or, map, refl, sym, ap, ◌∙◌, arith}
use Rattle.std.specs.Prelude.{nat_lt}
use Rattle.std.specs.List.{flat_map}
use Rattle.std.proofs.lemmas.Bool.{le-ltb, lt-ltb}
use Rattle.std.proofs.lemmas.List.{get_or-map, length-map}
use Rattle.hg_base.specs.Samples.{sample_bytes}
use Rattle.contour_map.specs.Report.{samples_of}
use Rattle.contour_map.specs.Scaling.{greatest_sample, scaled}

-- a sample is one byte where the greatest value is below 256
one-byte : (g s : ℕ) → nat_lt g 256 ≡ true → sample_bytes g s ≡ s ∷ []
one-byte g s few = rw few refl

-- else it is two bytes
two-bytes : (g s : ℕ) → nat_lt g 256 ≡ false → sample_bytes g s ≡ s / 256 ∷ s % 256 ∷ []
two-bytes g s many = rw many refl

-- samples of one byte each are their bytes
one-each : (g : ℕ) (xs : List ℕ) → nat_lt g 256 ≡ true → flat_map (sample_bytes g) xs ≡ xs
one-each g [] few = refl
one-each g (x ∷ xs) few = ap (λ (ys : List ℕ). ys ++ flat_map (sample_bytes g) xs) (one-byte g x few) ∙ ap (λ (ys : List ℕ). x ∷ ys) (one-each g xs few)

-- one more sample of two bytes
two-more : (g x : ℕ) (xs : List ℕ) → nat_lt g 256 ≡ false → flat_map (sample_bytes g) (x ∷ xs) ≡ x / 256 ∷ x % 256 ∷ flat_map (sample_bytes g) xs
two-more g x xs many = ap (λ (ys : List ℕ). ys ++ flat_map (sample_bytes g) xs) (two-bytes g x many)

-- how many bytes samples of two bytes each have
two-length : (g : ℕ) (xs : List ℕ) → nat_lt g 256 ≡ false → length (flat_map (sample_bytes g) xs) ≡ 2 * length xs
two-length g [] many = refl
two-length g (x ∷ xs) many = omega (arith, ap length (two-more g x xs many), two-length g xs many)

-- byte i of samples of two bytes each
two-at : (g : ℕ) (xs : List ℕ) (i : ℕ) → nat_lt g 256 ≡ false → i < 2 * length xs
    → get_or (flat_map (sample_bytes g) xs) i 0 ≡ get_or (get_or xs (i / 2) 0 / 256 ∷ get_or xs (i / 2) 0 % 256 ∷ []) (i % 2) 0
two-at g [] i many low = absurd (omega (arith, low))
two-at g (x ∷ xs) zero many low = ap (λ (ys : List ℕ). get_or ys 0 0) (two-more g x xs many)
two-at g (x ∷ xs) (suc zero) many low = ap (λ (ys : List ℕ). get_or ys 1 0) (two-more g x xs many)
two-at g (x ∷ xs) (suc (suc i)) many low =
    let half : suc (suc i) / 2 ≡ suc (i / 2) = omega arith in
    let rest : suc (suc i) % 2 ≡ i % 2 = omega arith in
    ap (λ (ys : List ℕ). get_or ys (suc (suc i)) 0) (two-more g x xs many)
    ∙ two-at g xs i many (omega (arith, low))
    ∙ sym (ap (λ (k : ℕ). get_or (get_or (x ∷ xs) k 0 / 256 ∷ get_or (x ∷ xs) k 0 % 256 ∷ []) (suc (suc i) % 2) 0) half ∙ ap (λ (k : ℕ). get_or (get_or xs (i / 2) 0 / 256 ∷ get_or xs (i / 2) 0 % 256 ∷ []) k 0) rest)

-- points whose samples have one byte each
pub bytes-one : (high : ℕ) (points : List ℕ) → greatest_sample high < 256 → length (samples_of high points) ≡ length points
bytes-one high points few = ap length (one-each (greatest_sample high) (map (scaled high) points) (lt-ltb _ _ few)) ∙ length-map points (scaled high)

-- points whose samples have two bytes each
pub bytes-two : (high : ℕ) (points : List ℕ) → 256 ≤ greatest_sample high → length (samples_of high points) ≡ 2 * length points
bytes-two high points many = two-length (greatest_sample high) (map (scaled high) points) (le-ltb _ _ many) ∙ ap (λ (n : ℕ). 2 * n) (length-map points (scaled high))

-- the byte of a point whose sample has one byte
pub byte-one : (high : ℕ) (points : List ℕ) (i : ℕ) → greatest_sample high < 256 → i < length points → get_or (samples_of high points) i 0 ≡ scaled high (get_or points i 0)
byte-one high points i few low =
    ap (λ (xs : List ℕ). get_or xs i 0) (one-each (greatest_sample high) (map (scaled high) points) (lt-ltb _ _ few)) ∙ get_or-map (scaled high) points i 0 0 low

-- a byte of a point whose sample has two bytes
pub byte-two : (high : ℕ) (points : List ℕ) (i : ℕ) → 256 ≤ greatest_sample high → i < 2 * length points
    → get_or (samples_of high points) i 0 ≡ get_or (scaled high (get_or points (i / 2) 0) / 256 ∷ scaled high (get_or points (i / 2) 0) % 256 ∷ []) (i % 2) 0
byte-two high points i many low =
    two-at (greatest_sample high) (map (scaled high) points) i (le-ltb _ _ many) (omega (arith, length-map points (scaled high), low))
    ∙ ap (λ (s : ℕ). get_or (s / 256 ∷ s % 256 ∷ []) (i % 2) 0) (get_or-map (scaled high) points (i / 2) 0 0 (omega (arith, low)))
