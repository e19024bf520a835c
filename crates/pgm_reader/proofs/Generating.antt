-- The samples that are made from a seed.
use Rattle.std.proofs.Common.{◌≡◌, ℕ, zero, suc, ◌+◌, ◌*◌, ◌/◌, ◌^◌, ◌<◌, ◌≤◌, List, [], ◌∷◌, ◌++◌, length, All, refl, ap, arith, append_assoc}
use Rattle.std.proofs.lemmas.List.Elements.{All-nil, All-cons}
use Rattle.std.proofs.lemmas.Nat.{shr_below}
use Rattle.std.proofs.Math.Nat.{mod-lt, mul-le-mul_right}
use Rattle.pgm_reader.specs.Generator.{next_state, samples_after, made}
use Rattle.pgm_reader.specs.Raster.{IsRaster}

-- one sample more
pub one-made : (k j x s : ℕ) (so_far : List ℕ) → k ≡ suc j → s ≡ next_state x / 2 ^ 24 → (so_far ++ s ∷ []) ++ samples_after j (next_state x) ≡ so_far ++ samples_after k x
unfolding samples_after
one-made k j x s so_far e is = rw (e, is, append_assoc) refl

pub none-more : (x : ℕ) → samples_after 0 x ≡ []
unfolding samples_after
none-more x = refl

pub made-length : (k x : ℕ) → length (samples_after k x) ≡ k
unfolding samples_after
made-length zero x = refl
made-length (suc k) x = ap suc (made-length k (next_state x))

byte : (x : ℕ) → next_state x / 2 ^ 24 ≤ 255
byte x =
    let below : next_state x < 2 ^ (8 + 24) = mod-lt (1664525 * x + 1013904223) (omega arith) in
    let high : next_state x / 2 ^ 24 < 2 ^ 8 = shr_below (next_state x) 8 24 below in
    omega (arith, high)

pub made-bytes : (k x : ℕ) → All (λ s. s ≤ 255) (samples_after k x)
unfolding samples_after
made-bytes zero x = All-nil (λ (s : ℕ). s ≤ 255)
made-bytes (suc k) x = All-cons (λ (s : ℕ). s ≤ 255) (next_state x / 2 ^ 24) (samples_after k (next_state x)) (byte x) (made-bytes k (next_state x))

-- what is made is a picture
pub made-is : (side seed : ℕ) → 1 ≤ side → side ≤ 1024 → IsRaster (made side seed)
made-is side seed some most =
    let most_pixels : side * side ≤ 1024 * side = mul-le-mul_right side most in
    record {
      some_width = some;
      some_height = some;
      pixels = omega (arith, most_pixels, most);
      one_sample_each = made-length (side * side) seed;
      some_max = omega arith;
      up_to_max = made-bytes (side * side) seed;
    }
