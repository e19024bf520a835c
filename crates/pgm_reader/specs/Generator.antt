-- The pictures that are made from a seed, by a linear congruential generator.
use Rattle.std.specs.Prelude.{ℕ, zero, suc, ◌+◌, ◌*◌, ◌/◌, ◌%◌, ◌^◌, List, [], ◌∷◌}
use Rattle.pgm_reader.specs.Raster.{Raster}

-- the next state of the generator
abbrev pub next_state : ℕ → ℕ
next_state x = (1664525 * x + 1013904223) % 2 ^ 32

-- so many samples: the highest byte of each state after this one
unfoldable pub samples_after : ℕ → ℕ → List ℕ
samples_after zero x = []
samples_after (suc k) x = next_state x / 2 ^ 24 ∷ samples_after k (next_state x)

-- the square picture of this side and seed
abbrev pub made : ℕ → ℕ → Raster
made side seed = record { width = side; height = side; max = 255; samples = samples_after (side * side) seed }
