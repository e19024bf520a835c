-- The samples of a picture, as bytes (Netpbm: PGM, the binary form).
use Rattle.std.specs.Prelude.{ℕ, ◌/◌, ◌%◌, nat_lt, if◌then◌else◌, List, [], ◌∷◌}

-- the bytes of a sample: one where the greatest value is below 256, else two, with the most significant first
abbrev pub sample_bytes : ℕ → ℕ → List ℕ
sample_bytes greatest sample = if nat_lt greatest 256 then sample ∷ [] else sample / 256 ∷ sample % 256 ∷ []
