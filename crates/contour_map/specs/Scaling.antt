-- The values of a contour map as samples of a picture, which are at most 65,535.
use Rattle.std.specs.Prelude.{ℕ, ◌*◌, nat_le, if◌then◌else◌, List, fold, max}
use Rattle.std.specs.Int.{div_ceil}

-- the highest of the values, or 0 where there are none
abbrev pub highest : List ℕ → ℕ
highest values = fold max 0 values

-- The sample of a value among values of which this is the highest: the value itself where the highest is at most 65,535;
-- else it is scaled by the highest to at most 65,535, and rounded up.
abbrev pub scaled : ℕ → ℕ → ℕ
scaled high value = if nat_le high 65535 then value else div_ceil (value * 65535) high

-- the greatest value of the picture: the highest sample, or 1 where all are 0
abbrev pub greatest_sample : ℕ → ℕ
greatest_sample high = if nat_le high 65535 then max 1 high else 65535
