-- Lists of lines, whole and in pieces.
use Rattle.std.specs.Prelude.{ℕ, ◌+◌, ◌-◌, ◌*◌, ◌/◌, min, List, [], ◌∷◌, ◌++◌, decimal, get_or}
use Rattle.std.specs.List.{range_with_len, flat_map}
use Rattle.hg_base.specs.Text.{line, headed_line}

-- the lines of so many numbers, from a first one on, one after another
abbrev pub lines_from : (ℕ → List ℕ) → ℕ → ℕ → List ℕ
lines_from line first count = flat_map line (range_with_len first count)

-- where piece k of sixteen begins
abbrev pub piece_start : ℕ → ℕ → ℕ
piece_start count k = min count (k * (count / 16 + 1))

-- the lines of piece k of sixteen
abbrev pub lines_of_piece : (ℕ → List ℕ) → ℕ → ℕ → List ℕ
lines_of_piece line count k = lines_from line (piece_start count k) (piece_start count (k + 1) - piece_start count k)

-- numbers with a space before each, and a line feed at the end
abbrev pub spaced : List ℕ → List ℕ
spaced [] = 10 ∷ []
spaced (n ∷ ns) = 32 ∷ (decimal n ++ spaced ns)

-- the line of a number and of the value at it
abbrev pub value_line : List ℕ → ℕ → List ℕ
value_line values i = line (i ∷ get_or values i 0 ∷ [])

-- the same behind a word
abbrev pub headed_value_line : List ℕ → List ℕ → ℕ → List ℕ
headed_value_line word values i = headed_line word (i ∷ get_or values i 0 ∷ [])
