-- The lines of a report: numbers in plain decimal, one space between, one line feed at the end.
use Rattle.std.specs.Prelude.{ℕ, List, [], ◌∷◌, ◌++◌, decimal}

-- the numbers of a line
abbrev pub line : List ℕ → List ℕ
line [] = 10 ∷ []
line (n ∷ []) = decimal n ++ (10 ∷ [])
line (n ∷ ns) = decimal n ++ (32 ∷ line ns)

-- a word, and the numbers after it
abbrev pub headed_line : List ℕ → List ℕ → List ℕ
headed_line word ns = word ++ (32 ∷ line ns)
