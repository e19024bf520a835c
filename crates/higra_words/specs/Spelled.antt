-- The words that spell a command line.
use Rattle.std.specs.Prelude.{ℕ, List, [], ◌∷◌, ◌++◌, Option, Some, None, codes}
use Rattle.higra_words.specs.Request.{CommandLine}

-- the word for an option, where it is given; start is its name between `--` and `=`
abbrev pub option_word : List ℕ → Option (List ℕ) → List (List ℕ)
option_word start None = []
option_word start (Some text) = (start ++ text) ∷ []

-- the options that are given, a `--`, and REPORT
abbrev pub words_of : CommandLine → List (List ℕ)
words_of line =
    option_word (codes "--tile=") line.tile ++ (option_word (codes "--workers=") line.workers ++ (option_word (codes "--kind=") line.kind
    ++ (option_word (codes "--level=") line.level ++ (option_word (codes "--form=") line.form ++ (option_word (codes "--make=") line.make
    ++ (option_word (codes "--seed=") line.seed ++ (codes "--" ∷ line.report ∷ [])))))))
