-- The words that spell the texts of the options.
use Rattle.std.specs.Prelude.{ℕ, List, ◌++◌, codes}
use Rattle.higra_words.specs.Spelled.{option_word}
use Rattle.contour_run.specs.Request.{OptionTexts}

-- the options that are given
abbrev pub words_of : OptionTexts → List (List ℕ)
words_of texts =
    option_word (codes "--kind=") texts.kind ++ (option_word (codes "--tile=") texts.tile ++ (option_word (codes "--workers=") texts.workers
    ++ (option_word (codes "--make=") texts.make ++ option_word (codes "--seed=") texts.seed)))
