-- The program's command line: what is declared to `clap`, the texts that it finds, and the request that they give.
use Rattle.std.specs.Prelude.{ℕ, List, ◌∷◌, Option, Some, codes}
use Rattle.clap.specs.Words.{App, Row, first_of, new_app}
use Rattle.higra_words.specs.Command.{found_by, with_option}
use Rattle.higra_words.specs.Request.{◌>>=◌}
use Rattle.contour_run.specs.Request.{OptionTexts, request_by}
use Rattle.contour_run.specs.declared.request.ContourRequest.{ContourRequest}

-- the command `higra_contours`: five options, and nothing else
unfoldable pub higra_contours : App
higra_contours = with_option (codes "seed") (with_option (codes "make") (with_option (codes "workers") (with_option (codes "tile") (with_option (codes "kind") (new_app (codes "higra_contours"))))))

-- what `clap` finds in a line of words that begins with the program's name, where the line has no fault
unfoldable pub rows_on : List (List ℕ) → Option (List Row)
rows_on line = found_by higra_contours line

-- the texts that were found, each under its name
abbrev pub texts_in : List Row → OptionTexts
texts_in rows = record {
  kind = first_of (codes "kind") rows;
  tile = first_of (codes "tile") rows;
  workers = first_of (codes "workers") rows;
  make = first_of (codes "make") rows;
  seed = first_of (codes "seed") rows;
}

-- the texts that the words after the program's name give, where `clap` finds no fault in them
abbrev pub options_given : List (List ℕ) → Option OptionTexts
options_given words = do
  rows ← rows_on (codes "higra_contours" ∷ words)
  Some (texts_in rows)

-- the request that the words after the program's name give, if they give one
abbrev pub contours_requested : List (List ℕ) → Option ContourRequest
contours_requested words = do
  texts ← options_given words
  request_by texts

-- the request of what was found
abbrev pub request_in : List Row → Option ContourRequest
request_in rows = request_by (texts_in rows)
