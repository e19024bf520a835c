-- The program's command line: what is declared to `clap`, the texts that it finds, and the request that they give.
use Rattle.std.specs.Prelude.{◌≡◌, ℕ, true, List, [], ◌∷◌, Option, Some, None, codes}
use Rattle.clap.specs.Kinds.{Kinds}
use Rattle.clap.specs.Words.{App, Row, fault_of, first_of, is_simple, is_simple_and_free, matches_of, new_app, new_rule, with_rule}
use Rattle.higra_words.specs.Request.{CommandLine, ◌>>=◌, request_by}
use Rattle.higra_words.specs.declared.request.Request.{Request}

-- REPORT: a word of its own, which must be given
unfoldable pub with_report : App → App
with_report command = with_rule command (record (new_rule (codes "report")) { required = true })

-- an option `--NAME`, which has one word as its value
unfoldable pub with_option : List ℕ → App → App
with_option name command = with_rule command (record (new_rule name) { long = Some name })

-- the command `higra`: REPORT and seven options, and nothing else
unfoldable pub higra : App
higra = with_option (codes "seed") (with_option (codes "make") (with_option (codes "form") (with_option (codes "level") (with_option (codes "kind")
    (with_option (codes "workers") (with_option (codes "tile") (with_report (new_app (codes "higra")))))))))

-- what was found, where there is no fault
abbrev pub without_fault : Kinds → List Row → Option (List Row)
without_fault [] rows = Some rows
without_fault (kind ∷ kinds) rows = None

-- what `clap` finds in a line of words that begins with the program's name, where the line has no fault
abbrev pub found_by : App → List (List ℕ) → Option (List Row)
found_by command line = without_fault (fault_of command line) (matches_of command line)

-- a command of whose lines `clap` says what it finds, and by which fault it refuses one
pub record IsReadable (command : App) : Type 0 where
  pub simple : is_simple command ≡ true
  pub free : is_simple_and_free command ≡ true

unfoldable pub rows_on : List (List ℕ) → Option (List Row)
rows_on line = found_by higra line

-- the texts that were found, each under its name
abbrev pub texts_in : List Row → Option CommandLine
texts_in rows = do
  report ← first_of (codes "report") rows
  Some (record {
    report = report;
    tile = first_of (codes "tile") rows;
    workers = first_of (codes "workers") rows;
    kind = first_of (codes "kind") rows;
    level = first_of (codes "level") rows;
    form = first_of (codes "form") rows;
    make = first_of (codes "make") rows;
    seed = first_of (codes "seed") rows;
  })

-- the texts that the words after the program's name give, where `clap` finds no fault in them
abbrev pub given_by : List (List ℕ) → Option CommandLine
given_by words = do
  rows ← rows_on (codes "higra" ∷ words)
  texts_in rows

-- the request that the words after the program's name give, if they give one
abbrev pub requested : List (List ℕ) → Option Request
requested words = do
  line ← given_by words
  request_by line

-- the request of what was found
abbrev pub request_in : List Row → Option Request
request_in rows = do
  line ← texts_in rows
  request_by line
