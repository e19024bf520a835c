-- Command lines that are worked out.
use Rattle.std.specs.Prelude.{ℕ, List, None}
use Rattle.higra_words.specs.Request.{CommandLine}
use Rattle.higra_words.specs.declared.request.Form.TheVariants.{Text}
use Rattle.higra_words.specs.declared.request.Report.{Report}
use Rattle.higra_words.specs.declared.request.Report.TheVariants.{Tree}
use Rattle.higra_words.specs.declared.request.Request.{Request}

-- the texts of a report without options
abbrev pub only : List ℕ → CommandLine
only report = record { report = report; tile = None; workers = None; kind = None; level = None; form = None; make = None; seed = None }

-- the request for the text of a report, in tiles of this size and by so many workers
abbrev pub text_in : ℕ → ℕ → Report → Request
text_in tile workers report = record { report = report; tile = tile; workers = workers; form = Text; made = None }

-- the one for a tree
abbrev pub tree_in : ℕ → ℕ → Request
tree_in tile workers = text_in tile workers Tree
