-- Which texts of a command line give which request: the table of the words and options.
use Rattle.std.specs.Prelude.{ℕ, ◌^◌, Bool, true, false, ◌&&◌, ◌||◌, nat_le, nat_lt, List, length, Option, Some, None, is_some, option_map, codes, if◌then◌else◌}
use Rattle.std.specs.Char.{is_ascii_digit}
use Rattle.std.specs.List.{list_all}
use Rattle.std.specs.Str.{bytes_eq}
use Rattle.std.specs.Str.Parse.{digits_value}
use Rattle.hg_base.specs.declared.kind.Kind.{Kind}
use Rattle.hg_base.specs.declared.kind.Kind.TheVariants.{Area, Dynamics, Volume}
use Rattle.higra_words.specs.declared.request.Report.{Report}
use Rattle.higra_words.specs.declared.request.Report.TheVariants as reports
use Rattle.higra_words.specs.declared.request.Form.{Form}
use Rattle.higra_words.specs.declared.request.Form.TheVariants.{Pgm, Text}
use Rattle.higra_words.specs.declared.request.Made.{Made}
use Rattle.higra_words.specs.declared.request.Request.{Request}

-- the texts of a command line: that of REPORT, and those of the options that are given
pub record CommandLine : Type 0 where
  pub report : List ℕ
  pub tile : Option (List ℕ)
  pub workers : Option (List ℕ)
  pub kind : Option (List ℕ)
  pub level : Option (List ℕ)
  pub form : Option (List ℕ)
  pub make : Option (List ℕ)
  pub seed : Option (List ℕ)

-- Below, None says that the texts give no request.
infixl 10 ◌>>=◌
abbrev pub ◌>>=◌ : {A B : Type 0} → Option A → (A → Option B) → Option B
None >>= f = None
(Some x) >>= f = f x

-- one to twenty digits
abbrev pub is_number_word : List ℕ → Bool
is_number_word text = list_all is_ascii_digit text && (nat_le 1 (length text) && nat_le (length text) 20)

-- the value of a number, which is below 2 ^ 64
abbrev pub number : List ℕ → Option ℕ
number text = if is_number_word text && nat_lt (digits_value 10 text) (2 ^ 64) then Some (digits_value 10 text) else None

-- n, where it is from least to most
abbrev pub within : ℕ → ℕ → ℕ → Option ℕ
within least most n = if nat_le least n && nat_le n most then Some n else None

-- the value of a number from least to most
abbrev pub number_in : ℕ → ℕ → List ℕ → Option ℕ
number_in least most text = do
  n ← number text
  within least most n

-- the value of an option, which is the default where the option isn't given
abbrev pub value_or : {A : Type 0} → A → (List ℕ → Option A) → Option (List ℕ) → Option A
value_or default read None = Some default
value_or default read (Some text) = read text

-- `--tile`: 1 to 1,048,576, or else 64
abbrev pub tile_by : Option (List ℕ) → Option ℕ
tile_by = value_or 64 (number_in 1 1048576)

-- `--workers`: 1 to 64, or else 4
abbrev pub workers_by : Option (List ℕ) → Option ℕ
workers_by = value_or 4 (number_in 1 64)

-- a report that takes no `--kind` and no `--level`
abbrev pub alone : CommandLine → Report → Option Report
alone line report = if is_some line.kind || is_some line.level then None else Some report

-- the kind of attribute with this name
abbrev pub kind_named : List ℕ → Option Kind
kind_named text =
    if bytes_eq text (codes "area") then Some Area
    else (if bytes_eq text (codes "volume") then Some Volume
    else (if bytes_eq text (codes "dynamics") then Some Dynamics else None))

-- `--kind` of a hierarchical watershed: a kind of attribute, or else `dynamics`
abbrev pub kind_by : Option (List ℕ) → Option Kind
kind_by = value_or Dynamics kind_named

-- the tree with this name that a cut is of: the graph's own, which is `altitude`, or its hierarchical watershed by a kind
abbrev pub cut_tree_named : List ℕ → Option (Option Kind)
cut_tree_named text = if bytes_eq text (codes "altitude") then Some None else option_map Some (kind_named text)

-- `--kind` of a cut: the tree that is cut, or else the graph's own
abbrev pub cut_tree_by : Option (List ℕ) → Option (Option Kind)
cut_tree_by = value_or None cut_tree_named

-- `--level`: a number, or else 0
abbrev pub level_by : Option (List ℕ) → Option ℕ
level_by = value_or 0 number

-- a cut, by its `--kind` and its `--level`
abbrev pub cut_by : CommandLine → Option Report
cut_by line = do
  kind ← cut_tree_by line.kind
  level ← level_by line.level
  Some (reports.Cut kind level)

-- a hierarchical watershed, by its `--kind`; it takes no `--level`
abbrev pub hierarchical_by : CommandLine → Option Report
hierarchical_by line = if is_some line.level then None else option_map reports.Hierarchical (kind_by line.kind)

-- a cut of least energy, by its `--level`; it takes no `--kind`
abbrev pub energy_by : CommandLine → Option Report
energy_by line = if is_some line.kind then None else option_map reports.Energy (level_by line.level)

-- REPORT, with the options that this report takes
abbrev pub report_by : CommandLine → Option Report
report_by line =
    if bytes_eq line.report (codes "tree") then alone line reports.Tree
    else (if bytes_eq line.report (codes "zones") then alone line reports.Zones
    else (if bytes_eq line.report (codes "saliency") then alone line reports.Saliency
    else (if bytes_eq line.report (codes "attributes") then alone line reports.Attributes
    else (if bytes_eq line.report (codes "minima") then alone line reports.Minima
    else (if bytes_eq line.report (codes "watershed") then alone line reports.Watershed
    else (if bytes_eq line.report (codes "hierarchical") then hierarchical_by line
    else (if bytes_eq line.report (codes "cut") then cut_by line
    else (if bytes_eq line.report (codes "summary") then alone line reports.Summary
    else (if bytes_eq line.report (codes "mintree") then alone line reports.Mintree
    else (if bytes_eq line.report (codes "maxtree") then alone line reports.Maxtree
    else (if bytes_eq line.report (codes "energy") then energy_by line else None)))))))))))

-- whether a report can be drawn as a picture: a watershed and the cuts, whose labels are its samples
abbrev pub can_be_drawn : Report → Bool
can_be_drawn reports.Tree = false
can_be_drawn reports.Zones = false
can_be_drawn reports.Saliency = false
can_be_drawn reports.Attributes = false
can_be_drawn reports.Minima = false
can_be_drawn reports.Watershed = true
can_be_drawn (reports.Hierarchical kind) = false
can_be_drawn (reports.Cut kind level) = true
can_be_drawn reports.Summary = false
can_be_drawn reports.Mintree = false
can_be_drawn reports.Maxtree = false
can_be_drawn (reports.Energy penalty) = true

-- the form with this name, where the report can have it
abbrev pub form_named : Report → List ℕ → Option Form
form_named report text = if bytes_eq text (codes "text") then Some Text else (if bytes_eq text (codes "pgm") && can_be_drawn report then Some Pgm else None)

-- `--form`: `text`, or `pgm` where the report can be drawn; or else `text`
abbrev pub form_by : Report → Option (List ℕ) → Option Form
form_by report = value_or Text (form_named report)

-- `--seed`: 0 to 4,294,967,295, or else 1
abbrev pub seed_by : Option (List ℕ) → Option ℕ
seed_by = value_or 1 (number_in 0 4294967295)

-- `--make`, a side from 1 to 1,024, and `--seed`: the picture that is made, if one is; a seed needs a side
abbrev pub made_by : Option (List ℕ) → Option (List ℕ) → Option (Option Made)
made_by None None = Some None
made_by None (Some seed) = None
made_by (Some make) seed = do
  side ← number_in 1 1024 make
  seed ← seed_by seed
  Some (Some (record { side = side; seed = seed }))

-- the request of these texts, if they give one
abbrev pub request_by : CommandLine → Option Request
request_by line = do
  report ← report_by line
  tile ← tile_by line.tile
  workers ← workers_by line.workers
  form ← form_by report line.form
  made ← made_by line.make line.seed
  Some (record { report = report; tile = tile; workers = workers; form = form; made = made })
