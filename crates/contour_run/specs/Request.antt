-- Which texts of a command line ask for which contours: the table of the options.
use Rattle.std.specs.Prelude.{ℕ, List, Option, Some}
use Rattle.hg_base.specs.declared.kind.Kind.{Kind}
use Rattle.hg_base.specs.declared.kind.Kind.TheVariants.{Dynamics}
use Rattle.higra_words.specs.Request.{◌>>=◌, cut_tree_named, made_by, tile_by, value_or, workers_by}
use Rattle.contour_run.specs.declared.request.ContourRequest.{ContourRequest}

-- the texts of the options that are given
pub record OptionTexts : Type 0 where
  pub kind : Option (List ℕ)
  pub tile : Option (List ℕ)
  pub workers : Option (List ℕ)
  pub make : Option (List ℕ)
  pub seed : Option (List ℕ)

-- `--kind`: the tree whose contours are drawn: the graph's own, which is `altitude`, or its hierarchical watershed by a kind; or
-- else the one by dynamics
abbrev pub contour_tree_by : Option (List ℕ) → Option (Option Kind)
contour_tree_by = value_or (Some Dynamics) cut_tree_named

-- the request of these texts, if they give one; the other options are those of `higra`
abbrev pub request_by : OptionTexts → Option ContourRequest
request_by texts = do
  kind ← contour_tree_by texts.kind
  tile ← tile_by texts.tile
  workers ← workers_by texts.workers
  made ← made_by texts.make texts.seed
  Some (record { kind = kind; tile = tile; workers = workers; made = made })
