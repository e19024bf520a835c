-- What the fields of a batch hold.
use Rattle.std.specs.Prelude.{◌≤◌, length}
use Rattle.higra_words.specs.Allowed.{CanReport}
use Rattle.hg_batch.specs.Cutting.{values}
use Rattle.hg_batch.specs.Jobs.{BatchState}
use Rattle.hg_batch.specs.declared.batch.Batch.TheInside.{Inside}

abbrev pub state_of : Inside → BatchState
state_of b = record { request = b.request; pieces = values b.pieces.items }

-- the request can be asked for, and there are not too many pieces
pub record IsBatch (b : Inside) : Type 0 where
  pub can : CanReport b.request
  pub few : length b.pieces.items ≤ 4096
