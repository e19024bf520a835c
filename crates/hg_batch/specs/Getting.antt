-- What reading a source as a whole comes to.
use Rattle.std.specs.Prelude.{◌≡◌, ℕ, List, Result, Ok, Err, Vec}
use Rattle.std.specs.declared.alloc.Global.{Global}
use Rattle.hg_base.specs.Outside.{Rose}
use Rattle.higra_input.specs.Inputs.{too_long}
use Rattle.higra_input.specs.Reading.{Told, GaveAll, GaveTooMuch}
use Rattle.hg_batch.specs.declared.ending.BatchStatus.{BatchStatus}
use Rattle.hg_batch.specs.declared.ending.BatchStatus.TheVariants as statuses

-- the source was read to its end, and gave these bytes; or the batch ended with this status
abbrev pub Gets : Told → Told → Result (Vec ℕ Global) BatchStatus → Type 0
Gets old new (Ok bytes) = (new.faults ≡ old.faults) × GaveAll old.bytes new.bytes bytes.items
Gets old new (Err (statuses.Input fault)) = (new.faults ≡ old.faults) × ((bytes : List ℕ) × (GaveTooMuch old.bytes new.bytes bytes × (fault ≡ too_long)))
Gets old new (Err statuses.ReadFailed) = Rose old.faults new.faults
Gets old new (Err statuses.OutOfMemory) = Unit {0}
Gets old new (Err statuses.Success) = ⊥
Gets old new (Err statuses.Usage) = ⊥
Gets old new (Err statuses.WriteFailed) = ⊥
