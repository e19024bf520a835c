-- What the pieces that were read hold.
use Rattle.std.specs.Prelude.{List, map, Result, Ok, Err}
use Rattle.hg_base.specs.declared.fault.InputFault.{InputFault}
use Rattle.higra_input.specs.declared.input.Input.{Input}
use Rattle.hg_batch.specs.declared.cutting.Piece.{Piece}
use Rattle.hg_batch.specs.declared.cutting.Piece.TheVariants.{Read, Fault}

-- what the piece gives
abbrev pub reads : Piece → Result Input InputFault
reads (Read input) = Ok input
reads (Fault fault) = Err fault

abbrev pub values : List Piece → List (Result Input InputFault)
values pieces = map reads pieces
