-- The jobs of a batch as contracts see them: what is asked for, and what each piece gives.
use Rattle.std.specs.Prelude.{List, Result}
use Rattle.hg_base.specs.declared.fault.InputFault.{InputFault}
use Rattle.higra_input.specs.declared.input.Input.{Input}
use Rattle.higra_words.specs.declared.request.Request.{Request}

pub record BatchState : Type 0 where
  pub request : Request
  pub pieces : List (Result Input InputFault)
