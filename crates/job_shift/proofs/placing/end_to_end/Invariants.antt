use Rattle.std.proofs.Common.{◌≡◌, ◌++◌, take}
use Rattle.std.specs.List.{concat}
use Rattle.job_shift.specs.Placing.{bytes_of_texts}
use Rattle.job_shift.proofs.placing.end_to_end.Given as goal

abbrev pub invariant-loop-text : goal.invariant-loop-text
invariant-loop-text l = l.bytes.items ≡ concat (bytes_of_texts (take l.text-index l.texts))
