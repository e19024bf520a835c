-- The bytes so far stand behind the old line.
use Rattle.std.proofs.Common.{◌≡◌, ◌++◌, take}
use Rattle.higra_cli.proofs.line.FaultLine.put_text.Given as goal

abbrev pub invariant-loop-byte : goal.invariant-loop-byte
invariant-loop-byte l = (l.byte-items ≡ l.text) × (l.self ≡ l.initial.self ++ take l.byte-index l.byte-items)
