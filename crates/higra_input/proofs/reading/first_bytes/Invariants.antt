-- What the source gave stands at the front of the buffer, and no read has failed.
use Rattle.std.proofs.Common.{◌≡◌, ◌≤◌, ◌-◌, length, take}
use Rattle.std.specs.Io.KnownBytes.{Consumes}
use Rattle.higra_input.proofs.reading.first_bytes.Given as goal

abbrev pub invariant-loop-count : goal.invariant-loop-count
invariant-loop-count g l =
    (l.count ≤ length l.buffer) × (length l.buffer ≡ length l.initial.buffer)
    × Consumes (g.S.Source.left l.initial.source) (g.S.Source.left l.source) (take l.count l.buffer)
    × (g.S.Source.faults l.source ≡ g.S.Source.faults l.initial.source)

abbrev pub decreases-loop-count : goal.decreases-loop-count
decreases-loop-count g l = 3 - l.count
