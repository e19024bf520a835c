-- The decoder has read on through what the source gave, and no read has failed. Each piece has at least one byte.
use Rattle.std.proofs.Common.{ℕ, ◌-◌, List}
use Rattle.higra_input.specs.Feeding.{HasFed, taken}
use Rattle.higra_input.specs.Reading.{told}
use Rattle.higra_input.proofs.reading.feed_all.Given as goal

abbrev pub invariant-loop-count : goal.invariant-loop-count
invariant-loop-count g l =
    (more : List ℕ)
    × HasFed (told (g.S.Source.left l.initial.source) (g.S.Source.faults l.initial.source)) (told (g.S.Source.left l.source) (g.S.Source.faults l.source)) l.initial.decoder l.decoder more

abbrev pub decreases-loop-count : goal.decreases-loop-count
decreases-loop-count g l = 134217729 - taken l.decoder
