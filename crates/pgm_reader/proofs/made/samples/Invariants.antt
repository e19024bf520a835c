use Rattle.std.proofs.Common.{◌≡◌, ◌-◌, ◌++◌}
use Rattle.pgm_reader.specs.Generator.{samples_after}
use Rattle.pgm_reader.proofs.made.samples.Given as goal

abbrev pub invariant-loop : goal.invariant-loop
invariant-loop l = l.samples.items ++ samples_after (l.count - l.counter) l.x ≡ samples_after l.count l.fn.seed
