use Rattle.std.proofs.Common.{ℕ, ◌<◌, ◌^◌}
use Rattle.tree_laws.specs.Tree.{altitude}
use Rattle.tree_tests.proofs.energy_cut_tests.is_low.Given as goal

-- the altitudes so far are low
abbrev pub invariant-loop-i : goal.invariant-loop-i
invariant-loop-i l = (j : ℕ) → j < l.i → altitude l.tree j < 2 ^ 32
