use Rattle.std.proofs.Common.{◌≡◌, ℕ, ◌<◌, length, get_or, false}
use Rattle.tree_laws.specs.Zones.{keeps}
use Rattle.quasi_flat_zones.proofs.numbers.kept_nodes.Given as goal

-- the nodes so far are marked
abbrev pub invariant-loop-i : goal.invariant-loop-i
invariant-loop-i l = record {
  len : length l.marks.items ≡ l.i;
  each : (k : ℕ) → k < l.i → get_or l.marks.items k false ≡ keeps l.tree k;
}
