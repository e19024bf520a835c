use Rattle.std.proofs.Common.{◌≡◌, ◌*◌, ◌≤◌, take}
use Rattle.watershed_cut.specs.Rooted.{cost}
use Rattle.forest_witness.proofs.sums.total_weight.Given as goal

-- the weights so far are summed, and each is below 2 ^ 32
abbrev pub invariant-loop-e : goal.invariant-loop-e
invariant-loop-e l = record {
  so_far : l.total ≡ cost l.graph (take l.e-index l.edges);
  small : l.total ≤ l.e-index * 4294967295;
}
