-- Who is joined by the edges of weight at most k.
use Rattle.std.proofs.Common.{ℕ, ◌≤◌, arith}
use Rattle.std.specs.Prelude.{nat_le}
use Rattle.std.proofs.lemmas.Bool.{le-leb, leb-true}
use Rattle.edge_laws.specs.Edges.{ListedEdge, EdgeList, Joined}
use Rattle.edge_laws.specs.Saliency.{at_most}
use Rattle.hg_base.proofs.Lists.{IsIn-filter, IsIn-kept}
use Rattle.edge_laws.proofs.Walks.{walk-among}

-- who is joined stays joined with heavier edges
pub Joined-heavier : (s : EdgeList) (j k x y : ℕ) → j ≤ k → Joined (at_most s j) x y → Joined (at_most s k) x y
Joined-heavier s j k x y le w = (
  w.0,
  walk-among (at_most s j) (at_most s k)
      (λ f i.
      let p = IsIn-kept (λ (e : ListedEdge). nat_le e.weight j) f s i in
      IsIn-filter (λ e. nat_le e.weight k) f s (le-leb f.weight k (let light : f.weight ≤ j = leb-true f.weight j p.0 in omega arith)) p.1)
      x w.0 y w.1,
)
