-- When two pools are one.
use Rattle.std.proofs.Common.{◌≡◌}
use Rattle.node_region.specs.Pool.{CellPool}

pub record SameLists (p q : CellPool) : Type 0 where
  pub first : p.first ≡ q.first
  pub cells : p.cells ≡ q.cells
  pub leafs : p.leafs ≡ q.leafs
  pub free : p.free ≡ q.free
  pub chunks : p.chunks ≡ q.chunks
  pub room : p.room ≡ q.room
  pub turns : p.turns ≡ q.turns
  pub hints : p.hints ≡ q.hints
  pub fingers : p.fingers ≡ q.fingers

pub pool-same : (p q : CellPool) → SameLists p q → p ≡ q
pool-same p q s = λ i. record {
  first = s.first i;
  cells = s.cells i;
  leafs = s.leafs i;
  free = s.free i;
  chunks = s.chunks i;
  room = s.room i;
  turns = s.turns i;
  hints = s.hints i;
  fingers = s.fingers i;
}
