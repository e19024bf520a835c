-- What is in the lists of joining edges, chains, components and fronts, exactly.
use Rattle.std.proofs.Common.{◌≡◌, ℕ, ◌+◌, ◌<◌, true, inl, inr, sym, ◌∙◌, arith}
use Rattle.std.specs.Prelude.{◌↔◌, ◌||◌}
use Rattle.std.specs.List.{range_with_len}
use Rattle.std.specs.List.Sorted.{IsStrictlyIncreasing}
use Rattle.std.proofs.lemmas.Bool.{or_cases, not_from_true, not_from_false, true≢false}
use Rattle.std.proofs.lemmas.List.FromFn.{length-range_with_len, get_or-range_with_len}
use Rattle.std.proofs.lemmas.List.Kept.{IsStrictlyIncreasing-filter}
use Rattle.hg_base.specs.Graph.{WeightedGraph}
use Rattle.edge_laws.specs.Edges.{ListedEdge, EdgeList, Joined, joined, component, below, joins, touches, chain}
use Rattle.hg_base.specs.Lists.{IsIn}
use Rattle.edge_laws.specs.Rank.{ranked, front}
use Rattle.edge_laws.specs.Splice.{IsRedundant, IsAtEnd}
use Rattle.edge_laws.proofs.Walks.{Joined-joined}
use Rattle.hg_base.proofs.Lists.{IsIn-filter, IsIn-kept, IsIn-range, IsIn-range_below}
use Rattle.edge_laws.proofs.Members.{IsIn-below, IsIn-below_kept}
use Rattle.edge_laws.proofs.Sets.{IsIn-joins, IsIn-joins_kept}
use Rattle.edge_laws.proofs.Drops.{untrue, holds}
use Rattle.edge_laws.proofs.LawForms.{at_end-from}

-- an edge of the list joins exactly where its ends aren't joined by edges of lower rank
pub joins-exactly : (e : ListedEdge) (s : EdgeList) → IsIn e (joins s) ↔ (IsIn e s × (IsRedundant e s → ⊥))
joins-exactly e s = (
  λ i. (let p = IsIn-joins_kept s e i in
      (p.0, λ (r : IsRedundant e s). true≢false (sym p.1 ∙ not_from_true (joined (below s e.rank) e.u e.v) (holds (below s e.rank) e.u e.v r)))),
  λ p. IsIn-joins s e p.0 (not_from_false (joined (below s e.rank) e.u e.v) (untrue (below s e.rank) e.u e.v p.1)),
)

-- where one of both ends is joined to x
at_end-to : (e : ListedEdge) (s : EdgeList) (k x : ℕ) → (joined (below s k) x e.u || joined (below s k) x e.v) ≡ true → IsAtEnd e s k x
at_end-to e s k x h =
    elim (or_cases (joined (below s k) x e.u) (joined (below s k) x e.v) h) [
      | inl first ↦ inl (Joined-joined (below s k) x e.u first)
      | inr second ↦ inr (Joined-joined (below s k) x e.v second)
    ]

-- a joining edge is on the chain of x exactly where edges of lower rank join x to one of its ends
pub chain-exactly : (e : ListedEdge) (s : EdgeList) (x : ℕ) → IsIn e (chain s x) ↔ (IsIn e (joins s) × IsAtEnd e s e.rank x)
chain-exactly e s x = (
  λ i. (let p = IsIn-kept (touches s x) e (joins s) i in (p.1, at_end-to e s e.rank x p.0)),
  λ p. IsIn-filter (touches s x) e (joins s) (at_end-from e s e.rank x p.1) p.0,
)

-- a component holds exactly the vertices below n that are joined to x
pub component-exactly : (n : ℕ) (s : EdgeList) (x y : ℕ) → IsIn y (component n s x) ↔ ((y < n) × Joined s x y)
component-exactly n s x y = (
  λ i. (let p = IsIn-kept (joined s x) y (range_with_len 0 n) i in
      ((let high : y < 0 + n = IsIn-range_below 0 n y p.1 in omega arith), Joined-joined s x y p.0)),
  λ p. IsIn-filter (joined s x) y (range_with_len 0 n) (holds s x y p.1) (let low : y < n = p.0 in IsIn-range 0 n y (omega arith) (omega arith)),
)

-- and they rise
pub component-rises : (n : ℕ) (s : EdgeList) (x : ℕ) → IsStrictlyIncreasing (component n s x)
component-rises n s x = IsStrictlyIncreasing-filter (joined s x) (range_with_len 0 n) range-rises
  where
    range-rises : IsStrictlyIncreasing (range_with_len 0 n)
    range-rises k lt =
        let high : k + 1 < n = omega (arith, length-range_with_len 0 n) in
        omega (arith, get_or-range_with_len 0 n k 0 (omega arith), get_or-range_with_len 0 n (k + 1) 0 high)

-- a front holds exactly the ranked edges of rank below its number
pub front-exactly : (g : WeightedGraph) (k : ℕ) (e : ListedEdge) → IsIn e (front g k) ↔ (IsIn e (ranked g) × (e.rank < k))
front-exactly g k e = (λ i. IsIn-below_kept e (ranked g) k i, λ p. IsIn-below e (ranked g) k p.0 p.1)
