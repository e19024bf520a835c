-- Ranks that lie in order of their lots.
use Rattle.std.proofs.Common.{◌≡◌, ℕ, ◌<◌, ◌∙◌, sym, ap, arith, List, Some, slice_get, slice_index}
use Rattle.std.proofs.lemmas.Option.{get_or_from_slice_get}
use Rattle.edge_laws.specs.Edges.{ListedEdge, EdgeList, renamed_edge}
use Rattle.edge_laws.specs.Placed.{placed}
use Rattle.hg_base.specs.declared.graph.PlacedEdge.{PlacedEdge}
use Rattle.hg_base.specs.declared.graph.RankedEdge.{RankedEdge}
use Rattle.edge_order.specs.Order.{with_number}
use Rattle.tile_plan.specs.Placing.{place_by}
use Rattle.tile_plan.specs.Dealing.{no_edge, laid}
use Rattle.tile_plan.proofs.Counting.{place-below, place-once}
use Rattle.tile_plan.proofs.Reading.{onto}
use Rattle.tile_plan.proofs.Scatter.{placed_lot}

-- what is made of the edge at a rank
pub laid-made : (places : List ℕ) (s : EdgeList) (r number : ℕ) (e : RankedEdge) → e.rank ≡ r → slice_get s r ≡ Some (with_number e number)
    → ◌≡◌ {A = PlacedEdge} (record { rank = r; a = slice_index places e.u; b = slice_index places e.v }) (laid places s r)
laid-made places s r number e at found =
    placed_lot (slice_index places) r number e at
    ∙ ap (λ (x : ListedEdge). placed (renamed_edge (slice_index places) x)) (sym (get_or_from_slice_get s r (with_number e number) no_edge found))

-- each is the rank of an edge
pub dealt-below : (f : ℕ → ℕ) (n j : ℕ) (dealt : List ℕ) → ((i : ℕ) → i < n → slice_index dealt (place_by f n i) ≡ i) → j < n → slice_index dealt j < n
dealt-below f n j dealt at l =
    let some = onto (place_by f n) n j (λ i li. place-below f n i li) (place-once f n) l in
    let is : slice_index dealt j ≡ some.0 = ap (slice_index dealt) (sym some.1.1) ∙ at some.0 some.1.0 in
    omega (arith, is, some.1.0)
