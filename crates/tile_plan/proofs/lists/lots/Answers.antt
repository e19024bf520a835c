use Rattle.std.proofs.Common.{◌≡◌, ℕ, ◌+◌, ◌-◌, ◌<◌, ◌∙◌, arith, sym, ap, List, map, take, drop, length, get_or}
use Rattle.std.specs.Prelude.{◌==◌, slice_index, filter}
use Rattle.std.proofs.lemmas.List.{take_all}
use Rattle.edge_laws.specs.Edges.{ListedEdge, EdgeList, renamed_edge}
use Rattle.edge_laws.specs.Placed.{placed}
use Rattle.hg_base.specs.declared.graph.PlacedEdge.{PlacedEdge}
use Rattle.tile_plan.specs.Placing.{place_by, count_of}
use Rattle.tile_plan.specs.Dealing.{no_edge, laid}
use Rattle.tile_plan.proofs.Counting.{place-below, start-next}
use Rattle.tile_plan.proofs.Dealing.{dealt-below}
use Rattle.tile_plan.proofs.Filled.{filled_whole}
use Rattle.tile_plan.proofs.Scatter.{lot-taken, renamed_lot}
use Rattle.tile_plan.proofs.lists.lots.Goals as goal

pub lay-requires-clause-ranks : goal.lay-requires-clause-ranks
lay-requires-clause-ranks g c = λ j l.
    let keys : List ℕ = c.args.numbers.now in
    let value = c.deref.ensures.value in
    let low : j < length keys = omega (arith, ap length value, c.in_ok-ranks.ensures.len) in
    let rank = dealt-below (slice_index keys) (length keys) j c.in_ok-ranks.ranks.items c.in_ok-ranks.ensures.at low in
    omega (arith, ap (λ (xs : List ℕ). slice_index xs j) value, rank, c.requires.numbers)

pub returns-clause-lots : goal.returns-clause-lots
returns-clause-lots g c = λ lot same k h.
    let keys : List ℕ = c.args.numbers.now in
    let s : EdgeList = c.args.order.now.edges in
    let filled = c.lay.new.lots in
    let rest : List PlacedEdge = drop (length filled) c.in_ok-lots.lots.items in
    let dealt = c.in_ok-ranks.ranks.items in
    let between = λ (x : ListedEdge). placed (renamed_edge (slice_index c.args.places.now) x) in
    let none : PlacedEdge = record { rank = 0; a = 0; b = 0 } in
    let full : c.in_ok-lots.lots.len ≡ length filled = omega (arith, c.in_ok-lots.lots.ok, c.deref_mut.ensures.len, c.lay.auto.lots) in
    let value = c.deref.ensures.value in
    let long : length filled ≡ length keys = omega (arith, full, c.in_ok-lots.ensures.len, c.in_ok-ranks.ensures.len, c.in_ok-ranks.ranks.ok) in
    let at : (i : ℕ) → i < length keys → get_or filled (place_by (slice_index keys) (length keys) i) none ≡ between (get_or s i no_edge) = λ i l.
    c.lay.ensures (place_by (slice_index keys) (length keys) i) none (omega (arith, place-below (slice_index keys) (length keys) i l, ap length value, c.in_ok-ranks.ensures.len))
    ∙ ap (λ (xs : List ℕ). laid c.args.places.now s (slice_index xs (place_by (slice_index keys) (length keys) i))) value
    ∙ ap (laid c.args.places.now s) (c.in_ok-ranks.ensures.at i l) in
    let first = c.requires.starts.at k (omega arith) in
    let last = c.requires.starts.at (k + 1) h in
    let next = start-next (slice_index keys) (length keys) k in
    let count : slice_index c.args.starts.now (k + 1) - slice_index c.args.starts.now k ≡ count_of (slice_index keys) (length keys) k = omega (arith, first, last, next) in
    ap (λ (out : List PlacedEdge). take (slice_index c.args.starts.now (k + 1) - slice_index c.args.starts.now k) (drop (slice_index c.args.starts.now k) out)) (filled_whole c.in_ok-lots.lots.len filled rest full)
    ∙ ap (λ (z : ℕ). take z (drop (slice_index c.args.starts.now k) filled)) count
    ∙ ap (λ (z : ℕ). take (count_of (slice_index keys) (length keys) k) (drop z filled)) first
    ∙ lot-taken lot between keys s k (length keys) filled none no_edge same long (omega arith) at
    ∙ ap (λ (t : EdgeList). map between (filter (λ e. lot e == k) t)) (take_all (length keys) s (omega (arith, c.requires.numbers)))
    ∙ sym (renamed_lot (slice_index c.args.places.now) (filter (λ e. lot e == k) s))
