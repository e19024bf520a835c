use Rattle.std.proofs.Common.{◌≡◌, ℕ, ◌∙◌, arith, List, drop, length, slice_index}
use Rattle.std.proofs.lemmas.List.{get_or_default}
use Rattle.hg_base.specs.declared.graph.Edge.{Edge}
use Rattle.tile_plan.specs.Grids.{lot_in}
use Rattle.tile_plan.proofs.Filled.{filled_whole, map_by_each}
use Rattle.tile_plan.proofs.lists.lots_by_number.Goals as goal

pub returns-clause-numbers : goal.returns-clause-numbers
returns-clause-numbers g c =
    let filled = c.number_lots.new.numbers in
    let rest : List ℕ = drop (length filled) c.in_ok-numbers.numbers.items in
    let long : c.in_ok-numbers.numbers.len ≡ length filled = omega (arith, c.in_ok-numbers.numbers.ok, c.deref_mut.ensures.len, c.number_lots.auto.numbers) in
    let many : length filled ≡ length c.args.graph.now.edges = omega (arith, long, c.in_ok-numbers.ensures.len, c.m.ensures.value) in
    filled_whole c.in_ok-numbers.numbers.len filled rest long
    ∙ map_by_each (λ (e : Edge). lot_in c.args.grid (slice_index c.args.homes.now e.u) (slice_index c.args.homes.now e.v)) c.args.graph.now.edges filled many
    (λ k d e l. get_or_default filled k e 0 (omega arith) ∙ (c.number_lots.ensures k l).value d)
