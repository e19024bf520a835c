use Rattle.std.proofs.Common.{arith, ap, ◌∙◌, ◌+◌, ℕ, List}
use Rattle.std.specs.Prelude.{slice_index, slice_range}
use Rattle.std.proofs.lemmas.List.{get_or_read}
use Rattle.hg_base.specs.declared.graph.PlacedEdge.{PlacedEdge}
use Rattle.tile_plan.proofs.Reading.{holds-as, some-tile, lot-rising}
use Rattle.tile_plan.proofs.plan.Plan.lot.Goals as goal

pub index-requires-2 : goal.index-requires-2
index-requires-2 c =
    let h = holds-as c.self.inside c.args.self.now c.self.view_is c.self.invariant in
    omega (arith, some-tile c.args.self.now h.plan, h.lots.long, c.self.inside.lots.starts.ok)

pub slice_bounds-result-count : goal.slice_bounds-result-count
slice_bounds-result-count c =
    let h = holds-as c.self.inside c.args.self.now c.self.view_is c.self.invariant in
    let some = some-tile c.args.self.now h.plan in
    let first = get_or_read c.self.inside.lots.starts.items c.args.p c.index.result.now (omega (arith, some, h.lots.long)) c.index.ensures 0 in
    let last = get_or_read c.self.inside.lots.starts.items (c.args.p + 1) c.index-2.result.now (omega (arith, some, h.lots.long)) c.index-2.ensures 0 in
    omega (arith, first, last, h.lots.rising c.args.p (omega (arith, some)))

pub returns-clause-value : goal.returns-clause-value
returns-clause-value c =
    let h = holds-as c.self.inside c.args.self.now c.self.view_is c.self.invariant in
    let some = some-tile c.args.self.now h.plan in
    let first = get_or_read c.self.inside.lots.starts.items c.args.p c.index.result.now (omega (arith, some, h.lots.long)) c.index.ensures 0 in
    let last = get_or_read c.self.inside.lots.starts.items (c.args.p + 1) c.index-2.result.now (omega (arith, some, h.lots.long)) c.index-2.ensures 0 in
    ap (λ (xs : List PlacedEdge). slice_range xs c.index.result.now c.index-2.result.now) c.deref.ensures.value
    ∙ ap (λ (k : ℕ). slice_range c.self.inside.lots.edges.items k c.index-2.result.now) first
    ∙ ap (λ (k : ℕ). slice_range c.self.inside.lots.edges.items (slice_index c.self.inside.lots.starts.items c.args.p) k) last
    ∙ h.lots.lots c.args.p (omega (arith, some))

pub returns-clause-rising : goal.returns-clause-rising
returns-clause-rising c =
    let h = holds-as c.self.inside c.args.self.now c.self.view_is c.self.invariant in
    lot-rising c.args.self.now c.args.p h.plan

pub slice_bounds-result-start : goal.slice_bounds-result-start
slice_bounds-result-start c =
    let h = holds-as c.self.inside c.args.self.now c.self.view_is c.self.invariant in
    let some = some-tile c.args.self.now h.plan in
    let first = get_or_read c.self.inside.lots.starts.items c.args.p c.index.result.now (omega (arith, some, h.lots.long)) c.index.ensures 0 in
    let last = get_or_read c.self.inside.lots.starts.items (c.args.p + 1) c.index-2.result.now (omega (arith, some, h.lots.long)) c.index-2.ensures 0 in
    let rising = h.lots.rising c.args.p (omega (arith, some)) in
    let within = h.lots.within c.args.p (omega (arith, some)) in
    omega (arith, first, last, rising)

pub slice_bounds-result-end : goal.slice_bounds-result-end
slice_bounds-result-end c =
    let h = holds-as c.self.inside c.args.self.now c.self.view_is c.self.invariant in
    let some = some-tile c.args.self.now h.plan in
    let first = get_or_read c.self.inside.lots.starts.items c.args.p c.index.result.now (omega (arith, some, h.lots.long)) c.index.ensures 0 in
    let last = get_or_read c.self.inside.lots.starts.items (c.args.p + 1) c.index-2.result.now (omega (arith, some, h.lots.long)) c.index-2.ensures 0 in
    let rising = h.lots.rising c.args.p (omega (arith, some)) in
    let within = h.lots.within c.args.p (omega (arith, some)) in
    omega (arith, first, last, rising, within, c.deref.ensures.value, c.self.inside.lots.edges.ok)
