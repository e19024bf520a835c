use Rattle.std.proofs.Common.{ℕ, ◌+◌, ◌-◌, ◌∙◌, arith, ap, subst, sym}
use Rattle.tile_plan.specs.Plan.{start, IsLargestFrom}
use Rattle.tile_plan.proofs.Reading.{holds-as, rows-length, row-read, start-read, room-at}
use Rattle.tile_plan.proofs.Ranges.{is_largest, start-rises}
use Rattle.tile_plan.proofs.plan.Plan.room_of.Goals as goal

pub index-requires : goal.index-requires
index-requires c =
    let h = holds-as c.self.inside c.args.self.now c.self.view_is c.self.invariant in
    omega (arith, rows-length c.args.self.now c.self.inside.rows.items h.rows, c.self.inside.rows.ok)

pub overflow_add-t : goal.overflow_add-t
overflow_add-t c =
    let h = holds-as c.self.inside c.args.self.now c.self.view_is c.self.invariant in
    let q = c.args.self.now in
    let row = row-read q c.args.t c.self.inside.rows.items c.index.result.now h.rows (omega arith) c.index.ensures in
    let at = room-at q c.args.t h.plan c.requires in
    let room = row.room in
    let starts = h.places.starts in
    omega (arith, room, at, h.plan.tiles)

pub index-end-requires : goal.index-end-requires
index-end-requires c =
    let h = holds-as c.self.inside c.args.self.now c.self.view_is c.self.invariant in
    let q = c.args.self.now in
    let row = row-read q c.args.t c.self.inside.rows.items c.index.result.now h.rows (omega arith) c.index.ensures in
    let at = room-at q c.args.t h.plan c.requires in
    let room = row.room in
    let starts = h.places.starts in
    omega (arith, room, at, starts.long, c.self.inside.places.starts.ok)

pub overflow_sub-result : goal.overflow_sub-result
overflow_sub-result c =
    let h = holds-as c.self.inside c.args.self.now c.self.view_is c.self.invariant in
    let q = c.args.self.now in
    let row = row-read q c.args.t c.self.inside.rows.items c.index.result.now h.rows (omega arith) c.index.ensures in
    let at = room-at q c.args.t h.plan c.requires in
    let room = row.room in
    let starts = h.places.starts in
    let first = start-read q c.args.t c.index-first.result.now c.self.inside.places.starts.items starts (omega arith) c.index-first.ensures in
    let last = start-read q (c.args.t + c.index.result.now.site.room) c.index-end.result.now c.self.inside.places.starts.items starts (omega (arith, room, at)) c.index-end.ensures in
    omega (arith, first, last, start-rises q c.args.t (c.args.t + c.index.result.now.site.room) (omega arith))

pub returns-clause-value : goal.returns-clause-value
returns-clause-value c =
    let h = holds-as c.self.inside c.args.self.now c.self.view_is c.self.invariant in
    let q = c.args.self.now in
    let row = row-read q c.args.t c.self.inside.rows.items c.index.result.now h.rows (omega arith) c.index.ensures in
    let at = room-at q c.args.t h.plan c.requires in
    let room = row.room in
    let starts = h.places.starts in
    let first = start-read q c.args.t c.index-first.result.now c.self.inside.places.starts.items starts (omega arith) c.index-first.ensures in
    let last = start-read q (c.args.t + c.index.result.now.site.room) c.index-end.result.now c.self.inside.places.starts.items starts (omega (arith, room, at)) c.index-end.ensures in
    let b = last ∙ ap (λ (k : ℕ). start q (c.args.t + k)) room in
    λ i. record { places = b i - first i; chunks = room i }

pub returns-clause-largest : goal.returns-clause-largest
returns-clause-largest c =
    let h = holds-as c.self.inside c.args.self.now c.self.view_is c.self.invariant in
    let q = c.args.self.now in
    let row = row-read q c.args.t c.self.inside.rows.items c.index.result.now h.rows (omega arith) c.index.ensures in
    let at = room-at q c.args.t h.plan c.requires in
    let room = row.room in
    let starts = h.places.starts in
    subst (IsLargestFrom q c.args.t) (sym room) (is_largest q c.args.t h.plan c.requires)
