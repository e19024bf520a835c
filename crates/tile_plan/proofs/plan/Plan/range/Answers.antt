use Rattle.std.proofs.Common.{◌+◌, ◌-◌, ◌∙◌, arith, ap}
use Rattle.tile_plan.specs.Plan.{start}
use Rattle.tile_plan.proofs.Reading.{holds-as, some-tile, rows-length, row-read, start-read}
use Rattle.tile_plan.proofs.Ranges.{is_somewhere, start-rises}
use Rattle.tile_plan.proofs.plan.Plan.range.Goals as goal

pub index-row-requires : goal.index-row-requires
index-row-requires c =
    let h = holds-as c.self.inside c.args.self.now c.self.view_is c.self.invariant in
    omega (arith, some-tile c.args.self.now h.plan, rows-length c.args.self.now c.self.inside.rows.items h.rows, c.self.inside.rows.ok)

pub index-first-requires : goal.index-first-requires
index-first-requires c =
    let h = holds-as c.self.inside c.args.self.now c.self.view_is c.self.invariant in
    let q = c.args.self.now in
    let some = some-tile q h.plan in
    let row = row-read q c.args.p c.self.inside.rows.items c.index-row.result.now h.rows (omega (arith, some)) c.index-row.ensures in
    let at = is_somewhere q c.args.p h.plan (omega (arith, some)) in
    let starts = h.places.starts in
    omega (arith, row.first_tile, at.tiles, starts.long, c.self.inside.places.starts.ok)

pub overflow_add-row : goal.overflow_add-row
overflow_add-row c =
    let h = holds-as c.self.inside c.args.self.now c.self.view_is c.self.invariant in
    let q = c.args.self.now in
    let some = some-tile q h.plan in
    let row = row-read q c.args.p c.self.inside.rows.items c.index-row.result.now h.rows (omega (arith, some)) c.index-row.ensures in
    let at = is_somewhere q c.args.p h.plan (omega (arith, some)) in
    let starts = h.places.starts in
    omega (arith, row.first_tile, row.tiles, at.tiles, h.plan.tiles)

pub index-end-requires : goal.index-end-requires
index-end-requires c =
    let h = holds-as c.self.inside c.args.self.now c.self.view_is c.self.invariant in
    let q = c.args.self.now in
    let some = some-tile q h.plan in
    let row = row-read q c.args.p c.self.inside.rows.items c.index-row.result.now h.rows (omega (arith, some)) c.index-row.ensures in
    let at = is_somewhere q c.args.p h.plan (omega (arith, some)) in
    let starts = h.places.starts in
    omega (arith, row.first_tile, row.tiles, at.tiles, starts.long, c.self.inside.places.starts.ok)

pub overflow_sub-result : goal.overflow_sub-result
overflow_sub-result c =
    let h = holds-as c.self.inside c.args.self.now c.self.view_is c.self.invariant in
    let q = c.args.self.now in
    let some = some-tile q h.plan in
    let row = row-read q c.args.p c.self.inside.rows.items c.index-row.result.now h.rows (omega (arith, some)) c.index-row.ensures in
    let at = is_somewhere q c.args.p h.plan (omega (arith, some)) in
    let starts = h.places.starts in
    let first = start-read q c.index-row.result.now.site.first_tile c.index-first.result.now c.self.inside.places.starts.items starts (omega (arith, row.first_tile, at.tiles)) c.index-first.ensures in
    let last = start-read q (c.index-row.result.now.site.first_tile + c.index-row.result.now.tiles) c.index-end.result.now c.self.inside.places.starts.items starts (omega (arith, row.first_tile, row.tiles, at.tiles)) c.index-end.ensures in
    omega (arith, first, last, start-rises q c.index-row.result.now.site.first_tile (c.index-row.result.now.site.first_tile + c.index-row.result.now.tiles) (omega arith))

pub returns : goal.returns
returns c =
    let h = holds-as c.self.inside c.args.self.now c.self.view_is c.self.invariant in
    let q = c.args.self.now in
    let some = some-tile q h.plan in
    let row = row-read q c.args.p c.self.inside.rows.items c.index-row.result.now h.rows (omega (arith, some)) c.index-row.ensures in
    let at = is_somewhere q c.args.p h.plan (omega (arith, some)) in
    let starts = h.places.starts in
    let first = start-read q c.index-row.result.now.site.first_tile c.index-first.result.now c.self.inside.places.starts.items starts (omega (arith, row.first_tile, at.tiles)) c.index-first.ensures in
    let last = start-read q (c.index-row.result.now.site.first_tile + c.index-row.result.now.tiles) c.index-end.result.now c.self.inside.places.starts.items starts (omega (arith, row.first_tile, row.tiles, at.tiles)) c.index-end.ensures in
    let a = first ∙ ap (start q) row.first_tile in
    let b = last ∙ ap (start q) (let one = row.first_tile in let two = row.tiles in omega (arith, one, two)) in
    λ i. (a i, b i - a i)
