use Rattle.std.proofs.Common.{◌∙◌, sym, arith}
use Rattle.tile_plan.proofs.Reading.{holds-as, some-tile, rows-length, row-read, parent-read}
use Rattle.tile_plan.proofs.plan.Plan.parent.Goals as goal

pub index-requires : goal.index-requires
index-requires c =
    let h = holds-as c.self.inside c.args.self.now c.self.view_is c.self.invariant in
    omega (arith, some-tile c.args.self.now h.plan, rows-length c.args.self.now c.self.inside.rows.items h.rows, c.self.inside.rows.ok)

pub returns : goal.returns
returns c =
    let h = holds-as c.self.inside c.args.self.now c.self.view_is c.self.invariant in
    let row = row-read c.args.self.now c.args.p c.self.inside.rows.items c.index.result.now h.rows (omega (arith, some-tile c.args.self.now h.plan)) c.index.ensures in
    parent-read c.args.self.now c.args.p c.index.result.now row (λ e. c.if-p-root.false (e ∙ sym c.root.ensures))
