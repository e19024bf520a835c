use Rattle.std.proofs.Common.{length, ap, arith}
use Rattle.tile_plan.proofs.Reading.{holds-as, vertex-found}
use Rattle.tile_plan.proofs.plan.Plan.vertex_at.Goals as goal

pub overflow_cast-result : goal.overflow_cast-result
overflow_cast-result c =
    let h = holds-as c.self.inside c.args.self.now c.self.view_is c.self.invariant in
    omega (arith, c.first_at.ensures.within, ap length c.deref.ensures.value, h.places.places.long, h.plan.frame.vertices)

pub returns-clause-value : goal.returns-clause-value
returns-clause-value c =
    let h = holds-as c.self.inside c.args.self.now c.self.view_is c.self.invariant in
    (vertex-found c.args.self.now c.args.place c.first_at.result c.self.inside.places h.plan h.places c.requires
    (rw c.deref.ensures.value at c.first_at.ensures.before) (rw c.deref.ensures.value at c.first_at.ensures.found)).value

pub returns-clause-below : goal.returns-clause-below
returns-clause-below c =
    let h = holds-as c.self.inside c.args.self.now c.self.view_is c.self.invariant in
    (vertex-found c.args.self.now c.args.place c.first_at.result c.self.inside.places h.plan h.places c.requires
    (rw c.deref.ensures.value at c.first_at.ensures.before) (rw c.deref.ensures.value at c.first_at.ensures.found)).below
