use Rattle.std.proofs.Common.{sym, subst, []}
use Rattle.node_region.specs.Pool.{IsCovered}
use Rattle.border_climb.specs.Stands.{PartState}
use Rattle.region_tests.proofs.border_climb_tests.assert_order.Goals as goal

pub give_each-requires : goal.give_each-requires
give_each-requires g c = (
  [],
  record {
    stands = c.in_ok-part.ensures.stands;
    a = λ e m. subst (λ (p : PartState). IsCovered p.region e.a) (sym c.in_ok-part.ensures.part) (c.links-edges.ensures.a e m);
    b = λ e m. subst (λ (p : PartState). IsCovered p.region e.b) (sym c.in_ok-part.ensures.part) (c.links-edges.ensures.b e m);
    two = c.links-edges.ensures.two;
    apart = c.links-edges.ensures.apart;
  },
)
