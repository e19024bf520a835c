use Rattle.std.proofs.Common.{◌≡◌, ◌≤◌, length, arith, ap}
use Rattle.border_climb.proofs.Counting.{free-some}
use Rattle.border_climb.proofs.Opens.{second-used}
use Rattle.border_climb.proofs.splicing.open.Goals as goal

pub set_up-requires-2-clause-last : goal.set_up-requires-2-clause-last
set_up-requires-2-clause-last c =
    second-used c.args.region.now c.take.new.self c.set_up.new.region c.in-Some.id _ c.args.e.a c.args.first c.args.second _ c.keeps_its_rules.ensures.pool c.in-Some.ensures.covered c.requires.a c.requires.first c.requires.second
    c.in-Some.ensures.taken c.set_up.ensures

pub unreachable-requires : goal.unreachable-requires
unreachable-requires c =
    let w = c.requires.list in
    let some : 1 ≤ length c.args.region.now.free = free-some c.args.region.now c.keeps_its_rules.ensures.pool w.0 w.1.between w.1.links in
    let none : length c.args.region.now.free ≡ 0 = ap length c.in_default.ensures.none in
    omega arith
