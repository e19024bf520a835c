use Rattle.std.proofs.Common.{◌<◌, length, sym, arith}
use Rattle.graph_reader.proofs.Takes.{takes-first_end}
use Rattle.graph_reader.proofs.parser.Parser.take_first_end.Goals as goal

pub returns-in-Ok : goal.returns-in-Ok
returns-in-Ok c =
    let s = c.self.inside in
    let stage = rw (← c.self.view_is) at c.requires in
    let keeps = rw stage at c.self.invariant in
    let some : length s.edges.items < s.m = omega (arith, keeps.sized.edges_so_far, c.if-len-self.false, c.len.ensures, s.edges.ok) in
    rw (← c.self.view_is, stage)
    (takes-first_end s.with_areas s.n s.m c.in-Ok.u c.args.at s.areas.items s.edges.items c.args.token some (sym c.in-Ok.ensures.value))
