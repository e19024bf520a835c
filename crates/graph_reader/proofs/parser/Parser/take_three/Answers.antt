use Rattle.graph_reader.proofs.Takes.{takes-edge}
use Rattle.graph_reader.proofs.parser.Parser.take_three.Goals as goal

pub returns-in-Some : goal.returns-in-Some
returns-in-Some c =
    let s = c.self.inside in
    let is = rw (← c.self.view_is) at c.in-Some.ensures in
    rw (← c.self.view_is, is.stage, c.push_reserved.ensures.items)
    (takes-edge s.with_areas s.n s.m s.areas.items s.edges.items c.args.u c.args.v c.args.w c.in-Some.edge is.left is.first is.second is.weighs)
