use Rattle.std.proofs.Common.{sym}
use Rattle.graph_reader.proofs.Takes.{takes-area}
use Rattle.graph_reader.proofs.parser.Parser.take_area.Goals as goal

pub returns-else-len-self : goal.returns-else-len-self
returns-else-len-self c =
    let s = c.self.inside in
    let stage = rw (← c.self.view_is) at c.requires in
    let areas = rw stage at c.self.invariant in
    rw (← c.self.view_is, stage, c.push_reserved.ensures.items)
    (takes-area s.with_areas s.n s.m c.in-Ok.area c.args.at s.areas.items s.edges.items c.args.token areas.areas_left (sym c.in-Ok.ensures.value))
