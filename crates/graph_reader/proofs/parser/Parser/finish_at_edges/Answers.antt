use Rattle.std.proofs.Common.{◌≡◌, sym, inl, inr, ◌⊎◌, ◌<◌, true, arith}
use Rattle.graph_reader.proofs.Takes.{count-last, not-false}
use Rattle.graph_reader.proofs.parser.Parser.finish_at_edges.Goals as goal
use Rattle.graph_reader.proofs.parser.Parser.finish_at_edges.Goals.{else-m-eq0-via-then-m-eq0+else-not-self, else-m-eq0-via-else-m-eq0}

pub returns-in-Ok-clause-read : goal.returns-in-Ok-clause-read
returns-in-Ok-clause-read c =
    let s = c.self.inside in
    let stage = rw (← c.self.view_is) at c.requires in
    let keeps = rw stage at c.self.invariant in
    let wanted : (s.with_areas ≡ true) ⊎ (0 < c.in-Ok.m) = elim c.else-m-eq0.branch [
      | else-m-eq0-via-then-m-eq0+else-not-self w ↦ inl (not-false _ w.if-not-self.false)
      | else-m-eq0-via-else-m-eq0 w ↦ inr (omega arith)
    ] in
    λ to. rw (c.truncated.ensures, ← c.self.view_is, stage)
    (count-last s.with_areas s.n c.in-Ok.m s.m c.args.at to c.args.end s.areas.items s.edges.items c.args.token keeps.1 (sym c.in-Ok.ensures.value) wanted)
