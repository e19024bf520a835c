use Rattle.std.proofs.Common.{◌<◌, ◌-◌, length, arith}
use Rattle.graph_reader.proofs.Chains.{more_edges-missing}
use Rattle.graph_reader.proofs.Takes.{unfinished}
use Rattle.graph_reader.specs.Parsing.{reading_at}
use Rattle.graph_reader.proofs.parser.Parser.finish.Goals as goal

pub returns-else-len-self-clause-read : goal.returns-else-len-self-clause-read
unfolding reading_at
returns-else-len-self-clause-read c =
    let s = c.self.inside in
    let keeps = rw c.in-FirstEnd.is at c.self.invariant in
    let some : 0 < s.m - length s.edges.items = omega (arith, keeps.sized.edges_so_far, c.if-len-self.false, c.len.ensures, s.edges.ok) in
    rw (c.truncated.ensures, ← c.self.view_is, c.in-FirstEnd.is) (λ memory. more_edges-missing _ _ _ some)

pub returns-in-Vertices-clause-read : goal.returns-in-Vertices-clause-read
returns-in-Vertices-clause-read c =
    rw (c.truncated-in-Vertices.ensures, ← c.self.view_is) (λ memory. (unfinished c.self.inside c.args.end c.self.invariant c.in-Vertices.is).0)

pub returns-in-Vertices-clause-memory : goal.returns-in-Vertices-clause-memory
returns-in-Vertices-clause-memory c =
    let known = (unfinished c.self.inside c.args.end c.self.invariant c.in-Vertices.is).1 in
    rw (c.truncated-in-Vertices.ensures, ← c.self.view_is, known) (λ e. cc, λ e. cc)
