use Rattle.std.proofs.lemmas.Result.{IfOk-weaker}
use Rattle.higra_report.proofs.hierarchies.Basins.extinctions.Goals as goal

pub extinctions-requires : goal.extinctions-requires
extinctions-requires c = (c.args.graph.now, record { graph = c.requires.tree.graph; tree = c.requires.tree.same; attributes = c.requires.attributes; minima = c.requires.minima })

pub returns : goal.returns
returns c =
    IfOk-weaker c.extinctions.result _ _ (λ values is. is c.args.graph.now (record { graph = c.requires.tree.graph; tree = c.requires.tree.same; attributes = c.requires.attributes; minima = c.requires.minima }))
    c.extinctions.ensures
