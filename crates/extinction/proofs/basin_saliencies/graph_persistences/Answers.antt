use Rattle.std.proofs.lemmas.Result.{IfOk-weaker}
use Rattle.extinction.proofs.basin_saliencies.graph_persistences.Goals as goal

pub persistence-requires : goal.persistence-requires
persistence-requires c = (c.args.graph.now, record { graph = c.keeps_its_rules.ensures.graph; tree = c.requires.tree; attributes = c.requires.attributes; minima = c.requires.minima })

pub returns : goal.returns
returns c =
    IfOk-weaker c.persistence.result _ _
    (λ values all. all c.args.graph.now (record { graph = c.keeps_its_rules.ensures.graph; tree = c.requires.tree; attributes = c.requires.attributes; minima = c.requires.minima }))
    c.persistence.ensures
