use Rattle.std.proofs.Common.{◌∙◌, arith}
use Rattle.extinction.proofs.PairLemmas.{written-back}
use Rattle.extinction.specs.Values.{attribute_values}
use Rattle.extinction.proofs.OneGraph.{extinctions-graph}
use Rattle.extinction.proofs.NodeSurvivorLemmas.{deaths-all}
use Rattle.extinction.proofs.deaths.by_survivors.Goals as goal

pub returns : goal.returns
returns c = λ g o.
    let t = c.args.tree.now in
    let m = c.args.minima.now in
    let values = attribute_values c.args.kind c.args.attributes.now in
    let noted = c.note_deaths.new.values in
    written-back noted _ c.in_ok-values.values.len (omega (arith, c.note_deaths.ensures.one_each, c.in_ok-values.ensures.len, c.count.ensures))
    ∙ deaths-all t m values c.in_ok-survivors.survivors.labels.items noted c.in_ok-survivors.ensures.labels_are c.note_deaths.ensures
    ∙ extinctions-graph g t c.args.attributes.now m c.args.kind o
