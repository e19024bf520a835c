use Rattle.higra_report.proofs.HierarchyLemmas.{hierarchy-is, where_ok}
use Rattle.higra_report.proofs.components.components_text.Goals as goal

pub returns-clause-hierarchy : goal.returns-clause-hierarchy
returns-clause-hierarchy g c = where_ok c.components_pieces.result _ (hierarchy-is c.args.graph.now c.keeps_its_rules.ensures.graph)
