use Rattle.std.proofs.Common.{◌∙◌}
use Rattle.std.proofs.lemmas.Bool.{false_from_ne_true, cond-true, cond-false}
use Rattle.tree_laws.specs.Tree.{parent}
use Rattle.tree_laws.specs.Zones.{keeps, next_kept}
use Rattle.tree_laws.proofs.Kept.{next_kept-parent}
use Rattle.tree_laws.proofs.level_laws.nearest_kept_ancestors.Goals as goal

pub returns-clause-here : goal.returns-clause-here
returns-clause-here c = λ t i climbs h k. next_kept-parent t climbs i h ∙ cond-true (keeps t (parent t i)) (parent t i) (next_kept t (parent t i)) k

pub returns-clause-further : goal.returns-clause-further
returns-clause-further c = λ t i climbs h k. next_kept-parent t climbs i h ∙ cond-false (keeps t (parent t i)) (parent t i) (next_kept t (parent t i)) (false_from_ne_true (keeps t (parent t i)) k)
