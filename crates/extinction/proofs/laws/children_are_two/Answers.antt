use Rattle.extinction.proofs.SideLemmas.{child-found}
use Rattle.extinction.proofs.TreeFacts.{inner-two}
use Rattle.extinction.proofs.laws.children_are_two.Goals as goal

pub returns-clause-two : goal.returns-clause-two
returns-clause-two c g i h inner hi = inner-two g h i inner hi

pub returns-clause-named : goal.returns-clause-named
returns-clause-named c t i k j f at = child-found t i k j at
