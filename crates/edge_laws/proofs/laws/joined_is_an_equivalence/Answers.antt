use Rattle.std.proofs.Common.{[], refl}
use Rattle.edge_laws.proofs.LawForms.{Joined-back, Joined-through, Joined-among}
use Rattle.edge_laws.proofs.laws.joined_is_an_equivalence.Goals as goal

pub returns-clause-itself : goal.returns-clause-itself
returns-clause-itself c = λ s x. ([], refl)

pub returns-clause-back : goal.returns-clause-back
returns-clause-back c = Joined-back

pub returns-clause-on : goal.returns-clause-on
returns-clause-on c = Joined-through

pub returns-clause-grows : goal.returns-clause-grows
returns-clause-grows c = Joined-among

pub returns-clause-by_set : goal.returns-clause-by_set
returns-clause-by_set c = λ s t x y h. (Joined-among s t x y h.on, Joined-among t s x y h.back)
