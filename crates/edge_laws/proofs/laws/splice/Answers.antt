use Rattle.edge_laws.proofs.Splice.{next-before, next-at, next-past, next-joined}
use Rattle.edge_laws.proofs.Drops.{holds}
use Rattle.edge_laws.specs.Edges.{below}
use Rattle.edge_laws.proofs.LawForms.{leaves-from, stays-from, splice-elsewhere, splice-merging}
use Rattle.edge_laws.proofs.laws.splice.Goals as goal

pub returns-clause-before : goal.returns-clause-before
returns-clause-before c = λ e f s x k h. next-before e s h x k f

pub returns-clause-at : goal.returns-clause-at
returns-clause-at c = λ e s x k h up after out. next-at e s h x k up after (leaves-from s x e out)

pub returns-clause-past : goal.returns-clause-past
returns-clause-past c = λ e s x k h up after inside. next-past e s h x k up after (stays-from s x e inside)

pub returns-clause-elsewhere : goal.returns-clause-elsewhere
returns-clause-elsewhere c = splice-elsewhere

pub returns-clause-united : goal.returns-clause-united
returns-clause-united c = λ e s x k h lt j. next-joined e s h x k lt (holds (below s k) e.u e.v j)

pub returns-clause-merging : goal.returns-clause-merging
returns-clause-merging c = splice-merging
