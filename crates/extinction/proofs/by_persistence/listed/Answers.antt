use Rattle.std.proofs.Common.{ℕ, List, sym, subst}
use Rattle.extinction.specs.PersistenceOrder.{AreSorted}
use Rattle.extinction.proofs.by_persistence.listed.Goals as goal

pub edges_by_keys-requires-clause-keys : goal.edges_by_keys-requires-clause-keys
edges_by_keys-requires-clause-keys c = subst (λ (xs : List (ℕ × ℕ)). AreSorted c.args.persistences.now xs) (sym c.deref.ensures.value) c.in_ok-keys.ensures
