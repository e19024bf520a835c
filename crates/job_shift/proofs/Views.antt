-- One change of the views, and what it leaves.
use Rattle.std.proofs.Common.{◌≡◌, ℕ, inl, inr, refl, subst, arith, List, [], ◌∷◌, length}
use Rattle.std.specs.Prelude.{slice_set, slice_index}
use mathlib.Core.Option.{some}
use lib.ListN.{get_elem?}
use Rattle.atomic_table.proofs.Lists.{at_set}
use Rattle.job_shift.specs.declared.view.HandView.{HandView}

-- the word that was set
pub word_set : (ws : List ℕ) (n : ℕ) → length ws ≡ 1 → slice_index (slice_set ws 0 n) 0 ≡ n
word_set [] n e = absurd (omega arith)
word_set (w ∷ ws) n e = refl

-- what holds of the view that was set and of all that stood holds of all that stand
pub each_set : (P : HandView → Type 0) (vs : List HandView) (id k : ℕ) (w u : HandView) → P w → ((l : ℕ) (x : HandView) → get_elem? vs l ≡ some x → P x) → get_elem? (slice_set vs id w) k ≡ some u → P u
each_set P vs id k w u here others e = elim (at_set vs id k w u e) [
  | inl t ↦ subst P t.1 here
  | inr t ↦ others k u t.1
]
