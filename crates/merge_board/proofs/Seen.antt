-- The most draws that one view has seen.
use Rattle.std.proofs.Common.{◌≡◌, ◌≢◌, ℕ, zero, suc, ◌≤◌, inl, inr, refl, sym, ◌∙◌, subst, arith, List, [], ◌∷◌, ◌++◌}
use Rattle.std.proofs.lemmas.Bool.{cases_eq}
use Rattle.std.specs.Prelude.{slice_set}
use mathlib.Core.Option.{some, some-injective, some-ne-none}
use lib.ListN.{get_elem?}
use Rattle.atomic_table.proofs.Lists.{set_else}
use Rattle.merge_board.specs.Board.{most_seen}
use Rattle.merge_board.specs.declared.view.View.{View}

-- a view has seen no more than the most
pub most_seen_has : (vs : List View) (k : ℕ) (u : View) → get_elem? vs k ≡ some u → u.seen ≤ most_seen vs
most_seen_has [] k u e = absurd (some-ne-none u (sym e))
most_seen_has (x ∷ xs) zero u e = subst (λ (v : View). v.seen ≤ most_seen (x ∷ xs)) (some-injective x u e) (omega arith)
most_seen_has (x ∷ xs) (suc k) u e = let rest = most_seen_has xs k u e in omega arith

-- the most is within what each view is within
pub most_seen_within : (vs : List View) (n : ℕ) → ((k : ℕ) (v : View) → get_elem? vs k ≡ some v → v.seen ≤ n) → most_seen vs ≤ n
most_seen_within [] n each = omega arith
most_seen_within (x ∷ xs) n each = let here = each 0 x refl in let rest = most_seen_within xs n (λ k v e. each (suc k) v e) in omega arith

-- a view that has seen as much takes the place of another
pub most_seen_set : (vs : List View) (k : ℕ) (u v : View) → get_elem? vs k ≡ some u → u.seen ≤ v.seen → most_seen vs ≤ most_seen (slice_set vs k v)
most_seen_set [] k u v e le = absurd (some-ne-none u (sym e))
most_seen_set (x ∷ xs) zero u v e le = let same : x.seen ≤ v.seen = subst (λ (y : View). y.seen ≤ v.seen) (sym (some-injective x u e)) le in omega arith
most_seen_set (x ∷ xs) (suc k) u v e le = let rest = most_seen_set xs k u v e le in omega arith

-- one more view
pub most_seen_snoc : (vs : List View) (v : View) → most_seen vs ≤ most_seen (vs ++ v ∷ [])
most_seen_snoc [] v = omega arith
most_seen_snoc (x ∷ xs) v = let rest = most_seen_snoc xs v in omega arith

-- any view takes the place of one that has seen no more than another view there
pub most_seen_less : (vs : List View) (k l : ℕ) (u v w : View) → l ≢ k → get_elem? vs k ≡ some u → get_elem? vs l ≡ some w → u.seen ≤ w.seen → most_seen vs ≤ most_seen (slice_set vs k v)
most_seen_less vs k l u v w ne at_k at_l le = most_seen_within vs (most_seen (slice_set vs k v)) each
  where
    most : w.seen ≤ most_seen (slice_set vs k v)
    most = most_seen_has (slice_set vs k v) l w (set_else vs k l v ne ∙ at_l)

    each : (j : ℕ) (x : View) → get_elem? vs j ≡ some x → x.seen ≤ most_seen (slice_set vs k v)
    each j x at = elim (cases_eq j k) [
      | inl same ↦ (let is : u ≡ x = some-injective u x (sym at_k ∙ subst (λ (n : ℕ). get_elem? vs n ≡ some x) same at) in
          subst (λ (y : View). y.seen ≤ most_seen (slice_set vs k v)) is (let m = most in omega arith))
      | inr other ↦ most_seen_has (slice_set vs k v) j x (set_else vs k j v other ∙ at)
    ]
