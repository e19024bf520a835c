-- Sums over the views.
use Rattle.std.proofs.Common.{◌≡◌, ◌≢◌, ℕ, zero, suc, ◌+◌, ◌<◌, ◌≤◌, refl, sym, ap, arith, true, false, Bool, List, [], ◌∷◌, ◌++◌, length}
use Rattle.std.specs.Prelude.{if◌then◌else◌, slice_set, slice_index}
use mathlib.Core.Option.{some, some-injective, some-ne-none}
use lib.ListN.{get_elem?}
use Rattle.merge_board.specs.Board.{total, missed_share}
use Rattle.merge_board.specs.declared.view.View.{View}
use Rattle.merge_board.proofs.Changes.{IsChange}
use Rattle.atomic_table.proofs.Lists.{set_here, set_else}
use Rattle.std.proofs.lemmas.List.{get_or-set_same, get_or-set_other}

module _ (f : View → ℕ) where
  pub total_set : (vs : List View) (k : ℕ) (u v : View) → get_elem? vs k ≡ some u → total f (slice_set vs k v) + f u ≡ total f vs + f v
  total_set [] k u v e = absurd (some-ne-none u (sym e))
  total_set (x ∷ xs) zero u v e = let same : f x ≡ f u = ap f (some-injective x u e) in omega arith
  total_set (x ∷ xs) (suc k) u v e = let rest = total_set xs k u v e in omega arith

  pub total_snoc : (vs : List View) (v : View) → total f (vs ++ v ∷ []) ≡ total f vs + f v
  total_snoc [] v = omega arith
  total_snoc (x ∷ xs) v = let rest = total_snoc xs v in omega arith

  -- a view has no more than all have
  pub total_has : (vs : List View) (k : ℕ) (u : View) → get_elem? vs k ≡ some u → f u ≤ total f vs
  total_has [] k u e = absurd (some-ne-none u (sym e))
  total_has (x ∷ xs) zero u e = let same : f x ≡ f u = ap f (some-injective x u e) in omega arith
  total_has (x ∷ xs) (suc k) u e = let rest = total_has xs k u e in omega arith

  -- what one view has of all, no other has
  pub total_two : (vs : List View) (k l : ℕ) (u v : View) → k ≢ l → get_elem? vs k ≡ some u → get_elem? vs l ≡ some v → f u + f v ≤ total f vs
  total_two [] k l u v ne e g = absurd (some-ne-none u (sym e))
  total_two (x ∷ xs) zero zero u v ne e g = absurd (ne refl)
  total_two (x ∷ xs) zero (suc l) u v ne e g = let same : f x ≡ f u = ap f (some-injective x u e) in let rest = total_has xs l v g in omega arith
  total_two (x ∷ xs) (suc k) zero u v ne e g = let same : f x ≡ f v = ap f (some-injective x v g) in let rest = total_has xs k u e in omega arith
  total_two (x ∷ xs) (suc k) (suc l) u v ne e g = let rest = total_two xs k l u v (λ s. ne (ap suc s)) e g in omega arith

-- where no view has any, all have none
pub total_none : (f : View → ℕ) (vs : List View) → ((k : ℕ) (v : View) → get_elem? vs k ≡ some v → f v ≡ 0) → total f vs ≡ 0
total_none f [] each = refl
total_none f (x ∷ xs) each = let here = each 0 x refl in let rest = total_none f xs (λ k v e. each (suc k) v e) in omega arith

pub missed_within : (v : View) → missed_share v ≤ v.share
missed_within v = by v.missed
  where
    by : (b : Bool) → (if b then v.share else 0) ≤ v.share
    by true = omega arith
    by false = omega arith

pub missed_all : (vs : List View) → total missed_share vs ≤ total (λ v. v.share) vs
missed_all [] = omega arith
missed_all (x ∷ xs) = let a = missed_within x in let b = missed_all xs in omega arith

pub missed_none : (v : View) → v.missed ≡ false → missed_share v ≡ 0
missed_none v e = ap (λ (b : Bool). if b then v.share else 0) e

pub missed_whole : (v : View) → v.missed ≡ true → missed_share v ≡ v.share
missed_whole v e = ap (λ (b : Bool). if b then v.share else 0) e

-- a list that is changed at one place, as a function
pub changed_words : (ws : List ℕ) (i n : ℕ) → i < length ws → IsChange (slice_index ws) (slice_index (slice_set ws i n)) i n
changed_words ws i n h = record { here = get_or-set_same ws i n 0 h; others = λ j ne. get_or-set_other ws i j n 0 ne }

pub changed_list : {A : Type 0} (xs : List A) (i : ℕ) (a : A) → i < length xs → IsChange (get_elem? xs) (get_elem? (slice_set xs i a)) i (some a)
changed_list xs i a h = record { here = set_here xs i a h; others = λ j ne. set_else xs i j a ne }

pub within_list : {A : Type 0} (xs : List A) (i : ℕ) (a : A) → get_elem? xs i ≡ some a → i < length xs
within_list [] i a e = absurd (some-ne-none a (sym e))
within_list (x ∷ xs) zero a e = omega arith
within_list (x ∷ xs) (suc i) a e = let rest = within_list xs i a e in omega arith
