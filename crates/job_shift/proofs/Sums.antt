-- How often a number stands in a list, and sums over views.
use Rattle.std.proofs.Common.{◌≡◌, ◌≢◌, ℕ, zero, suc, ◌+◌, ◌≤◌, refl, sym, ◌∙◌, ap, arith, eq-eqb, ne_eqb, true, false, Bool, List, [], ◌∷◌, ◌++◌, length}
use Rattle.std.proofs.lemmas.List.{length-append, map-append}
use Rattle.std.specs.Prelude.{if◌then◌else◌, ◌==◌, slice_set}
use mathlib.Core.Option.{some, some-injective, some-ne-none}
use lib.ListN.{get_elem?}
use Rattle.job_shift.specs.Times.{times, total, jobs, pair_count, missed_share}
use Rattle.job_shift.specs.Hands.{with_job}
use Rattle.job_shift.specs.declared.view.HandView.{HandView}
use Rattle.job_shift.specs.declared.view.Pair.{Pair}

-- 1 where two numbers are one, else 0
abbrev pub one_if : ℕ → ℕ → ℕ
one_if x y = if y == x then 1 else 0

pub one_if-same : (x y : ℕ) → y ≡ x → one_if x y ≡ 1
one_if-same x y e = ap (λ (b : Bool). if b then 1 else 0) (eq-eqb y x e)

pub one_if-other : (x y : ℕ) → y ≢ x → one_if x y ≡ 0
one_if-other x y e = ap (λ (b : Bool). if b then 1 else 0) (ne_eqb y x e)

pub times-append : (x : ℕ) (ys zs : List ℕ) → times x (ys ++ zs) ≡ times x ys + times x zs
times-append x [] zs = omega arith
times-append x (y ∷ ys) zs = let rest = times-append x ys zs in omega arith

-- what one more number changes
pub times-with_job : (x n : ℕ) (v : HandView) → times x (jobs (with_job v n)) ≡ times x (jobs v) + one_if x n
times-with_job x n v =
    let e : times x (jobs (with_job v n)) ≡ times x (jobs v ++ n ∷ []) = ap (λ (l : List ℕ). times x l) (map-append (λ (p : Pair). p.job) v.pairs (record { job = n; hand = v.number } ∷ [])) in
    let s = times-append x (jobs v) (n ∷ []) in omega arith

pub pair_count-with_job : (n : ℕ) (v : HandView) → pair_count (with_job v n) ≡ pair_count v + 1
pair_count-with_job n v = length-append v.pairs (record { job = n; hand = v.number } ∷ [])

module _ (f : HandView → ℕ) where
  pub total_set : (vs : List HandView) (k : ℕ) (u v : HandView) → get_elem? vs k ≡ some u → total f (slice_set vs k v) + f u ≡ total f vs + f v
  total_set [] k u v e = absurd (some-ne-none u (sym e))
  total_set (x ∷ xs) zero u v e = let same : f x ≡ f u = ap f (some-injective x u e) in omega arith
  total_set (x ∷ xs) (suc k) u v e = let rest = total_set xs k u v e in omega arith

  pub total_snoc : (vs : List HandView) (v : HandView) → total f (vs ++ v ∷ []) ≡ total f vs + f v
  total_snoc [] v = omega arith
  total_snoc (x ∷ xs) v = let rest = total_snoc xs v in omega arith

  -- a view has no more than all have
  pub total_has : (vs : List HandView) (k : ℕ) (u : HandView) → get_elem? vs k ≡ some u → f u ≤ total f vs
  total_has [] k u e = absurd (some-ne-none u (sym e))
  total_has (x ∷ xs) zero u e = let same : f x ≡ f u = ap f (some-injective x u e) in omega arith
  total_has (x ∷ xs) (suc k) u e = let rest = total_has xs k u e in omega arith

  -- two views have no more than all have
  pub total_two : (vs : List HandView) (k l : ℕ) (u v : HandView) → k ≢ l → get_elem? vs k ≡ some u → get_elem? vs l ≡ some v → f u + f v ≤ total f vs
  total_two [] k l u v ne e g = absurd (some-ne-none u (sym e))
  total_two (x ∷ xs) zero zero u v ne e g = absurd (ne refl)
  total_two (x ∷ xs) zero (suc l) u v ne e g = let same : f x ≡ f u = ap f (some-injective x u e) in let rest = total_has xs l v g in omega arith
  total_two (x ∷ xs) (suc k) zero u v ne e g = let same : f x ≡ f v = ap f (some-injective x v g) in let rest = total_has xs k u e in omega arith
  total_two (x ∷ xs) (suc k) (suc l) u v ne e g = let rest = total_two xs k l u v (λ s. ne (ap suc s)) e g in omega arith

missed_within : (v : HandView) → missed_share v ≤ v.share
missed_within v = by v.missed
  where
    by : (b : Bool) → (if b then v.share else 0) ≤ v.share
    by true = omega arith
    by false = omega arith

pub missed_all : (vs : List HandView) → total missed_share vs ≤ total (λ v. v.share) vs
missed_all [] = omega arith
missed_all (x ∷ xs) = let a = missed_within x in let b = missed_all xs in omega arith

pub missed_none : (v : HandView) → v.missed ≡ false → missed_share v ≡ 0
missed_none v e = ap (λ (b : Bool). if b then v.share else 0) e

pub missed_whole : (v : HandView) → v.missed ≡ true → missed_share v ≡ v.share
missed_whole v e = ap (λ (b : Bool). if b then v.share else 0) e
