-- How often something stands in a list, and sums over views.
use Rattle.std.specs.Prelude.{◌==◌, ℕ, ◌+◌, List, [], ◌∷◌, length, map, if◌then◌else◌}
use Rattle.job_shift.specs.declared.view.HandView.{HandView}
use Rattle.job_shift.specs.declared.view.Pair.{Pair}

-- how often x stands in a list
abbrev pub times : ℕ → List ℕ → ℕ
times x [] = 0
times x (y ∷ ys) = (if y == x then 1 else 0) + times x ys

-- the sum of a number of each view
abbrev pub total : (HandView → ℕ) → List HandView → ℕ
total f [] = 0
total f (v ∷ vs) = f v + total f vs

-- the jobs of the pairs that a view has, in order: the numbers that its hand got
abbrev pub jobs : HandView → List ℕ
jobs v = map (λ (p : Pair). p.job) v.pairs

-- how many pairs of all views have job j: how often its number was handed out
abbrev pub times_out : List HandView → ℕ → ℕ
times_out views j = total (λ v. times j (jobs v)) views

-- the number of pairs that a view has
abbrev pub pair_count : HandView → ℕ
pair_count v = length v.pairs

-- the share of a view that missed
abbrev pub missed_share : HandView → ℕ
missed_share v = if v.missed then v.share else 0
