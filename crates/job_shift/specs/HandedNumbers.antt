-- What the calls of a shift answer.
use Rattle.std.specs.Prelude.{◌≡◌, ◌≢◌, ℕ, ◌<◌, List}
use mathlib.Core.Option.{some}
use lib.ListN.{get_elem?}
use Rattle.job_shift.specs.Times.{times, times_out}
use Rattle.job_shift.specs.Steps.{Moment}
use Rattle.job_shift.specs.Shift.{ShiftTable, IsShift, Shows, steps}
use Rattle.job_shift.specs.Hands.{HandState, ShiftState, handed, with_job, missing}
use Rattle.job_shift.specs.declared.view.HandView.{HandView}

-- each view of the table is that of one of these hands
abbrev pub AreShown : ShiftTable → List HandState → Type 0
AreShown s hands = (k : ℕ) (v : HandView) → Shows s k v → (place : ℕ) × ((hand : HandState) × ((get_elem? hands place ≡ some hand) × (hand.view ≡ v)))

-- While these are all hands of the shift, no number was handed out: no step was made.
abbrev pub IsUnstarted : List HandState → ShiftState → Type 0
IsUnstarted hands shift = (s : ShiftTable) → IsShift shift.count shift.workers s → AreShown s hands → steps s ≡ 0

-- The hand got number n: at its step just the lesser numbers had been handed out, each once.
pub record Gets (old new : HandView) (n : ℕ) : Type 0 where
  pub view : new ≡ with_job old n
  pub below : n < old.count
  pub moment : Moment old n
  pub lesser : (j : ℕ) → j < n → times_out moment.state.views j ≡ 1
  pub fresh : times_out moment.state.views n ≡ 0

-- The hand missed: at its step all numbers had been handed out, each once.
pub record Misses (old new : HandView) : Type 0 where
  pub view : new ≡ missing old new.found
  pub moment : Moment old new.found
  pub all : (j : ℕ) → j < old.count → times_out moment.state.views j ≡ 1

-- Number i stands once in the list of one of the hands, whose number is n, and in the list of no other.
pub record IsHandedTo (hands : List HandState) (i n : ℕ) : Type 0 where
  pub place : ℕ
  pub hand : HandState
  pub stands : get_elem? hands place ≡ some hand
  pub number : hand.view.number ≡ n
  pub once : times i (handed hand) ≡ 1
  pub others : (k : ℕ) (other : HandState) → get_elem? hands k ≡ some other → k ≢ place → times i (handed other) ≡ 0
