-- Hands: what contracts see of one, and how each step changes its view.
use Rattle.std.specs.Prelude.{◌≡◌, ℕ, ◌+◌, ◌-◌, ◌<◌, List, [], ◌∷◌, ◌++◌, length, map, All, true, false}
use Rattle.std.specs.List.{range_with_len}
use Rattle.atomic_table.specs.Seated.{TableId}
use Rattle.job_shift.specs.Times.{jobs}
use Rattle.job_shift.specs.declared.view.HandView.{HandView}

-- A hand as contracts see it: which table it is of, and its view.
pub record HandState : Type 0 where
  pub table : TableId
  pub view : HandView

-- A shift as contracts see it: which table it has, how many jobs and how many workers.
pub record ShiftState : Type 0 where
  pub table : TableId
  pub count : ℕ
  pub workers : ℕ

-- the hand is of this shift
pub record IsHandOf (hand : HandState) (shift : ShiftState) : Type 0 where
  pub table : hand.table ≡ shift.table
  pub count : hand.view.count ≡ shift.count
  pub workers : hand.view.workers ≡ shift.workers

-- the numbers that the hand got, in order
abbrev pub handed : HandState → List ℕ
handed hand = jobs hand.view

-- nothing was handed to the hand, and it has not missed
abbrev pub IsFresh : HandState → Type 0
IsFresh hand = (handed hand ≡ []) × (hand.view.missed ≡ false)

abbrev pub HasMissed : HandState → Type 0
HasMissed hand = hand.view.missed ≡ true

-- all of the shift's hands
pub record AreAllHands (hands : List HandState) (shift : ShiftState) : Type 0 where
  pub count : length hands ≡ shift.workers
  pub each : All (λ hand. IsHandOf hand shift) hands

-- the numbers of the hands, in order
abbrev pub hand_numbers : List HandState → List ℕ
hand_numbers hands = map (λ hand. hand.view.number) hands

-- the first view: it stands for all workers
abbrev pub first_view : ℕ → ℕ → HandView
first_view count workers = record { number = 0; share = workers; missed = false; pairs = []; count = count; workers = workers; found = 0 }

-- a hand of one worker that has made no step, and all hands of a shift that is started
abbrev pub fresh_hand : ShiftState → ℕ → HandState
fresh_hand shift number = record { table = shift.table; view = record { number = number; share = 1; missed = false; pairs = []; count = shift.count; workers = shift.workers; found = 0 } }

abbrev pub fresh_hands : ShiftState → List HandState
fresh_hands shift = map (fresh_hand shift) (range_with_len 0 shift.workers)

-- the view after number n was handed to its hand, and after its hand missed, having found n
abbrev pub with_job : HandView → ℕ → HandView
with_job v n = record v { pairs = v.pairs ++ record { job = n; hand = v.number } ∷ []; found = n }

abbrev pub missing : HandView → ℕ → HandView
missing v n = record v { missed = true; found = n }

-- the two views of a hand that is split: the second stands for one worker
abbrev pub split_left : HandView → HandView
split_left v = record v { share = v.share - 1 }

abbrev pub split_right : HandView → HandView
split_right v = record v { share = 1; number = v.share - 1 }

-- the view of two hands that are joined, and what is left over
abbrev pub joined_hands : HandView → HandView → HandView
joined_hands u v = record u { share = u.share + v.share; pairs = u.pairs ++ v.pairs }

abbrev pub left_over : HandView
left_over = first_view 0 0
