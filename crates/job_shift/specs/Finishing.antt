-- What the end of a shift makes of its hands.
use Rattle.std.specs.Prelude.{◌≡◌, ℕ, ◌+◌, List, [], ◌∷◌, slice_set}
use Rattle.atomic_table.specs.Seated.{TableId}
use Rattle.job_shift.specs.Times.{times}
use Rattle.job_shift.specs.Hands.{HandState, handed}

-- the hand is of the table
abbrev pub IsHandAt : HandState → TableId → Type 0
IsHandAt hand table = hand.table ≡ table

-- how often a number was handed to all of these hands
abbrev pub handed_among : List HandState → ℕ → ℕ
handed_among [] j = 0
handed_among (hand ∷ hands) j = times j (handed hand) + handed_among hands j

-- the list with n at each of these places
abbrev pub with_each : ℕ → List ℕ → List ℕ → List ℕ
with_each n [] xs = xs
with_each n (place ∷ places) xs = with_each n places (slice_set xs place n)

-- the list with the number of each hand at the numbers that it got
abbrev pub entered : List HandState → List ℕ → List ℕ
entered [] xs = xs
entered (hand ∷ hands) xs = entered hands (with_each hand.view.number (handed hand) xs)
