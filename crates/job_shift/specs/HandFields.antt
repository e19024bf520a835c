-- What the fields of a hand hold.
use Rattle.std.specs.Prelude.{◌≡◌, ◌≤◌, ◌<◌, [], All, vec_capacity}
use Rattle.job_shift.specs.Times.{jobs}
use Rattle.job_shift.specs.Hands.{HandState}
use Rattle.job_shift.specs.declared.view.Pair.{Pair}
use Rattle.job_shift.specs.declared.hand.Hand.TheInside as hand

abbrev pub hand_of : hand.Inside → HandState
hand_of h = record { table = h.token.table_id; view = h.token.me.0 }

-- the fields say what the view says, each pair has the hand's own number, and there is room for each number of the shift
pub record IsHand (h : hand.Inside) : Type 0 where
  pub number : h.number ≡ h.token.me.0.number
  pub missed : h.missed ≡ h.token.me.0.missed
  pub handed : h.handed.items ≡ jobs h.token.me.0
  pub own : All (λ (p : Pair). p.hand ≡ h.token.me.0.number) h.token.me.0.pairs
  pub below : All (λ n. n < h.token.me.0.count) (jobs h.token.me.0)
  pub room : h.token.me.0.count ≤ vec_capacity h.handed
  pub share : 1 ≤ h.token.me.0.share
  pub slots : h.token.me.1 ≡ []
