use Rattle.std.proofs.Common.{◌≡◌, ℕ, ◌+◌, ◌≤◌, true, length, All, vec_len}
use Rattle.job_shift.specs.Times.{times, jobs}
use Rattle.job_shift.specs.Hands.{HasMissed}
use Rattle.job_shift.specs.Finishing.{IsHandAt, handed_among}
use Rattle.job_shift.proofs.finishing.one_for_all.Given as goal

abbrev pub invariant-loop-other : goal.invariant-loop-other
invariant-loop-other l = record {
  table : l.token.table_id ≡ l.table.shared.table_id;
  missed : l.token.me.0.missed ≡ true;
  some : 1 ≤ l.token.me.0.share;
  share : length l.fn.hands.items ≤ l.token.me.0.share + length l.hands.items;
  each : All (λ hand. IsHandAt hand l.table.shared.table_id) l.hands.items;
  all_missed : All HasMissed l.hands.items;
  got : (j : ℕ) → times j (jobs l.token.me.0) + handed_among l.hands.items j ≡ handed_among l.fn.hands.items j;
}

abbrev pub decreases-loop-other : goal.decreases-loop-other
decreases-loop-other l = vec_len l.hands
