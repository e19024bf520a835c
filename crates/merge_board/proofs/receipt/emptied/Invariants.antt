use Rattle.std.proofs.Common.{◌≡◌, ◌≢◌, ℕ, ◌-◌, ◌<◌, ◌≤◌, false, true, get_or}
use Rattle.merge_board.proofs.receipt.emptied.Given as goal

abbrev pub invariant-loop-slot : goal.invariant-loop-slot
invariant-loop-slot l = ((k : ℕ) → l.slot ≤ k → k < l.closed.slots.len → k ≢ l.kept → get_or (l.closed.slots.filled) k false ≡ true) × (((k : ℕ) → k < l.slot → get_or (l.closed.slots.filled) k false ≡ false)
    × (get_or (l.closed.slots.filled) l.kept false ≡ false))

abbrev pub decreases-loop-slot : goal.decreases-loop-slot
decreases-loop-slot l = l.closed.slots.len - l.slot
