use Rattle.std.proofs.Common.{◌≡◌, ℕ, ◌<◌, length, get_or, take, false}
use Rattle.energy_cut.specs.LeastEnergies.{is_key}
use Rattle.energy_cut.proofs.choosing.mark.Given as goal

-- the keys so far are marked
abbrev pub invariant-loop-key : goal.invariant-loop-key
invariant-loop-key l = (i : ℕ) → i < length l.marks → get_or l.marks i false ≡ is_key (take l.key-index l.keys) i
