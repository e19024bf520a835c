-- What the bytes that were gathered, and one piece more, come to.
use Rattle.std.proofs.Common.{◌≡◌, ℕ, ◌-◌, ◌≤◌, List, ◌++◌, length, take, Option, arith, length-append}
use Rattle.std.proofs.lemmas.List.{length-take-le}
use Rattle.std.proofs.KnownBytes.{Consumes-trans}
use Rattle.std.specs.Io.KnownBytes.{Consumes}
use Rattle.higra_input.specs.Reading.{GaveAtMost, GaveTooMuch}

-- the piece has no more bytes than are asked for
pub gave_at_most : (old middle new : Option (List ℕ)) (bytes buffer : List ℕ) (fed count : ℕ) → Consumes old middle bytes → Consumes middle new (take count buffer) → count ≤ length buffer → fed ≡ length bytes → fed ≤ 134217728 → count ≤ 134217729 - fed
    → GaveAtMost 134217729 old new
gave_at_most old middle new bytes buffer fed count so_far here within are short asked =
    (bytes ++ take count buffer, (Consumes-trans old middle new bytes (take count buffer) so_far here, omega (arith, length-append bytes (take count buffer), length-take-le count buffer within, are, short, asked)))

-- it has all that are asked for
pub gave_too_much : (old middle new : Option (List ℕ)) (bytes buffer : List ℕ) (fed count : ℕ) → Consumes old middle bytes → Consumes middle new (take count buffer) → count ≤ length buffer → fed ≡ length bytes → fed ≤ 134217728 → count ≡ 134217729 - fed
    → (all : List ℕ) × GaveTooMuch old new all
gave_too_much old middle new bytes buffer fed count so_far here within are short asked = (
  bytes ++ take count buffer,
  record { gave = Consumes-trans old middle new bytes (take count buffer) so_far here; long = omega (arith, length-append bytes (take count buffer), length-take-le count buffer within, are, short, asked) },
)
