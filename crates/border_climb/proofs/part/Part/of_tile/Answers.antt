use Rattle.std.proofs.Common.{◌≡◌, sym, ap, subst, arith}
use Rattle.node_region.specs.Pool.{CellPool}
use Rattle.border_climb.specs.Notes.{IsSound}
use Rattle.border_climb.proofs.Parts.{sound-fresh}
use Rattle.border_climb.proofs.part.Part.of_tile.Goals as goal

pub invariant_of-result : goal.invariant_of-result
invariant_of-result c =
    let room : c.in_ok-region.region.room ≡ c.args.room = ap (λ (p : CellPool). p.room) c.in_ok-region.ensures in record {
      sound = subst IsSound (sym c.in_ok-region.ensures) (sound-fresh c.args.first c.args.count c.args.room);
      reserved = rw (c.in_ok-lots.ensures.reserved, room) (omega (arith, c.requires.some_chunk));
    }
