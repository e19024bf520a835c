use Rattle.std.proofs.Common.{[]}
use Rattle.border_climb.proofs.Lots.{stands-noted}
use Rattle.border_climb.proofs.building.build_tile.Goals as goal

pub returns-clause-stands : goal.returns-clause-stands
returns-clause-stands c = λ s eq.
    stands-noted _ _ s _ c.note.ensures (c.give_all.ensures.stands [] s
    (record { stands = c.requires.no_edges; a = c.requires.lot.a; b = c.requires.lot.b; two = c.requires.lot.two; apart = c.requires.lot.apart }) eq)
