use Rattle.std.proofs.Common.{sym, subst, ℕ}
use Rattle.std.specs.Prelude.{Option}
use Rattle.border_climb.specs.Stands.{IsMet}
use Rattle.border_climb.specs.Climbs.{IsClimbBegun}
use Rattle.border_climb.specs.declared.climbing.Seen.{Seen}
use Rattle.border_climb.proofs.Pools.{sound-climbable, sound-noted, sound-fingered, links-noted, met-same}
use Rattle.border_climb.proofs.Ways.{top-climbed}
use Rattle.border_climb.proofs.climbing.last_below.Goals as goal

pub climb-last-requires-clause-climbable : goal.climb-last-requires-clause-climbable
climb-last-requires-clause-climbable c = sound-climbable _ c.requires.sound _

pub climb-last-requires-clause-seen : goal.climb-last-requires-clause-seen
climb-last-requires-clause-seen c =
    let begun = subst (λ (o : Option Seen). IsClimbBegun c.args.region.now c.args.place c.args.r o) c.in_ok-start.was c.requires.begun in begun.1

pub climb-last-requires-clause-low : goal.climb-last-requires-clause-low
climb-last-requires-clause-low c =
    let begun = subst (λ (o : Option Seen). IsClimbBegun c.args.region.now c.args.place c.args.r o) c.in_ok-start.was c.requires.begun in begun.0.low

pub returns-clause-top : goal.returns-clause-top
returns-clause-top c =
    let begun = subst (λ (o : Option Seen). IsClimbBegun c.args.region.now c.args.place c.args.r o) c.in_ok-start.was c.requires.begun in
    top-climbed _ _ _ _ _ begun.0 c.climb-last.ensures.climbed

pub returns-clause-sound : goal.returns-clause-sound
returns-clause-sound c =
    let begun = subst (λ (o : Option Seen). IsClimbBegun c.args.region.now c.args.place c.args.r o) c.in_ok-start.was c.requires.begun in
    let noted = c.climb-last.ensures.noted in
    let same = links-noted c.args.region.now c.climb-last.new.region c.in_ok-start.start.met.rank noted in
    let top = top-climbed _ _ _ _ _ begun.0 c.climb-last.ensures.climbed in
    let last = c.climb-last.result in
    sound-fingered c.climb-last.new.region c.set_finger.new.self c.args.place (record { cell = last.met.id; turn = last.entry.turn; rank = last.met.rank })
    (sound-noted _ _ _ c.requires.sound noted) (same.still_covered c.args.place c.requires.covered).0 c.set_finger.ensures top.links
    (subst (λ (o : Option ℕ). IsMet c.climb-last.new.region top.links o last.met.id) (sym (same.leafs c.args.place)) (met-same _ _ same _ _ _ top.met))
    (sym c.climb-last.ensures.seen.turn)
