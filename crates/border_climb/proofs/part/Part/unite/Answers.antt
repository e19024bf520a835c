use Rattle.std.proofs.Common.{◌≡◌, ◌≤◌, ◌+◌, ◌*◌, ◌^◌, ap, sym, subst, ◌∙◌, arith}
use Rattle.std.specs.Prelude.{vec_capacity}
use Rattle.node_region.specs.Pool.{CellPool, IsPool, IsNextTo, appended}
use Rattle.border_climb.specs.Notes.{IsSound}
use Rattle.border_climb.specs.Stands.{PartState}
use Rattle.border_climb.proofs.Uniting.{united-small, sound-united, stands-united}
use Rattle.border_climb.proofs.part.Part.unite.Goals as goal

pub overflow_add-given : goal.overflow_add-given
overflow_add-given c =
    let w = c.requires.lists in
    let few : c.args.self.given + c.args.other.given ≤ 2 ^ 32 = united-small c.args.self c.args.other w.0 w.1.0 w.1.1 in
    let a : c.self.inside.given ≡ c.args.self.given = ap (λ (p : PartState). p.given) c.self.view_is in
    let b : c.other.inside.given ≡ c.args.other.given = ap (λ (p : PartState). p.given) c.other.view_is in
    record { fits = omega arith }

pub invariant_of-result : goal.invariant_of-result
invariant_of-result c =
    let next : IsNextTo c.self.inside.region c.other.inside.region = subst (λ (p : PartState). IsNextTo p.region c.other.inside.region) (sym c.self.view_is)
    (subst (λ (p : PartState). IsNextTo c.args.self.region p.region) (sym c.other.view_is) c.requires.next) in
    let room : c.append.result.room.chunks ≡ c.self.inside.region.room.chunks = ap (λ (p : CellPool). p.room.chunks) c.append.ensures in
    let had : 2 * c.self.inside.region.room.chunks ≤ vec_capacity c.self.inside.lots + 1 = c.self.invariant.reserved in
    let more : vec_capacity c.self.inside.lots ≤ vec_capacity c.put_behind-lots.result = c.put_behind-lots.ensures.capacity in
    record {
      sound = subst IsSound (sym c.append.ensures) (sound-united c.self.inside.region c.other.inside.region c.keeps_its_rules.ensures.pool c.keeps_its_rules-2.ensures.pool next c.self.invariant.sound c.other.invariant.sound);
      reserved = omega arith;
    }

pub returns-clause-stands : goal.returns-clause-stands
returns-clause-stands c = λ s r m.
    stands-united c.args.self c.args.other (record { region = c.append.result; lots = c.put_behind-lots.result.items; given = c.self.inside.given + c.other.inside.given }) s r
    (subst (λ (p : PartState). IsPool p.region) c.self.view_is c.keeps_its_rules.ensures.pool)
    (subst (λ (p : PartState). IsPool p.region) c.other.view_is c.keeps_its_rules-2.ensures.pool)
    c.requires.next m
    (c.append.ensures ∙ ap (λ (p : PartState). appended p.region c.other.inside.region) c.self.view_is ∙ ap (λ (p : PartState). appended c.args.self.region p.region) c.other.view_is)
    (ap (λ (p : PartState). p.given + c.other.inside.given) c.self.view_is ∙ ap (λ (p : PartState). c.args.self.given + p.given) c.other.view_is)
