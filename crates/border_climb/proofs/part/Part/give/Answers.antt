use Rattle.std.proofs.Common.{ap, subst, sym, refl, ◌+◌, ◌≤◌, ◌^◌, arith}
use Rattle.border_climb.specs.Stands.{PartState}
use Rattle.border_climb.specs.Splicing.{KeepsRange, IsLinkedList}
use Rattle.border_climb.specs.Parts.{as_listed}
use Rattle.border_climb.proofs.Parts.{list-Stands, given-small, stands-spliced, answer-told}
use Rattle.border_climb.proofs.part.Part.give.Goals as goal

pub splice-answer-requires-clause-list : goal.splice-answer-requires-clause-list
splice-answer-requires-clause-list c =
    let w = c.requires.stands in
    (w.0, subst (λ (p : PartState). IsLinkedList p.region w.0 c.args.e.rank) (sym c.self.view_is) (list-Stands c.args.self.now w.0 c.args.e.rank w.1.0 w.1.1))

pub overflow_add-self : goal.overflow_add-self
overflow_add-self c =
    let w = c.requires.stands in
    let low : c.args.self.now.given ≤ 2 ^ 32 = given-small c.args.self.now w.0 w.1.0 in
    let low' : c.self.inside.given ≤ 2 ^ 32 = subst (λ (p : PartState). p.given ≤ 2 ^ 32) (sym c.self.view_is) low in
    record { fits = omega arith }

pub returns-clause-stands : goal.returns-clause-stands
returns-clause-stands c = λ f s is st fresh.
    stands-spliced c.args.self.now (record { region = c.splice-answer.new.region; lots = c.self.inside.lots.items; given = c.self.inside.given + 1 }) c.args.e c.splice-answer.result
    c.requires.a c.requires.b c.requires.two c.splice-answer.ensures.small
    (subst (λ (p : PartState). KeepsRange p.region c.splice-answer.new.region) c.self.view_is c.splice-answer.ensures.range)
    (ap (λ (p : PartState). p.given + 1) c.self.view_is)
    f s is st fresh
    (c.splice-answer.ensures.spliced f s is (subst (λ (p : PartState). IsLinkedList p.region s c.args.e.rank) (sym c.self.view_is) (list-Stands c.args.self.now s c.args.e.rank st fresh)))

pub returns-clause-answer : goal.returns-clause-answer
returns-clause-answer c = λ s st fresh.
    answer-told s c.args.e c.splice-answer.result
    (c.splice-answer.ensures.spliced (as_listed c.args.e) s refl (subst (λ (p : PartState). IsLinkedList p.region s c.args.e.rank) (sym c.self.view_is) (list-Stands c.args.self.now s c.args.e.rank st fresh))).told
