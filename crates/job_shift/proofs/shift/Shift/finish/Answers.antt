use Rattle.std.proofs.Common.{rules, ◌≡◌, ◌<◌, ℕ, List, ap, sym, subst, ◌∙◌, length, arith}
use Rattle.std.specs.Prelude.{slice_index}
use Rattle.job_shift.specs.Hands.{HandState}
use Rattle.job_shift.specs.HandedNumbers.{IsHandedTo}
use Rattle.job_shift.specs.Finishing.{entered, handed_among}
use Rattle.job_shift.proofs.Answering.{length-entered, entered_to}
use Rattle.job_shift.proofs.shift.Shift.finish.Goals as goal

pub returns-clause-count : goal.returns-clause-count
returns-clause-count c =
    let count : c.args.self.count ≡ c.self.inside.table.shared.key.count = search rules in
    ap (λ (l : List ℕ). length l) c.answered-answer.ensures ∙ length-entered c.deref.result.now c.self.inside.answer.items ∙ c.self.invariant.answer ∙ sym count

pub returns-clause-each : goal.returns-clause-each
returns-clause-each c = λ i h.
    let count : c.args.self.count ≡ c.self.inside.table.shared.key.count = search rules in
    let answer : c.answered-answer.result.items ≡ entered c.args.hands.items c.self.inside.answer.items = c.answered-answer.ensures ∙ ap (λ (l : List HandState). entered l c.self.inside.answer.items) c.deref.ensures.value in
    let low : i < length c.self.inside.answer.items = (let l = c.self.invariant.answer in omega arith) in
    let got = c.one_for_all-token.ensures.got i in
    let once = c.end.ensures i (let k = count in omega arith) in
    let all : handed_among c.args.hands.items i ≡ 1 = omega arith in
    subst (λ (l : List ℕ). IsHandedTo c.args.hands.items i (slice_index l i)) (sym answer) (entered_to c.args.hands.items c.self.inside.answer.items i low all)
