use Rattle.std.proofs.Common.{rules, ◌≡◌, ◌+◌, ◌≤◌, length, [], ◌∷◌, ◌++◌, ap, ◌∙◌, arith}
use Rattle.std.proofs.lemmas.List.{length-append}
use Rattle.merge_board.proofs.receipt.one_for_all.Goals as goal

pub returns-clause-share : goal.returns-clause-share
returns-clause-share c =
    let none : c.loop-other.seats ≡ [] = search rules in
    let count : length c.loop-other.seats ≡ 0 = ap length none in
    let taken : c.args.seats ≡ c.take.new.self ++ c.in-Some.seat ∷ [] = search rules in
    let all : length c.args.seats ≡ length c.take.new.self + 1 = ap length taken ∙ length-append c.take.new.self (c.in-Some.seat ∷ []) in
    let kept : length c.take.new.self + 1 ≤ c.loop-other.seat.view.share + length c.loop-other.seats = c.loop-other.invariant.1.1.1.1 in omega arith
