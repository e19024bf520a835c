use Rattle.std.proofs.Common.{◌+◌, ◌≤◌, length, take, arith}
use Rattle.std.proofs.lemmas.List.{length-drop}
use Rattle.input_tokens.proofs.QuietRuns.{take-rest, lexes-none, lexes-both}
use Rattle.input_tokens.proofs.lexer.Lexer.three_numbers.Goals as goal

pub returns-clause-tokens : goal.returns-clause-tokens
returns-clause-tokens c =
    let piece = c.args.piece.now in
    let spaces = c.count_spaces-spaces.result in
    let one = spaces + c.in_ok-u.first in
    let two = one + c.in_ok-v.second in
    let u = rw (take-rest spaces piece) at c.in_ok-u.ensures.tokens in
    let v = rw (take-rest one piece) at c.in_ok-v.ensures.tokens in
    let w = rw (take-rest two piece) at c.in_ok-w.ensures.tokens in
    let first = rw (take-rest spaces piece) at c.in_ok-u.ensures.count.1 in
    let second = rw (take-rest one piece) at c.in_ok-v.ensures.count.1 in
    let third = rw (take-rest two piece) at c.in_ok-w.ensures.count.1 in
    let gap = c.count_spaces-spaces.ensures.count in
    let upto_one : one ≤ length piece = omega (arith, gap, first, length-drop spaces piece) in
    let upto_two : two ≤ length piece = omega (arith, upto_one, second, length-drop one piece) in
    let none = lexes-none c.args.place (take spaces piece) c.count_spaces-spaces.ensures.tokens in
    let with_u = lexes-both c.args.place spaces c.in_ok-u.first piece _ _ gap first none u.1 in
    let with_v = lexes-both c.args.place one c.in_ok-v.second piece _ _ upto_one second with_u v.1 in
    (u.0, v.0, w.0, lexes-both c.args.place two c.in_ok-w.third piece _ _ upto_two third with_v w.1)
