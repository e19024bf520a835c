use Rattle.std.proofs.Common.{rules, ◌≡◌, ◌<◌, ◌∙◌, sym, length, arith}
use Rattle.std.proofs.lemmas.Iterator.Adapters.{YieldsList-from_vec}
use Rattle.std.proofs.lemmas.Iterator.Consumers.{YieldsList-turn}
use Rattle.std.proofs.lemmas.List.{length_push}
use Rattle.std.proofs.lemmas.Result.{IfOk-at_ok}
use Rattle.report_lines.specs.Lines.{lines_of_piece}
use Rattle.report_lines.proofs.PieceForms.{piece_more}
use Rattle.report_lines.proofs.pieces.Pieces.push_lines.Goals as goal

pub loop-piece-preserved : goal.loop-piece-preserved
loop-piece-preserved g c =
    let made = c.in_ok-piece-items.piece-items in
    let line = g.L.Lines.line c.args.lines.now in
    let k = length c.loop-piece.yielded in
    let turn = YieldsList-turn (YieldsList-from_vec {s = c.into_iter-piece-iterator.result} made.items (search rules) (search rules))
    c.loop-piece.yielded c.loop-piece.piece-iterator c.loop-piece.yielded_by c.next.result c.next.new.self c.in-Some.piece c.in-Some.is c.next.ensures.steps in
    let few : k < 16 = omega (arith, turn.0, c.in_ok-piece-items.ensures.len) in
    let here = sym turn.1 ∙ c.in_ok-piece.was in
    let lines = IfOk-at_ok (λ text. text.items ≡ lines_of_piece line (g.L.Lines.count c.args.lines.now) k) here (c.in_ok-piece-items.ensures.each k c.in-Some.piece few) in
    let own : c.in_ok-piece.field-0.items ≡ lines_of_piece line c.len-count.result k = rw c.len-count.ensures lines in
    piece_more line c.args.self.now c.loop-piece.self c.in_ok-piece.field-0.items c.push-in-loop-piece.new.self c.len-count.result k _ (length_push c.loop-piece.yielded c.in-Some.piece) c.loop-piece.invariant own c.in_ok-push.ensures
