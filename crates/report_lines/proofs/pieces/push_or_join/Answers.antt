use Rattle.std.proofs.Common.{rules, ◌≡◌, ◌+◌, ◌-◌, ◌++◌, OnOk, get_or, length}
use Rattle.std.specs.Vec.{vec_len}
use Rattle.std.proofs.lemmas.Result.{on_ok_weaker}
use Rattle.report_lines.proofs.PieceForms.{last_grown}
use Rattle.report_lines.proofs.pieces.push_or_join.Goals as goal

pub returns-in-Some : goal.returns-in-Some
returns-in-Some c =
    let last = c.in-Some.last.now in
    let grown = c.extend_from_slice.new.self in
    let place = vec_len c.args.pieces.now - 1 in
    let end : place + 1 ≡ length c.args.pieces.now.items = search rules in
    let here : last ≡ get_or c.args.pieces.now.items place last = search rules in
    let joined : OnOk c.extend_from_slice.result (grown.items ≡ last.items ++ c.args.piece.items) = search rules in
    on_ok_weaker c.extend_from_slice.result (λ e. last_grown (λ piece. piece.items) c.args.pieces.now.items place last grown c.args.piece.items end here e) joined
