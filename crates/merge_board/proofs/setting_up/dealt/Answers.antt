use Rattle.std.proofs.Common.{◌≡◌, ◌+◌, ◌∙◌, [], ◌∷◌, length, ap, arith, List}
use Rattle.std.proofs.lemmas.List.{length-append}
use Rattle.merge_board.specs.Seats.{SeatState}
use Rattle.merge_board.proofs.Setting.{first_left, next_dealt}
use Rattle.merge_board.proofs.setting_up.dealt.Goals as goal

pub loop-share-preserved : goal.loop-share-preserved
loop-share-preserved c = record {
  some = omega arith;
  count = (let l : length c.put_back.new.self ≡ length c.loop-share.seats + 1 = ap (λ (s : List SeatState). length s) c.put_back.ensures ∙ length-append c.loop-share.seats (c.split_off.result ∷ []) in let k = c.loop-share.invariant.count in omega arith);
  first = first_left c.args.board.now c.loop-share.share c.loop-share.first c.split_off.new.seat c.loop-share.invariant.first c.split_off.ensures.old;
  seats = next_dealt c.args.board.now c.loop-share.share c.loop-share.seats c.put_back.new.self c.loop-share.first c.split_off.result c.loop-share.invariant.some c.loop-share.invariant.first c.split_off.ensures.new c.put_back.ensures c.loop-share.invariant.seats;
}
