use Rattle.std.proofs.Common.{◌≡◌, ◌+◌, ◌-◌, ◌++◌, refl, length, take, drop}
use Rattle.std.proofs.lemmas.Result.{IfOk-at_ok, IfOk-weaker}
use Rattle.hg_batch.specs.Cutting.{values}
use Rattle.hg_batch.specs.Pieces.{readings}
use Rattle.hg_batch.proofs.SideLemmas.{read_sides}
use Rattle.hg_batch.proofs.cutting.+reading.Goals as goal

pub returns : goal.returns
returns g t c =
    let bytes = c.args.bytes.now in
    let cut = c.in-Some.cut in
    let before = take cut bytes in
    let behind = take (length bytes - (cut + 1)) (drop (cut + 1) bytes) in
    let front = c.in_ok-front.field-0 in
    let back = c.in_ok-back.field-0 in
    let one = IfOk-at_ok (λ read. values read.items ≡ readings before) c.in_ok-front.was c.join-front.ensures.first in
    let other = IfOk-at_ok (λ read. values read.items ≡ readings behind) c.in_ok-back.was c.join-front.ensures.second in
    IfOk-weaker c.both.result (λ all. all.items ≡ front.items ++ back.items) (λ all. values all.items ≡ readings bytes)
    (λ all both. read_sides front.items back.items all.items bytes before behind cut c.in-Some.ensures.within c.in-Some.ensures.cut refl refl one other both)
    c.both.ensures
