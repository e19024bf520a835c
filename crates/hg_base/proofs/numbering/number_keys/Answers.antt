use Rattle.std.proofs.Common.{◌≡◌, length, arith}
use Rattle.hg_base.proofs.KeyLabels.{written_back, labels_more}
use Rattle.hg_base.proofs.numbering.number_keys.Goals as goal

pub loop-x-preserved : goal.loop-x-preserved
loop-x-preserved c =
    let len : length c.label_at.new.numbers ≡ c.loop-x.numbers.len = omega (arith, c.label_at.ensures.same_len, c.deref_mut.ensures.len, c.loop-x.numbers.ok) in
    let back = written_back c.label_at.new.numbers c.loop-x.numbers.items c.loop-x.numbers.len len in record {
      one_each = rw back (omega (arith, len, c.loop-x.numbers.ok, c.loop-x.invariant.one_each));
      noted = rw back c.label_at.ensures.numbers;
      labels = labels_more c.args.keys.now c.loop-x.x _ _ _ c.loop-x.invariant.labels c.label_at.ensures.label c.in_ok-push.ensures.items;
    }
