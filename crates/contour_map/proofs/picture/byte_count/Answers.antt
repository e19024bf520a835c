use Rattle.std.proofs.Common.{◌<◌, ◌≤◌, subst, sym, ℕ}
use Rattle.contour_map.proofs.Samples.{bytes-one, bytes-two}
use Rattle.contour_map.proofs.picture.byte_count.Goals as goal

pub returns-then-greatest_sample-lt-TWO_BYTES_FROM-clause-count : goal.returns-then-greatest_sample-lt-TWO_BYTES_FROM-clause-count
returns-then-greatest_sample-lt-TWO_BYTES_FROM-clause-count c =
    sym (bytes-one c.args.high c.args.points.now (subst (λ (g : ℕ). g < 256) c.greatest_sample.ensures.value c.if-greatest_sample-lt-TWO_BYTES_FROM.true))

pub returns-else-greatest_sample-lt-TWO_BYTES_FROM-clause-count : goal.returns-else-greatest_sample-lt-TWO_BYTES_FROM-clause-count
returns-else-greatest_sample-lt-TWO_BYTES_FROM-clause-count c =
    sym (bytes-two c.args.high c.args.points.now (subst (λ (g : ℕ). 256 ≤ g) c.greatest_sample.ensures.value c.if-greatest_sample-lt-TWO_BYTES_FROM.false))
