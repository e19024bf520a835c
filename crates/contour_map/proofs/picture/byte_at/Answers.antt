use Rattle.std.proofs.Common.{◌<◌, ◌≤◌, ◌*◌, ◌∙◌, ℕ, length, subst, sym, arith}
use Rattle.contour_map.proofs.Samples.{bytes-one, bytes-two, byte-one, byte-two}
use Rattle.contour_map.proofs.picture.byte_at.Goals as goal

pub offset_bounds-points-i : goal.offset_bounds-points-i
offset_bounds-points-i c =
    let few = subst (λ (g : ℕ). g < 256) c.greatest_sample.ensures.value c.if-greatest_sample-lt-TWO_BYTES_FROM.true in
    omega (arith, bytes-one c.args.high c.args.points.now few, c.requires.within)

pub bounds-points-i : goal.bounds-points-i
bounds-points-i c =
    let few = subst (λ (g : ℕ). g < 256) c.greatest_sample.ensures.value c.if-greatest_sample-lt-TWO_BYTES_FROM.true in
    subst (λ (n : ℕ). c.args.i < n) (bytes-one c.args.high c.args.points.now few) c.requires.within

pub offset_bounds-points-i-else-greatest_sample-lt-TWO_BYTES_FROM : goal.offset_bounds-points-i-else-greatest_sample-lt-TWO_BYTES_FROM
offset_bounds-points-i-else-greatest_sample-lt-TWO_BYTES_FROM c =
    let many = subst (λ (g : ℕ). 256 ≤ g) c.greatest_sample.ensures.value c.if-greatest_sample-lt-TWO_BYTES_FROM.false in
    omega (arith, bytes-two c.args.high c.args.points.now many, c.requires.within)

pub bounds-points-i-else-greatest_sample-lt-TWO_BYTES_FROM : goal.bounds-points-i-else-greatest_sample-lt-TWO_BYTES_FROM
bounds-points-i-else-greatest_sample-lt-TWO_BYTES_FROM c =
    let many = subst (λ (g : ℕ). 256 ≤ g) c.greatest_sample.ensures.value c.if-greatest_sample-lt-TWO_BYTES_FROM.false in
    omega (arith, bytes-two c.args.high c.args.points.now many, c.requires.within)

pub returns-then-greatest_sample-lt-TWO_BYTES_FROM : goal.returns-then-greatest_sample-lt-TWO_BYTES_FROM
returns-then-greatest_sample-lt-TWO_BYTES_FROM c =
    let few = subst (λ (g : ℕ). g < 256) c.greatest_sample.ensures.value c.if-greatest_sample-lt-TWO_BYTES_FROM.true in
    let low : c.args.i < length c.args.points.now = subst (λ (n : ℕ). c.args.i < n) (bytes-one c.args.high c.args.points.now few) c.requires.within in
    c.sample.ensures.value ∙ sym (byte-one c.args.high c.args.points.now c.args.i few low)

pub returns-else-greatest_sample-lt-TWO_BYTES_FROM : goal.returns-else-greatest_sample-lt-TWO_BYTES_FROM
returns-else-greatest_sample-lt-TWO_BYTES_FROM c =
    let many = subst (λ (g : ℕ). 256 ≤ g) c.greatest_sample.ensures.value c.if-greatest_sample-lt-TWO_BYTES_FROM.false in
    let low : c.args.i < 2 * length c.args.points.now = subst (λ (n : ℕ). c.args.i < n) (bytes-two c.args.high c.args.points.now many) c.requires.within in
    c.half_of.ensures ∙ rw c.sample-else-greatest_sample-lt-TWO_BYTES_FROM.ensures.value (sym (byte-two c.args.high c.args.points.now c.args.i many low))
