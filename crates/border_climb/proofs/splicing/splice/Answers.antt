use Rattle.std.proofs.Common.{refl, sym, ◌∙◌}
use Rattle.std.proofs.lemmas.Bool.{true≢false}
use Rattle.border_climb.proofs.Pools.{links-differs}
use Rattle.border_climb.proofs.Ways.{begun-same}
use Rattle.border_climb.proofs.Splices.{listed, climbed, list-same, opened-seam, spliced-one, spliced-merged, merged-sound, fresh-apart}
use Rattle.border_climb.proofs.splicing.splice.Goals as goal

pub last_below-second-requires-clause-begun : goal.last_below-second-requires-clause-begun
last_below-second-requires-clause-begun c = begun-same _ _ (links-differs _ _ c.last_below-first.ensures.notes) c.args.e.b c.args.e.rank _ c.begin-second_begun.ensures

pub returns-then-are_one-clause-spliced : goal.returns-then-are_one-clause-spliced
returns-then-are_one-clause-spliced c = λ f s is l.
    let m = climbed c.args.region.now c.last_below-first.new.region c.last_below-second.new.region c.args.e c.last_below-first.result c.last_below-second.result c.requires.a c.requires.b c.requires.two
    c.last_below-first.ensures.notes c.last_below-second.ensures.notes c.last_below-second.ensures.sound c.last_below-first.ensures.top c.last_below-second.ensures.top in
    let one = c.are_one.ensures.one c.if-are_one.true in
    spliced-one _ _ c.args.e _ _ m one.0 one.1.0 one.1.1 f s is l

pub open-seam-requires-clause-list : goal.open-seam-requires-clause-list
open-seam-requires-clause-list c =
    let m = climbed c.args.region.now c.last_below-first.new.region c.last_below-second.new.region c.args.e c.last_below-first.result c.last_below-second.result c.requires.a c.requires.b c.requires.two
    c.last_below-first.ensures.notes c.last_below-second.ensures.notes c.last_below-second.ensures.sound c.last_below-first.ensures.top c.last_below-second.ensures.top in
    let w = c.requires.list in
    (w.0, list-same _ _ m.same w.0 c.args.e.rank w.1)

pub merge-requires : goal.merge-requires
merge-requires c =
    let m = climbed c.args.region.now c.last_below-first.new.region c.last_below-second.new.region c.args.e c.last_below-first.result c.last_below-second.result c.requires.a c.requires.b c.requires.two
    c.last_below-first.ensures.notes c.last_below-second.ensures.notes c.last_below-second.ensures.sound c.last_below-first.ensures.top c.last_below-second.ensures.top in
    let w = c.requires.list in (
      listed c.args.e,
      (
        w.0,
        opened-seam _ _ c.open-seam.new.region c.args.e _ _ c.open-seam.result.last _ _ m
            (λ i one two. true≢false (sym (c.are_one.ensures.never i one two) ∙ c.if-are_one.false))
            c.open-seam.ensures.can c.open-seam.ensures.opened c.open-seam.ensures.first c.open-seam.ensures.second (listed c.args.e) w.0 refl w.1,
      ),
    )

pub returns-clause-spliced : goal.returns-clause-spliced
returns-clause-spliced c = λ f s is l.
    let m = climbed c.args.region.now c.last_below-first.new.region c.last_below-second.new.region c.args.e c.last_below-first.result c.last_below-second.result c.requires.a c.requires.b c.requires.two
    c.last_below-first.ensures.notes c.last_below-second.ensures.notes c.last_below-second.ensures.sound c.last_below-first.ensures.top c.last_below-second.ensures.top in
    spliced-merged _ f s _ (c.merge.ensures.ends f s (opened-seam _ _ c.open-seam.new.region c.args.e _ _ c.open-seam.result.last _ _ m
    (λ i one two. true≢false (sym (c.are_one.ensures.never i one two) ∙ c.if-are_one.false))
    c.open-seam.ensures.can c.open-seam.ensures.opened c.open-seam.ensures.first c.open-seam.ensures.second f s is l))

pub returns-clause-sound : goal.returns-clause-sound
returns-clause-sound c =
    let m = climbed c.args.region.now c.last_below-first.new.region c.last_below-second.new.region c.args.e c.last_below-first.result c.last_below-second.result c.requires.a c.requires.b c.requires.two
    c.last_below-first.ensures.notes c.last_below-second.ensures.notes c.last_below-second.ensures.sound c.last_below-first.ensures.top c.last_below-second.ensures.top in
    let w = c.requires.list in
    merged-sound _ (listed c.args.e) w.0 _ (fresh-apart (listed c.args.e) w.0 w.1.between.apart w.1.fresh)
    (c.merge.ensures.ends (listed c.args.e) w.0 (opened-seam _ _ c.open-seam.new.region c.args.e _ _ c.open-seam.result.last _ _ m
    (λ i one two. true≢false (sym (c.are_one.ensures.never i one two) ∙ c.if-are_one.false))
    c.open-seam.ensures.can c.open-seam.ensures.opened c.open-seam.ensures.first c.open-seam.ensures.second (listed c.args.e) w.0 refl w.1))
