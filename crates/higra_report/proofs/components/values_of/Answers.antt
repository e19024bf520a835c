use Rattle.std.proofs.Common.{◌≡◌, ℕ, ◌*◌, List, Some, length, ap, sym, ◌∙◌, arith}
use Rattle.higra_report.proofs.EnergyLemmas.{areas_all, areas_more}
use Rattle.higra_report.proofs.components.values_of.Goals as goal

pub loop-i-preserved : goal.loop-i-preserved
loop-i-preserved c = areas_more c.args.picture.now.samples c.loop-i.i c.from.result c.loop-i.values.items c.push.new.self.items (c.sample.ensures.value ∙ ap Some (sym c.from.ensures)) c.loop-i.invariant c.in_ok-push.ensures.items

pub returns-clause-samples : goal.returns-clause-samples
returns-clause-samples c =
    let long : length c.args.picture.now.samples ≡ c.width.result * c.height.result = c.width.ensures.picture.one_sample_each ∙ ap (λ (n : ℕ). n * c.args.picture.now.height) (sym c.width.ensures.value) ∙ ap (λ (n : ℕ). c.width.result * n) (sym c.height.ensures.value) in
    c.new.ensures ∙ areas_all c.args.picture.now.samples c.loop-i.i c.loop-i.values.items (omega (arith, c.loop-i-test.false, long)) c.loop-i.invariant

pub returns-clause-one_each : goal.returns-clause-one_each
returns-clause-one_each c =
    let long : length c.args.picture.now.samples ≡ c.width.result * c.height.result = c.width.ensures.picture.one_sample_each ∙ ap (λ (n : ℕ). n * c.args.picture.now.height) (sym c.width.ensures.value) ∙ ap (λ (n : ℕ). c.width.result * n) (sym c.height.ensures.value) in
    ap (λ (xs : List ℕ). length xs) (c.new.ensures ∙ areas_all c.args.picture.now.samples c.loop-i.i c.loop-i.values.items (omega (arith, c.loop-i-test.false, long)) c.loop-i.invariant)
    ∙ c.width.ensures.picture.one_sample_each
