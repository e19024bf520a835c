use Rattle.std.proofs.Common.{◌≡◌, ◌-◌, ◌<◌, ℕ, suc, sym, ap, subst, arith, length, get_or}
use Rattle.std.specs.Prelude.{None}
use Rattle.partition_tree.proofs.WellFormed.{well_formed-climbs}
use Rattle.energy_cut.specs.LeastEnergies.{keeps_own}
use Rattle.energy_cut.proofs.HighestAbove.{AreHighestFrom, IsTopOf, top-next, highest_next, highest_all}
use Rattle.energy_cut.proofs.choosing.send_down.Goals as goal

pub loop-i-preserved : goal.loop-i-preserved
loop-i-preserved c =
    let t = c.args.tree.now in
    let p = keeps_own c.args.energies.now c.args.least.now in
    let i = c.loop-i.i - 1 in
    let next : c.loop-i.i ≡ suc i = omega arith in
    let low : i < length t.parents = omega (arith, c.loop-i.auto.i, c.nodes-i.ensures.value) in
    let before : AreHighestFrom t p (suc i) c.loop-i.tops = subst (λ (n : ℕ). AreHighestFrom t p n c.loop-i.tops) next c.loop-i.invariant in
    highest_next t p i c.loop-i.tops c.top_of.result low before
    (subst (IsTopOf t p i) (sym c.top_of.ensures)
    (top-next t (well_formed-climbs t c.nodes-i.ensures.well_formed) p i c.loop-i.tops low before _ (ap (λ (k : ℕ). get_or c.loop-i.tops k None) (sym c.parent.ensures.value))))

pub returns : goal.returns
returns c =
    let t = c.args.tree.now in
    let p = keeps_own c.args.energies.now c.args.least.now in
    let done : c.loop-i.i ≡ 0 = omega arith in
    highest_all t p c.loop-i.tops (subst (λ (n : ℕ). AreHighestFrom t p n c.loop-i.tops) done c.loop-i.invariant)
