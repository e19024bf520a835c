use Rattle.std.proofs.Common.{◌≡◌, ◌+◌, ◌*◌, ◌<◌, ◌^◌, ℕ, sym, ◌∙◌, ap, subst, arith, List, All, get_or, map}
use Rattle.std.specs.List.{range_with_len}
use Rattle.partition_tree.specs.TreeLists.{nodes}
use Rattle.energy_cut.specs.Energies.{node_energy}
use Rattle.partition_tree.proofs.ListsByNumber.{values_more}
use Rattle.energy_cut.proofs.Sums.{energies-fit}
use Rattle.energy_cut.proofs.energies.energies.Goals as goal

pub loop-i-preserved : goal.loop-i-preserved
loop-i-preserved c =
    let t = c.args.tree.now in
    let areas = c.args.areas.now in
    let i = c.loop-i.i in
    values_more (node_energy t areas c.args.penalty) i _ c.loop-i.energies.items c.push.new.self.items c.loop-i.invariant
    (ap (λ (k : ℕ). k + c.from-in-loop-i.result) c.from.ensures ∙ ap (λ (k : ℕ). c.args.penalty + k) (c.from-in-loop-i.ensures ∙ ap (λ (k : ℕ). get_or areas i 0 * k) c.altitude.ensures.value)) c.in_ok-push.ensures.items

pub returns-clause-below : goal.returns-clause-below
returns-clause-below c =
    let t = c.args.tree.now in
    let areas = c.args.areas.now in
    let all : c.loop-i.i ≡ nodes t = omega (arith, c.loop-i.auto.i-end, c.loop-i-test.false, c.nodes-i-end.ensures.value) in
    let fits : c.args.penalty < 2 ^ 64 = omega (arith, c.ranges.penalty.fits) in
    subst (λ (xs : List ℕ). All (λ e. e < 2 ^ 65) xs) (sym (c.loop-i.invariant ∙ ap (λ (n : ℕ). map (node_energy t areas c.args.penalty) (range_with_len 0 n)) all))
    (energies-fit t areas c.args.penalty c.requires.small c.requires.low fits)
