use Rattle.std.proofs.Common.{◌≡◌, ◌<◌, ◌+◌, ◌^◌, ℕ, cond, suc, sym, ◌∙◌, ap, subst, arith, length, set}
use Rattle.std.specs.Prelude.{min, nat_lt}
use Rattle.partition_tree.proofs.WellFormed.{well_formed-climbs}
use Rattle.energy_cut.specs.LeastEnergies.{least_at}
use Rattle.energy_cut.proofs.HighestKeepers.{value}
use Rattle.energy_cut.proofs.LeastBelow.{AreGathered, chosen-is, gathered_next, next_root, next_inner}
use Rattle.energy_cut.proofs.CutOfLists.{hand-fits}
use Rattle.energy_cut.proofs.Sums.{value-below}
use Rattle.energy_cut.proofs.choosing.gather_up.Goals as goal
use Rattle.energy_cut.proofs.choosing.gather_up.Goals.{then-parent-i, else-parent-i}

pub overflow_add-least : goal.overflow_add-least
overflow_add-least c =
    let t = c.args.tree.now in
    let e = c.args.energies.now in
    let i = c.loop-i.i in
    let b = c.loop-i.least in
    let f = c.nodes-i-end.ensures.well_formed in
    let low : i < length t.parents = omega (arith, c.loop-i-test.true, c.nodes-i-end.ensures.value) in
    let is : c.least_of-chosen.result ≡ least_at t e b i =
    c.least_of-chosen.ensures ∙ ap (λ (n : ℕ). cond (nat_lt i n) (value e i) (min (value e i) (value b i))) c.leaves-leaves.ensures.value ∙ chosen-is t (well_formed-climbs t f) e i b low c.loop-i.invariant in
    let fits : value (set b i c.least_of-chosen.result) c.parent-parent.result + c.least_of-chosen.result < 2 ^ 86 =
    hand-fits t e i c.parent-parent.result c.least_of-chosen.result b f low (λ j h. value-below e c.requires.below j) c.loop-i.invariant is c.parent-parent.ensures.value c.if-parent-i.true in
    omega arith

pub loop-i-preserved : goal.loop-i-preserved
loop-i-preserved c =
    let t = c.args.tree.now in
    let e = c.args.energies.now in
    let i = c.loop-i.i in
    let b = c.loop-i.least in
    let v = c.least_of-chosen.result in
    let f = c.nodes-i-end.ensures.well_formed in
    let low : i < length t.parents = omega (arith, c.loop-i-test.true, c.nodes-i-end.ensures.value) in
    let is : v ≡ least_at t e b i =
    c.least_of-chosen.ensures ∙ ap (λ (n : ℕ). cond (nat_lt i n) (value e i) (min (value e i) (value b i))) c.leaves-leaves.ensures.value ∙ chosen-is t (well_formed-climbs t f) e i b low c.loop-i.invariant in
    let next : i + 1 ≡ suc i = omega arith in
    subst (λ (m : ℕ). AreGathered t e m c.if-parent-i.least) (sym next)
    (elim c.if-parent-i.branch [
      | then-parent-i w ↦
          subst (AreGathered t e (suc i)) (sym w.least-is)
          (subst (λ (p : ℕ). AreGathered t e (suc i) (set (set b i v) p (value (set b i v) p + v))) (sym c.parent-parent.ensures.value)
          (gathered_next t (well_formed-climbs t f) e i b _ low c.loop-i.invariant
          (next_inner t (well_formed-climbs t f) e i v b low c.loop-i.invariant (λ q. w.if-parent-i.true (c.parent-parent.ensures.value ∙ q)) is)))
      | else-parent-i w ↦
          subst (AreGathered t e (suc i)) (sym w.least-is)
          (gathered_next t (well_formed-climbs t f) e i b (set b i v) low c.loop-i.invariant
          (next_root t e i v b low c.loop-i.invariant (sym c.parent-parent.ensures.value ∙ w.if-parent-i.false) is))
    ])
