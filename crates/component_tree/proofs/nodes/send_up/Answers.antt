use Rattle.std.proofs.Common.{◌≡◌, ℕ, ◌+◌, ◌<◌, sym, subst, arith, length, get_or, set}
use Rattle.std.specs.Prelude.{min}
use Rattle.partition_tree.proofs.WellFormed.{well_formed-climbs, well_formed-leaves}
use Rattle.component_tree.proofs.Leasts.{AreLeastsTo, leasts-first, leasts-next, leasts-all}
use Rattle.component_tree.proofs.nodes.send_up.Goals as goal

pub loop-i-init : goal.loop-i-init
loop-i-init c = leasts-first c.args.tree.now c.args.leasts.now c.requires.own

pub loop-i-preserved : goal.loop-i-preserved
loop-i-preserved c =
    let t = c.args.tree.now in
    let i = c.loop-i.i in
    let xs = c.loop-i.leasts in
    let f = c.nodes-i-end.ensures.well_formed in
    let hi : i < length t.parents = omega (arith, c.loop-i-test.true, c.nodes-i-end.ensures.value) in
    subst (λ (m : ℕ). AreLeastsTo t (i + 1) (set xs c.parent-parent.result m)) (sym c.min.ensures)
    (subst (λ (p : ℕ). AreLeastsTo t (i + 1) (set xs p (min (get_or xs p 0) (get_or xs i 0)))) (sym c.parent-parent.ensures.value)
    (leasts-next t (well_formed-climbs t f) (well_formed-leaves t f) c.requires.leaves i xs hi c.loop-i.invariant))

pub returns : goal.returns
returns c =
    let t = c.args.tree.now in
    let f = c.nodes-i-end.ensures.well_formed in
    let e : c.loop-i.i ≡ length t.parents = omega (arith, c.loop-i-test.false, c.loop-i.auto.i-end, c.nodes-i-end.ensures.value) in
    leasts-all t (well_formed-climbs t f) (well_formed-leaves t f) c.requires.leaves c.loop-i.leasts (subst (λ (n : ℕ). AreLeastsTo t n c.loop-i.leasts) e c.loop-i.invariant)
