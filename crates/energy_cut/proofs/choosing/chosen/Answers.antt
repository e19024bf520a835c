use Rattle.std.proofs.Common.{◌≡◌, ◌∙◌, ℕ, Bool, List, arith, ap, subst, length}
use Rattle.std.specs.Prelude.{IfOk}
use Rattle.energy_cut.proofs.CutOfLists.{marked-keys}
use Rattle.energy_cut.proofs.choosing.chosen.Goals as goal

pub returns : goal.returns
returns c =
    let whole : length c.deref_mut.result.now ≡ length c.in_ok-marks.marks.items = ap (λ (xs : List Bool). length xs) c.deref_mut.ensures.value in
    let all : length c.in_ok-marks.marks.items ≡ c.args.n = omega (arith, whole, c.deref_mut.ensures.len, c.in_ok-marks.ensures.len) in
    let long : length c.mark.new.marks ≡ c.args.n = c.mark.auto.marks ∙ whole ∙ all in
    subst (λ (nodes : List ℕ). IfOk c.marked.result (λ v. v.items ≡ nodes))
    (marked-keys c.args.keys.now c.deref.result.now c.mark.new.marks c.in_ok-marks.marks.items c.in_ok-marks.marks.len c.args.n c.deref.ensures.value all c.in_ok-marks.ensures.len long c.mark.ensures)
    c.marked.ensures
