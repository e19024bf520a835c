use Rattle.std.proofs.Common.{◌≡◌, ◌+◌, ◌++◌, ℕ, Bool, cond, suc, [], ◌∷◌, sym, ◌∙◌, ap, arith, List, get_or, false, true, append-nil}
use Rattle.hg_base.proofs.Passing.{passing, passing-suc}
use Rattle.energy_cut.proofs.choosing.marked.Goals as goal
use Rattle.energy_cut.proofs.choosing.marked.Goals.{then-marks-i+in_ok-push, else-marks-i}

-- one more number that passes, and one that doesn't
more : (p : ℕ → Bool) (i : ℕ) (old new : List ℕ) → p i ≡ true → old ≡ passing p i → new ≡ old ++ i ∷ [] → new ≡ passing p (i + 1)
more p i old new h so_far pushed =
    let next : suc i ≡ i + 1 = omega arith in
    pushed ∙ ap (λ (xs : List ℕ). xs ++ i ∷ []) so_far ∙ sym (passing-suc p i ∙ ap (λ (b : Bool). passing p i ++ cond b (i ∷ []) []) h) ∙ ap (passing p) next

same : (p : ℕ → Bool) (i : ℕ) (old : List ℕ) → p i ≡ false → old ≡ passing p i → old ≡ passing p (i + 1)
same p i old h so_far =
    let next : suc i ≡ i + 1 = omega arith in
    so_far ∙ sym (passing-suc p i ∙ ap (λ (b : Bool). passing p i ++ cond b (i ∷ []) []) h ∙ append-nil (passing p i)) ∙ ap (passing p) next

pub loop-i-preserved : goal.loop-i-preserved
loop-i-preserved c =
    elim c.if-marks-i.branch [
      | then-marks-i+in_ok-push w ↦ ap (λ v. v.items) w.nodes-is ∙ more (λ i. get_or c.args.marks.now i false) c.loop-i.i c.loop-i.nodes.items w.push.new.self.items w.if-marks-i.true c.loop-i.invariant w.in_ok-push.ensures.items
      | else-marks-i w ↦ ap (λ v. v.items) w.nodes-is ∙ same (λ i. get_or c.args.marks.now i false) c.loop-i.i c.loop-i.nodes.items w.if-marks-i.false c.loop-i.invariant
    ]
