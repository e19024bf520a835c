use Rattle.std.proofs.Common.{◌≡◌, ◌∙◌, ◌++◌, ℕ, List, ap, take, drop, length, arith}
use Rattle.std.proofs.Math.Seq.{take-append_seam}
use Rattle.partition_tree.proofs.parents.parents_in_threads.Goals as goal

pub returns : goal.returns
returns g c =
    let filled = c.fill.new.parents in
    let rest : List ℕ = drop (length filled) c.in_ok-parents.parents.items in
    let long : c.in_ok-parents.parents.len ≡ length filled = omega (arith, c.in_ok-parents.parents.ok, c.deref_mut.ensures.len, c.fill.auto.parents) in
    ap (λ (n : ℕ). take n (filled ++ rest)) long ∙ take-append_seam filled rest ∙ c.fill.ensures
