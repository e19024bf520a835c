use Rattle.std.proofs.Common.{◌≡◌, ◌∙◌, ◌++◌, ℕ, List, ap, take, drop, length, arith}
use Rattle.std.proofs.Math.Seq.{take-append_seam}
use Rattle.saliency.proofs.ValueLemmas.{each-saliency}
use Rattle.saliency.proofs.values.values_in_threads.Goals as goal

pub returns-clause-least : goal.returns-clause-least
returns-clause-least g c = λ same.
    let filled = c.fill.new.values in
    let rest : List ℕ = drop (length filled) c.in_ok-values.values.items in
    let long : c.in_ok-values.values.len ≡ length filled = omega (arith, c.in_ok-values.values.ok, c.deref_mut.ensures.len, c.fill.auto.values) in
    each-saliency c.args.graph.now _ (ap (λ (n : ℕ). take n (filled ++ rest)) long ∙ take-append_seam filled rest ∙ c.fill.ensures.saliencies same)
