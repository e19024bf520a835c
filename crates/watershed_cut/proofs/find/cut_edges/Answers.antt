use Rattle.std.proofs.Common.{ℕ, Bool, inl, inr, sym, subst, ◌∙◌, ap, arith, get_or}
use Rattle.std.specs.Prelude.{◌==◌, not}
use Rattle.std.proofs.lemmas.Bool.{cases_eq}
use Rattle.hg_base.specs.Graph.{first_end, second_end}
use Rattle.watershed_cut.specs.Plateaus.{HasTwoEnds}
use Rattle.watershed_cut.proofs.MarkedNumbers.{filter_more, filter_same}
use Rattle.watershed_cut.proofs.find.cut_edges.Goals as goal
use Rattle.watershed_cut.proofs.find.cut_edges.Goals.{then-is_cut_edge+in_ok-push, else-is_cut_edge}

pub loop-e-preserved : goal.loop-e-preserved
loop-e-preserved c =
    let g = c.args.graph.now in
    let labels = c.args.labels.now in
    let p : ℕ → Bool = λ e. not (get_or labels (first_end g e) 0 == get_or labels (second_end g e) 0) in (
      λ f h. elim (cases_eq f c.loop-e.e) [
        | inl same ↦ subst (HasTwoEnds g) (sym same) c.is_cut_edge.ensures.ends
        | inr other ↦ c.loop-e.invariant.0 f (grind (arith, h, other))
      ],
      elim c.if-is_cut_edge.branch [
        | then-is_cut_edge+in_ok-push w ↦ ap (λ v. v.items) w.cut-is ∙ filter_more p c.loop-e.e c.loop-e.cut.items w.push.new.self.items c.loop-e.invariant.1 (sym c.is_cut_edge.ensures.cut ∙ w.if-is_cut_edge.true) w.in_ok-push.ensures.items
        | else-is_cut_edge w ↦ ap (λ v. v.items) w.cut-is ∙ filter_same p c.loop-e.e c.loop-e.cut.items c.loop-e.invariant.1 (sym c.is_cut_edge.ensures.cut ∙ w.if-is_cut_edge.false)
      ],
    )
