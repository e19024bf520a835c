use Rattle.std.proofs.Common.{◌≡◌, ◌∙◌, ℕ, length, sym, subst, arith}
use Rattle.std.proofs.lemmas.List.FromFn.{fill_by_all}
use Rattle.hg_base.specs.Graph.{first_end, second_end}
use Rattle.edge_laws.specs.Saliencies.{saliency}
use Rattle.saliency.specs.Values.{IsLowestAltitude}
use Rattle.saliency.proofs.values.fill.Goals as goal

pub returns-clause-lowest : goal.returns-clause-lowest
returns-clause-lowest g c = record {
  one_each = omega (arith, c.par_for_each_mut.auto.s, c.requires.all);
  each = λ e low.
      let at = (c.par_for_each_mut.ensures e 0 (omega (arith, low, c.requires.all))).1 in
      subst (λ (v : ℕ). IsLowestAltitude c.args.tree.now (first_end c.args.graph.now e) (second_end c.args.graph.now e) v) at.left at.call.lowest;
}

pub returns-clause-saliencies : goal.returns-clause-saliencies
returns-clause-saliencies g c same =
    let long : length c.par_for_each_mut.new.s ≡ length c.args.graph.now.edges = omega (arith, c.par_for_each_mut.auto.s, c.requires.all) in
    fill_by_all (saliency c.args.graph.now) c.par_for_each_mut.new.s (length c.args.graph.now.edges) 0 long
    (λ k low. let at = (c.par_for_each_mut.ensures k 0 (omega (arith, low, c.requires.all))).1 in sym at.left ∙ at.call.saliency same)
