use Rattle.std.proofs.Common.{ℕ, ◌≤◌, sym, ◌∙◌, ap, subst, arith, All}
use Rattle.std.specs.Prelude.{Option, unwrap_or}
use Rattle.std.proofs.lemmas.List.Elements.{All-push}
use Rattle.attributes.specs.Attributes.{area}
use Rattle.partition_tree.proofs.ListsByNumber.{values_more}
use Rattle.attributes.proofs.leaves.areas.Goals as goal

pub loop-x-preserved : goal.loop-x-preserved
loop-x-preserved c =
    let small : c.from.result ≤ 4096 = omega (arith, c.area.ensures.small, c.from.ensures) in
    record {
      so_far = values_more (area c.args.graph.now) c.loop-x.x c.from.result c.loop-x.areas.items _ c.loop-x.invariant.so_far
          (c.from.ensures ∙ ap (λ (o : Option ℕ). unwrap_or o 0) (sym c.area.ensures.area)) c.in_ok-push.ensures.items;
      small = subst (All (λ (a : ℕ). a ≤ 4096)) (sym c.in_ok-push.ensures.items) (All-push (λ (a : ℕ). a ≤ 4096) c.loop-x.areas.items c.from.result c.loop-x.invariant.small small);
    }
