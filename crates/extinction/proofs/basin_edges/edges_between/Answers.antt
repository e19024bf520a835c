use Rattle.std.proofs.Common.{◌≡◌, ◌≤◌, rules, sym, ◌∙◌, ap, subst, arith, [], ◌∷◌, length, length-append, All}
use Rattle.std.proofs.lemmas.List.{length-map}
use Rattle.std.proofs.lemmas.List.Elements.{All-push}
use Rattle.std.proofs.lemmas.List.Sorted.{IsNonDecreasingBy-from_sort_by_key}
use Rattle.edge_laws.specs.Edges.{ListedEdge, joins}
use Rattle.edge_laws.specs.Rank.{ranked}
use Rattle.tree_laws.specs.Tree.{ParentTree}
use Rattle.partition_tree.specs.declared.list.Ranked.{Ranked}
use Rattle.partition_tree.specs.Ranked.{IsRankedEdge}
use Rattle.extinction.specs.Basins.{basin_edges}
use Rattle.extinction.proofs.BasinEdges.{basin-more, basin-same, basin-list}
use Rattle.extinction.proofs.basin_edges.edges_between.Goals as goal
use Rattle.extinction.proofs.basin_edges.edges_between.Goals.{in-Some+in_ok-push, in_default}

pub loop-place-preserved : goal.loop-place-preserved
loop-place-preserved c =
    let g = c.args.graph.now in
    let l = c.args.labels.now in
    let p = c.args.persistences.now in
    let before = c.loop-place.list.items in
    elim c.match-edge_between.branch [
      | in-Some+in_ok-push w ↦ record {
        so_far = ap (λ v. v.items) w.list-is ∙ basin-more g l p c.loop-place.place before w.push.new.self.items w.in-Some.edge c.loop-place.invariant.so_far w.in-Some.ensures.edge.0 w.in-Some.ensures.edge.1 w.in_ok-push.ensures.items;
        ends = subst (All (IsRankedEdge l.count)) (sym (ap (λ v. v.items) w.list-is ∙ w.in_ok-push.ensures.items)) (All-push (IsRankedEdge l.count) before w.in-Some.edge c.loop-place.invariant.ends w.in-Some.ensures.ends);
        few = omega (arith, ap length (ap (λ v. v.items) w.list-is ∙ w.in_ok-push.ensures.items), length-append before (w.in-Some.edge ∷ []), c.loop-place.invariant.few);
      }
      | in_default w ↦ record {
        so_far = ap (λ v. v.items) w.list-is ∙ basin-same g l p c.loop-place.place before c.loop-place.invariant.so_far w.in_default.ensures.edge;
        ends = subst (All (IsRankedEdge l.count)) (sym (ap (λ v. v.items) w.list-is)) c.loop-place.invariant.ends;
        few = omega (arith, ap length (ap (λ v. v.items) w.list-is), c.loop-place.invariant.few);
      }
    ]

pub returns : goal.returns
returns c =
    let g = c.args.graph.now in
    let l = c.args.labels.now in
    let p = c.args.persistences.now in
    let f = c.keeps_its_rules-2.ensures.well_formed in
    let list = c.loop-place.list.items in
    let small : length p ≤ 4194304 = omega (arith, c.requires.one_each, f.one_maker_each, f.small) in
    let whole : c.loop-place.place ≡ length p = omega (arith, small) in
    let long : length p ≡ length (joins (ranked g)) = c.requires.one_each ∙ ap (λ (t : ParentTree). length t.makers) c.requires.tree ∙ length-map (joins (ranked g)) (λ (x : ListedEdge). x.number) in
    basin-list g l p list c.sort_unstable_by_key.new.self.items c.requires.some_basin c.requires.basins small long c.requires.inside
    (c.loop-place.invariant.so_far ∙ ap (basin_edges g l p) whole) c.loop-place.invariant.ends (omega (arith, whole, c.loop-place.invariant.few)) c.sort_unstable_by_key.ensures.permutation
    (IsNonDecreasingBy-from_sort_by_key (λ (e : Ranked). e.altitude) _ c.sort_unstable_by_key.ensures.sorted (λ a r q k. search rules))
