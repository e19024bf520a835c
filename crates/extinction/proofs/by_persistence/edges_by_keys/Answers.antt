use Rattle.std.proofs.Common.{◌≡◌, ◌∙◌, ap, arith, length}
use Rattle.std.proofs.lemmas.List.{length-map}
use Rattle.std.proofs.lemmas.List.Elements.{All-push}
use Rattle.edge_laws.specs.Edges.{ListedEdge, joins}
use Rattle.edge_laws.specs.Rank.{ranked}
use Rattle.tree_laws.specs.Tree.{ParentTree}
use Rattle.partition_tree.specs.Ranked.{IsRankedEdge}
use Rattle.extinction.proofs.PersistenceTree.{listed-more, listed-all, key-within}
use Rattle.extinction.proofs.by_persistence.edges_by_keys.Goals as goal

pub ranked-requires-clause-within : goal.ranked-requires-clause-within
ranked-requires-clause-within c = key-within c.args.persistences.now c.args.keys.now c.loop-k.k c.requires.keys (omega arith)

pub loop-k-preserved : goal.loop-k-preserved
loop-k-preserved c = record {
  so_far = listed-more c.args.graph.now c.args.persistences.now c.args.keys.now c.loop-k.list.items c.push.new.self.items c.loop-k.k c.ranked.result c.loop-k.invariant.so_far c.in_ok-push.ensures.items c.ranked.ensures.edge;
  ends = rw c.in_ok-push.ensures.items (All-push (IsRankedEdge c.args.graph.now.n) c.loop-k.list.items c.ranked.result c.loop-k.invariant.ends c.ranked.ensures.ends);
}

pub returns : goal.returns
returns c =
    let f = c.keeps_its_rules-2.ensures.well_formed in
    let long : length c.args.tree.now.makers ≡ length (joins (ranked c.args.graph.now)) = ap (λ (t : ParentTree). length t.makers) c.requires.tree ∙ length-map (joins (ranked c.args.graph.now)) (λ (x : ListedEdge). x.number) in
    listed-all c.args.graph.now c.args.persistences.now c.args.keys.now c.loop-k.list.items c.loop-k.k c.keeps_its_rules.ensures.some_vertex c.keeps_its_rules.ensures.vertices
    (omega (arith, c.requires.one_each, f.one_maker_each, f.small)) (c.requires.one_each ∙ long) c.requires.keys (omega arith) c.loop-k.invariant.so_far c.loop-k.invariant.ends
