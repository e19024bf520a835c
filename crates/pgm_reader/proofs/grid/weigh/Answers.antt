use Rattle.std.proofs.Common.{◌≡◌, ◌∙◌, length, map, sym, ap, arith}
use Rattle.std.proofs.lemmas.Simd.{map-map}
use Rattle.std.proofs.Crossing.{crosses}
use denote.Param.Send.{sendable}
use Rattle.hg_base.specs.declared.graph.Edge.{Edge}
use Rattle.pgm_reader.specs.Grid.{link_of, edge_between}
use Rattle.pgm_reader.proofs.Grids.{ends_at, map_by_all}
use Rattle.pgm_reader.proofs.grid.weigh.Goals as goal

pub par_for_each_mut-requires : goal.par_for_each_mut-requires
par_for_each_mut-requires g c = λ κs. (
  search (sendable, crosses) depth 40,
  (
    search (sendable, crosses) depth 40,
    (
      search (sendable, crosses) depth 40,
      λ i p lt e. ends_at c.args.picture.now.width c.args.picture.now.height i p.now c.args.edges.now c.requires.some_width c.requires.links lt e,
    ),
  ),
)

pub returns : goal.returns
returns g c =
    let grey = edge_between c.args.picture.now.samples in
    let weighed = λ (e : Edge). grey (link_of e) in
    let long : length c.par_for_each_mut.new.s ≡ length c.args.edges.now = omega (arith, c.par_for_each_mut.auto.s) in
    map_by_all weighed c.args.edges.now c.par_for_each_mut.new.s long
    (λ k d lt. let at = (c.par_for_each_mut.ensures k d lt).1 in sym at.left ∙ at.call ∙ ap weighed at.argument_is)
    ∙ sym (map-map grey link_of c.args.edges.now) ∙ ap (map grey) c.requires.links
