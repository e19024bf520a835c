use Rattle.std.proofs.Common.{◌≡◌, ℕ, refl, subst}
use Rattle.std.proofs.lemmas.Result.{IfOk-weaker}
use Rattle.pgm_reader.specs.Grid.{graph_of}
use Rattle.contour_map.specs.Contours.{IsContourMap}
use Rattle.contour_map.proofs.Drawings.{contours-drawn, edge-values}
use Rattle.contour_map.proofs.drawn.draw_saliencies.Goals as goal

pub of_in_threads-requires-clause-values : goal.of_in_threads-requires-clause-values
of_in_threads-requires-clause-values g c κs within =
    rw (c.width.ensures.value, c.height.ensures.value) (edge-values c.args.picture.now (graph_of c.args.picture.now) c.args.values.now c.width.ensures.picture refl c.requires.one_each)

pub returns : goal.returns
returns g c tree saliencies =
    let r = c.args.picture.now in
    let values = c.args.values.now in
    let contours : IsContourMap r.width r.height values c.in_ok-map.map =
    subst (λ (h : ℕ). IsContourMap r.width h values c.in_ok-map.map) c.height.ensures.value (subst (λ (w : ℕ). IsContourMap w c.height.result values c.in_ok-map.map) c.width.ensures.value c.in_ok-map.ensures.contours) in
    IfOk-weaker c.write_contours_in_threads.result _ _ (λ bytes drawn. contours-drawn r (graph_of r) tree values c.in_ok-map.map bytes.items refl saliencies contours drawn) c.write_contours_in_threads.ensures
