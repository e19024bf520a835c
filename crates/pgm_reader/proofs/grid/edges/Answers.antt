use Rattle.std.proofs.Common.{◌≡◌, ◌∙◌, ◌++◌, ℕ, List, ap, take, drop, length, refl, arith}
use Rattle.std.proofs.Math.Seq.{take-append_seam}
use Rattle.hg_base.specs.declared.graph.Edge.{Edge}
use Rattle.pgm_reader.proofs.grid.edges.Goals as goal

pub links-requires-clause-pixels : goal.links-requires-clause-pixels
links-requires-clause-pixels g c = rw (c.width.ensures.value, c.height.ensures.value) c.width.ensures.picture.pixels

pub weigh-requires-clause-links : goal.weigh-requires-clause-links
weigh-requires-clause-links g c κs within = rw (c.deref_mut.ensures.value, c.in_ok-edges.ensures, c.width.ensures.value, c.height.ensures.value) refl

pub returns : goal.returns
returns g c =
    let weighed = c.weigh.new.edges in
    let rest : List Edge = drop (length weighed) c.in_ok-edges.edges.items in
    let long : c.in_ok-edges.edges.len ≡ length weighed = omega (arith, c.in_ok-edges.edges.ok, c.deref_mut.ensures.len, c.weigh.auto.edges) in
    ap (λ (n : ℕ). take n (weighed ++ rest)) long ∙ take-append_seam weighed rest ∙ c.weigh.ensures
