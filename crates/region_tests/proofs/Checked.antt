-- A test of different ranks, for edges that are written out.
use Rattle.std.proofs.Common.{◌≡◌, ℕ, inl, inr, sym, ◌∙◌, ap, List, [], ◌∷◌, map, ◌==◌, Bool, true}
use Rattle.std.specs.Prelude.{not, ◌&&◌}
use Rattle.std.proofs.lemmas.Bool.{and_parts, eq-eqb, true≢false}
use Rattle.edge_laws.specs.Edges.{ListedEdge, AreApart}
use Rattle.hg_base.specs.Lists.{IsIn}
use Rattle.hg_base.specs.declared.graph.PlacedEdge.{PlacedEdge}
use Rattle.border_climb.specs.Parts.{as_listed}

-- no edge of the list has this rank
abbrev pub differs : ℕ → List PlacedEdge → Bool
differs r [] = true
differs r (e ∷ es) = not (r == e.rank) && differs r es

-- no two edges of the list have one rank
abbrev pub differ : List PlacedEdge → Bool
differ [] = true
differ (e ∷ es) = differs e.rank es && differ es

not-equal : (a b : ℕ) → not (a == b) ≡ true → a ≡ b → ⊥
not-equal a b h same = true≢false (sym h ∙ ap not (eq-eqb a b same))

differs-is : (r : ℕ) (edges : List PlacedEdge) → differs r edges ≡ true → (f : ListedEdge) → IsIn f (map as_listed edges) → r ≡ f.rank → ⊥
differs-is r [] h f none eq = none
differs-is r (x ∷ xs) h f (inl same) eq = not-equal r x.rank (and_parts _ _ h).0 (eq ∙ sym (ap (λ (g : ListedEdge). g.rank) same))
differs-is r (x ∷ xs) h f (inr later) eq = differs-is r xs (and_parts _ _ h).1 f later eq

pub apart-tested : (edges : List PlacedEdge) → differ edges ≡ true → AreApart (map as_listed edges)
apart-tested [] h = tt
apart-tested (x ∷ xs) h = let p = and_parts (differs x.rank xs) (differ xs) h in (differs-is x.rank xs p.0, apart-tested xs p.1)
