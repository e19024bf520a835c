use Rattle.std.proofs.Common.{◌≡◌, ◌≢◌, ◌<◌, ℕ, inl, inr, sym, ◌∙◌, subst, ap, arith, List, [], ◌∷◌, map}
use Rattle.edge_laws.specs.Edges.{ListedEdge}
use Rattle.hg_base.specs.Lists.{IsIn}
use Rattle.hg_base.specs.declared.graph.PlacedEdge.{PlacedEdge}
use Rattle.node_region.specs.Pool.{IsCovered, fresh_pool}
use Rattle.border_climb.specs.Parts.{as_listed}
use Rattle.region_tests.proofs.border_climb_tests.links.Goals as goal

covered : (x : ℕ) → x < 4 → IsCovered (fresh_pool 0 4 (record { places = 4; chunks = 1 })) x
covered x lt = (omega arith, omega arith)

-- what holds of four edges holds of each in their list
each : (P : PlacedEdge → Type 0) (e f h k : PlacedEdge) → P e → P f → P h → P k → (g : PlacedEdge) → IsIn g (e ∷ f ∷ h ∷ k ∷ []) → P g
each P e f h k pe pf ph pk g (inl same) = subst P same pe
each P e f h k pe pf ph pk g (inr (inl same)) = subst P same pf
each P e f h k pe pf ph pk g (inr (inr (inl same))) = subst P same ph
each P e f h k pe pf ph pk g (inr (inr (inr (inl same)))) = subst P same pk
each P e f h k pe pf ph pk g (inr (inr (inr (inr none)))) = absurd none

-- no edge of the list has rank r
abbrev Differs : ℕ → List PlacedEdge → Type 0
Differs r [] = Unit {0}
Differs r (x ∷ xs) = (r ≢ x.rank) × Differs r xs

new-rank : (r : ℕ) (xs : List PlacedEdge) → Differs r xs → (g : ListedEdge) → IsIn g (map as_listed xs) → r ≡ g.rank → ⊥
new-rank r [] d g none eq = none
new-rank r (x ∷ xs) d g (inl same) eq = d.0 (eq ∙ sym (ap (λ (y : ListedEdge). y.rank) same))
new-rank r (x ∷ xs) d g (inr later) eq = new-rank r xs d.1 g later eq

-- edges have different ranks where they have those of different numbers
step : (a b i j : ℕ) → a ≡ i → b ≡ j → i ≢ j → a ≢ b
step a b i j at bt ne eq = ne (sym at ∙ eq ∙ bt)

pub returns : goal.returns
returns c =
    let e = c.link.result in
    let f = c.link-2.result in
    let h = c.link-3.result in
    let k = c.link-4.result in
    let re = c.link.ensures.rank in
    let rf = c.link-2.ensures.rank in
    let rh = c.link-3.ensures.rank in
    let rk = c.link-4.ensures.rank in
    let d = c.requires.apart in
    record {
      a = λ g m. covered g.a (each (λ x. x.a < 4) e f h k c.link.ensures.a c.link-2.ensures.a c.link-3.ensures.a c.link-4.ensures.a g m);
      b = λ g m. covered g.b (each (λ x. x.b < 4) e f h k c.link.ensures.b c.link-2.ensures.b c.link-3.ensures.b c.link-4.ensures.b g m);
      two = each (λ x. x.a ≢ x.b) e f h k c.link.ensures.two c.link-2.ensures.two c.link-3.ensures.two c.link-4.ensures.two;
      apart = (
        new-rank e.rank (f ∷ h ∷ k ∷ []) (step _ _ _ _ re rf d.0, (step _ _ _ _ re rh d.1, (step _ _ _ _ re rk d.2, tt))),
        (
          new-rank f.rank (h ∷ k ∷ []) (step _ _ _ _ rf rh d.3, (step _ _ _ _ rf rk d.4, tt)),
          (new-rank h.rank (k ∷ []) (step _ _ _ _ rh rk d.5, tt), (new-rank k.rank [] tt, tt)),
        ),
      );
    }
