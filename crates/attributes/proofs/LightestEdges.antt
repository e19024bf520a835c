-- The least weights of the edges at vertices, edge after edge.
use Rattle.std.proofs.Common.{◌≡◌, ℕ, ◌+◌, ◌<◌, Bool, true, false, cond, inl, inr, refl, sym, ◌∙◌, ap, arith, List, [], ◌∷◌, ◌++◌, append-nil, length, length-set, get_or, set, take, map}
use Rattle.std.specs.Prelude.{◌==◌, filter, min, Option, Some, None, slice_get, unwrap_or, replicate}
use Rattle.std.specs.List.{range_with_len}
use Rattle.std.proofs.lemmas.Bool.{cases_eq, eq-eqb, ne_eqb, or_left, or_right, or_from}
use Rattle.std.proofs.lemmas.List.{map-append, take_more, take_all, get_or-set_same, get_or-set_other, get_or-replicate, length-replicate}
use Rattle.std.proofs.lemmas.List.Elements.{filter-append}
use Rattle.std.proofs.lemmas.List.Sums.{fold_push}
use Rattle.std.proofs.lemmas.List.FromFn.{map-range_with_len_more}
use Rattle.std.proofs.lemmas.Option.{get_or_from_slice_get, slice_get_within}
use Rattle.hg_base.specs.declared.graph.Edge.{Edge}
use Rattle.hg_base.specs.Graph.{WeightedGraph, JoinsTwo}
use Rattle.attributes.specs.Attributes.{is_end_of, weights_at, least, floor}
use Rattle.attributes.specs.Floors.{least_if_any, lowered, AreLightest}

-- one more number
least_if_any-push : (ks : List ℕ) (k : ℕ) → least_if_any (ks ++ k ∷ []) ≡ lowered (least_if_any ks) k
least_if_any-push [] k = refl
least_if_any-push (j ∷ js) k = ap Some (fold_push min j js k)

-- the least, or 0 where there is none
pub least-any : (ks : List ℕ) → least ks ≡ unwrap_or (least_if_any ks) 0
least-any [] = refl
least-any (k ∷ ks) = refl

-- the weights of those edges that have an end at x
abbrev pub weights_in : ℕ → List Edge → List ℕ
weights_in x edges = map (λ e. e.w) (filter (is_end_of x) edges)

-- one more edge at x
weights_in-at : (x : ℕ) (edges : List Edge) (e : Edge) → is_end_of x e ≡ true → weights_in x (edges ++ e ∷ []) ≡ weights_in x edges ++ e.w ∷ []
weights_in-at x edges e at =
    ap (map (λ (f : Edge). f.w)) (filter-append (is_end_of x) edges (e ∷ []) ∙ ap (λ (b : Bool). filter (is_end_of x) edges ++ cond b (e ∷ []) []) at)
    ∙ map-append (λ (f : Edge). f.w) (filter (is_end_of x) edges) (e ∷ [])

-- one more edge elsewhere
weights_in-off : (x : ℕ) (edges : List Edge) (e : Edge) → is_end_of x e ≡ false → weights_in x (edges ++ e ∷ []) ≡ weights_in x edges
weights_in-off x edges e off =
    ap (map (λ (f : Edge). f.w)) (filter-append (is_end_of x) edges (e ∷ []) ∙ ap (λ (b : Bool). filter (is_end_of x) edges ++ cond b (e ∷ []) []) off ∙ append-nil (filter (is_end_of x) edges))

-- the least weights among the first edges are noted
pub record AreLightestTo (g : WeightedGraph) (e : ℕ) (lightest : List (Option ℕ)) : Type 0 where
  pub one_each : length lightest ≡ g.n
  pub each : (x : ℕ) → x < g.n → get_or lightest x None ≡ least_if_any (weights_in x (take e g.edges))

-- none is noted yet
pub lightest_first : (g : WeightedGraph) (lightest : List (Option ℕ)) → lightest ≡ replicate g.n None → AreLightestTo g 0 lightest
lightest_first g lightest made = record {
  one_each = ap (λ (xs : List (Option ℕ)). length xs) made ∙ length-replicate g.n None;
  each = λ x h. ap (λ (xs : List (Option ℕ)). get_or xs x None) made ∙ get_or-replicate g.n x None None h;
}

-- an edge notes its weight at both ends
pub lightest_more : (g : WeightedGraph) (e : ℕ) (edge : Edge) (old mid new : List (Option ℕ)) → AreLightestTo g e old → slice_get g.edges e ≡ Some edge → JoinsTwo g.n edge →
    mid ≡ set old edge.u (lowered (get_or old edge.u None) edge.w) → new ≡ set mid edge.v (lowered (get_or mid edge.v None) edge.w) → AreLightestTo g (e + 1) new
lightest_more g e edge old mid new a at joins first second = record {
  one_each = new_long;
  each = noted;
}
  where
    mid_long : length mid ≡ g.n
    mid_long = ap (λ (xs : List (Option ℕ)). length xs) first ∙ length-set old edge.u (lowered (get_or old edge.u None) edge.w) ∙ a.one_each

    new_long : length new ≡ g.n
    new_long = ap (λ (xs : List (Option ℕ)). length xs) second ∙ length-set mid edge.v (lowered (get_or mid edge.v None) edge.w) ∙ mid_long

    longer : take (e + 1) g.edges ≡ take e g.edges ++ edge ∷ []
    longer =
        take_more g.edges e edge (slice_get_within g.edges e edge at)
        ∙ ap (λ (f : Edge). take e g.edges ++ f ∷ []) (get_or_from_slice_get g.edges e edge edge at)

    -- at an end one more weight is noted
    at_end : (x : ℕ) → x < g.n → is_end_of x edge ≡ true → get_or new x None ≡ lowered (get_or old x None) edge.w → get_or new x None ≡ least_if_any (weights_in x (take (e + 1) g.edges))
    at_end x h end low =
        low
        ∙ ap (λ (o : Option ℕ). lowered o edge.w) (a.each x h)
        ∙ sym (least_if_any-push (weights_in x (take e g.edges)) edge.w)
        ∙ ap least_if_any (sym (ap (weights_in x) longer ∙ weights_in-at x (take e g.edges) edge end))

    noted : (x : ℕ) → x < g.n → get_or new x None ≡ least_if_any (weights_in x (take (e + 1) g.edges))
    noted x h = elim (cases_eq x edge.v) [
      | inl level ↦ at_end x h (or_right (edge.u == x) (edge.v == x) (eq-eqb edge.v x (sym level)))
          (ap (λ (xs : List (Option ℕ)). get_or xs x None) second
          ∙ ap (λ (j : ℕ). get_or (set mid edge.v (lowered (get_or mid edge.v None) edge.w)) j None) level
          ∙ get_or-set_same mid edge.v (lowered (get_or mid edge.v None) edge.w) None (let long = mid_long in let within = joins.v in omega (arith, long, within))
          ∙ ap (λ (o : Option ℕ). lowered o edge.w)
          (ap (λ (xs : List (Option ℕ)). get_or xs edge.v None) first
          ∙ get_or-set_other old edge.u edge.v (lowered (get_or old edge.u None) edge.w) None (λ q. joins.apart (sym q))
          ∙ ap (λ (j : ℕ). get_or old j None) (sym level)))
      | inr unlike ↦ elim (cases_eq x edge.u) [
        | inl level ↦ at_end x h (or_left (edge.u == x) (edge.v == x) (eq-eqb edge.u x (sym level)))
            (ap (λ (xs : List (Option ℕ)). get_or xs x None) second
            ∙ get_or-set_other mid edge.v x (lowered (get_or mid edge.v None) edge.w) None unlike
            ∙ ap (λ (xs : List (Option ℕ)). get_or xs x None) first
            ∙ ap (λ (j : ℕ). get_or (set old edge.u (lowered (get_or old edge.u None) edge.w)) j None) level
            ∙ get_or-set_same old edge.u (lowered (get_or old edge.u None) edge.w) None (let long = a.one_each in let within = joins.u in omega (arith, long, within))
            ∙ ap (λ (j : ℕ). lowered (get_or old j None) edge.w) (sym level))
        | inr neither ↦
            ap (λ (xs : List (Option ℕ)). get_or xs x None) second
            ∙ get_or-set_other mid edge.v x (lowered (get_or mid edge.v None) edge.w) None unlike
            ∙ ap (λ (xs : List (Option ℕ)). get_or xs x None) first
            ∙ get_or-set_other old edge.u x (lowered (get_or old edge.u None) edge.w) None neither
            ∙ a.each x h
            ∙ ap least_if_any (sym (ap (weights_in x) longer
            ∙ weights_in-off x (take e g.edges) edge (or_from (edge.u == x) (edge.v == x) (ne_eqb edge.u x (λ q. neither (sym q))) (ne_eqb edge.v x (λ q. unlike (sym q))))))
      ]
    ]

-- all are noted
pub lightest_all : (g : WeightedGraph) (e : ℕ) (lightest : List (Option ℕ)) → e ≡ length g.edges → AreLightestTo g e lightest → AreLightest g lightest
lightest_all g e lightest all a = record {
  one_each = a.one_each;
  each = λ x h. a.each x h ∙ ap (λ (edges : List Edge). least_if_any (weights_in x edges)) (take_all e g.edges (omega arith));
}

-- one more floor
pub floors_more : (g : WeightedGraph) (x v : ℕ) (lightest : List (Option ℕ)) (floors new : List ℕ) → AreLightest g lightest → x < g.n → floors ≡ map (floor g) (range_with_len 0 x) →
    v ≡ unwrap_or (get_or lightest x None) 0 → new ≡ floors ++ v ∷ [] → new ≡ map (floor g) (range_with_len 0 (x + 1))
floors_more g x v lightest floors new a h so_far value pushed =
    pushed
    ∙ ap (λ (xs : List ℕ). xs ++ v ∷ []) so_far
    ∙ ap (λ (y : ℕ). map (floor g) (range_with_len 0 x) ++ y ∷ []) (value ∙ ap (λ (o : Option ℕ). unwrap_or o 0) (a.each x h) ∙ sym (least-any (weights_at g x)))
    ∙ sym (map-range_with_len_more (floor g) 0 x x (omega arith))
