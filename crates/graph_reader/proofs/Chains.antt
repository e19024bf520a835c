-- One token of a chain of rules at a time.
use Rattle.std.proofs.Common.{◌≡◌, ℕ, zero, suc, ◌<◌, List, [], ◌∷◌, ◌++◌, refl, arith, append_assoc}
use Rattle.std.specs.Prelude.{Result, Ok, Err}
use Rattle.hg_base.specs.Graph.{WeightedGraph}
use Rattle.hg_base.specs.declared.graph.Edge.{Edge}
use Rattle.hg_base.specs.declared.fault.FaultKind.TheVariants.{Truncated}
use Rattle.hg_base.specs.declared.fault.InputFault.{InputFault}
use Rattle.input_tokens.specs.Tokens.{PlacedToken}
use Rattle.input_tokens.specs.Rules.{◌>>=◌, fault}
use Rattle.graph_reader.specs.EdgeList.{need, several, area, first_end_read, second_end_read, weight_read, edge, whole}
use Rattle.graph_reader.specs.Parsing.{more_edges}

abbrev joined : {A : Type 0} → A → List A × List PlacedToken → Result (List A × List PlacedToken) InputFault
joined x xs = Ok (x ∷ xs.0, xs.1)

abbrev edge_of : ℕ → ℕ → ℕ × List PlacedToken → Result (Edge × List PlacedToken) InputFault
edge_of u v w = Ok (record { u = u; v = v; w = w.0 }, w.1)

-- where some are left and there is no token, the first that is missing is the fault
pub several-missing : {A : Type 0} (one : List PlacedToken → Result (A × List PlacedToken) InputFault) (k : ℕ) (e : InputFault)
    → 0 < k → one [] ≡ Err e → several k one [] ≡ Err e
unfolding several
several-missing one zero e h m = absurd (omega arith)
several-missing one (suc k) e h m = rw m refl

pub more_edges-missing : (g : WeightedGraph) (k end : ℕ) → 0 < k → more_edges g k end [] ≡ fault Truncated end 0
unfolding edge
more_edges-missing g k end h = rw (several-missing (edge g.n end) k (record { kind = Truncated; at = end; value = 0 }) h refl) refl

area-first : (F : List ℕ → List PlacedToken → Result WeightedGraph InputFault) (known : List ℕ) (a : ℕ) (r : Result (List ℕ × List PlacedToken) InputFault)
    → (r >>= λ x. F ((known ++ a ∷ []) ++ x.0) x.1) ≡ ((r >>= joined a) >>= λ x. F (known ++ x.0) x.1)
area-first F known a (Ok x) = rw append_assoc refl
area-first F known a (Err f) = refl

-- an area that was read stands before the areas to come
pub areas-step : (F : List ℕ → List PlacedToken → Result WeightedGraph InputFault) (known : List ℕ) (k j end : ℕ) (t : PlacedToken) (ts : List PlacedToken) (a : ℕ)
    → k ≡ suc j → area t.from t.token ≡ Ok a
    → (several j (need end area) ts >>= λ x. F ((known ++ a ∷ []) ++ x.0) x.1) ≡ (several k (need end area) (t ∷ ts) >>= λ x. F (known ++ x.0) x.1)
unfolding several
areas-step F known k j end t ts a e ok = rw (e, ok) (area-first F known a (several j (need end area) ts))

-- the graph with one edge more
abbrev extended : WeightedGraph → Edge → WeightedGraph
extended g e = record { n = g.n; areas = g.areas; edges = g.edges ++ e ∷ [] }

edge-first : (g : WeightedGraph) (e : Edge) (r : Result (List Edge × List PlacedToken) InputFault)
    → (r >>= λ x. whole (record { n = g.n; areas = g.areas; edges = (g.edges ++ e ∷ []) ++ x.0 }) x.1)
    ≡ ((r >>= joined e) >>= λ x. whole (record { n = g.n; areas = g.areas; edges = g.edges ++ x.0 }) x.1)
edge-first g e (Ok x) = rw append_assoc refl
edge-first g e (Err f) = refl

weight-first : (g : WeightedGraph) (j end u v : ℕ) (r : Result (ℕ × List PlacedToken) InputFault)
    → (r >>= λ w. more_edges (extended g (record { u = u; v = v; w = w.0 })) j end w.1)
    ≡ (((r >>= edge_of u v) >>= λ x. (several j (edge g.n end) x.1 >>= joined x.0))
    >>= λ e. whole (record { n = g.n; areas = g.areas; edges = g.edges ++ e.0 }) e.1)
weight-first g j end u v (Ok w) = edge-first g (record { u = u; v = v; w = w.0 }) (several j (edge g.n end) w.1)
weight-first g j end u v (Err f) = refl

second_end-first : (g : WeightedGraph) (j end u : ℕ) (r : Result (ℕ × List PlacedToken) InputFault)
    → (r >>= λ v. (need end weight_read v.1 >>= λ w. more_edges (extended g (record { u = u; v = v.0; w = w.0 })) j end w.1))
    ≡ (((r >>= λ v. (need end weight_read v.1 >>= edge_of u v.0)) >>= λ x. (several j (edge g.n end) x.1 >>= joined x.0))
    >>= λ e. whole (record { n = g.n; areas = g.areas; edges = g.edges ++ e.0 }) e.1)
second_end-first g j end u (Ok v) = weight-first g j end u v.0 (need end weight_read v.1)
second_end-first g j end u (Err f) = refl

-- the first end of the next edge was read
pub more_edges-step : (g : WeightedGraph) (k j end : ℕ) (t : PlacedToken) (ts : List PlacedToken) (u : ℕ)
    → k ≡ suc j → first_end_read g.n t.from t.token ≡ Ok u
    → (need end (second_end_read g.n u) ts >>= λ v. (need end weight_read v.1 >>= λ w. more_edges (extended g (record { u = u; v = v.0; w = w.0 })) j end w.1))
    ≡ more_edges g k end (t ∷ ts)
unfolding several edge
more_edges-step g k j end t ts u e ok = rw (e, ok) (second_end-first g j end u (need end (second_end_read g.n u) ts))
