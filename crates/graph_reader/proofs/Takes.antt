-- What taking a token makes of the tokens to come.
use Rattle.std.proofs.Common.{◌≡◌, ℕ, suc, ◌+◌, ◌-◌, ◌<◌, ◌≤◌, Bool, true, false, not, List, [], ◌∷◌, ◌++◌, length, refl, inl, inr, ◌⊎◌, arith, length-append}
use Rattle.std.specs.Prelude.{Ok, replicate, if◌then◌else◌}
use Rattle.hg_base.specs.declared.graph.Edge.{Edge}
use Rattle.hg_base.specs.declared.fault.FaultKind.TheVariants as kinds
use Rattle.input_tokens.specs.declared.token.Token.{Token}
use Rattle.input_tokens.specs.declared.token.Found.{Found}
use Rattle.graph_reader.specs.declared.parser.Stage.TheVariants as stages
use Rattle.graph_reader.specs.declared.parser.Parser.TheInside.{Inside}
use Rattle.graph_reader.specs.ParserFields.{parsing_of, Keeps}
use Rattle.input_tokens.specs.Rules.{◌>>=◌, fault}
use Rattle.graph_reader.specs.EdgeList.{need, several, area, first_end_read, second_end_read, weight_read, edges, edge, whole}
use Rattle.graph_reader.specs.Parsing.{Takes, TakesThree, reading, reading_at, is_out_of_memory, settling}
use Rattle.graph_reader.proofs.Chains.{areas-step, more_edges-step, several-missing}

left : (n k : ℕ) → k < n → n - k ≡ suc (n - (k + 1))
left n k h = omega arith

length-more : {A : Type 0} (xs : List A) (x : A) → length (xs ++ x ∷ []) ≡ length xs + 1
length-more xs x = rw length-append refl

pub takes-area : (with_areas : Bool) (n m a at : ℕ) (known : List ℕ) (es : List Edge) (token : Token)
    → length known < n → area at token ≡ Ok a
    → Takes (record { stage = stages.Area; with_areas = with_areas; n = n; m = m; areas = known; edges = es })
    (record { stage = stages.Area; with_areas = with_areas; n = n; m = m; areas = known ++ a ∷ []; edges = es }) at token
unfolding reading_at settling
takes-area with_areas n m a at known es token h ok = record {
  reading = λ memory to end ts.
      rw (length-more known a)
      (areas-step (λ all rest. several m (edge n end) rest >>= λ e. whole (record { n = n; areas = all; edges = e.0 }) e.1) known (n - length known) (n - (length known + 1)) end
      (record { from = at; to = to; token = token }) ts a (left n (length known) h) ok);
  settling = λ to ts. refl;
  memory = λ counting. refl;
}

pub takes-first_end : (with_areas : Bool) (n m u at : ℕ) (known : List ℕ) (es : List Edge) (token : Token)
    → length es < m → first_end_read n at token ≡ Ok u
    → Takes (record { stage = stages.FirstEnd; with_areas = with_areas; n = n; m = m; areas = known; edges = es })
    (record { stage = stages.SecondEnd u; with_areas = with_areas; n = n; m = m; areas = known; edges = es }) at token
unfolding reading_at settling
takes-first_end with_areas n m u at known es token h ok = record {
  reading = λ memory to end ts.
      more_edges-step (record { n = n; areas = if with_areas then known else replicate n 1; edges = es }) (m - length es) (m - (length es + 1)) end
      (record { from = at; to = to; token = token }) ts u (left m (length es) h) ok;
  settling = λ to ts. refl;
  memory = λ counting. refl;
}

takes-second_end : (with_areas : Bool) (n m u v at : ℕ) (known : List ℕ) (es : List Edge) (token : Token) → second_end_read n u at token ≡ Ok v
    → Takes (record { stage = stages.SecondEnd u; with_areas = with_areas; n = n; m = m; areas = known; edges = es })
    (record { stage = stages.Weight u v; with_areas = with_areas; n = n; m = m; areas = known; edges = es }) at token
unfolding reading_at settling
takes-second_end with_areas n m u v at known es token ok = record {
  reading = λ memory to end ts. rw ok refl;
  settling = λ to ts. refl;
  memory = λ counting. refl;
}

takes-weight : (with_areas : Bool) (n m u v w at : ℕ) (known : List ℕ) (es : List Edge) (token : Token) → weight_read at token ≡ Ok w
    → Takes (record { stage = stages.Weight u v; with_areas = with_areas; n = n; m = m; areas = known; edges = es })
    (record { stage = stages.FirstEnd; with_areas = with_areas; n = n; m = m; areas = known; edges = es ++ record { u = u; v = v; w = w } ∷ [] }) at token
unfolding reading_at settling
takes-weight with_areas n m u v w at known es token ok =
    let e : Edge = record { u = u; v = v; w = w } in
    record {
      reading = λ memory to end ts. rw (ok, length-more es e) refl;
      settling = λ to ts. refl;
      memory = λ counting. refl;
    }

-- the three tokens of an edge
pub takes-edge : (with_areas : Bool) (n m : ℕ) (known : List ℕ) (es : List Edge) (u v w : Found) (e : Edge)
    → length es < m → first_end_read n u.at u.token ≡ Ok e.u → second_end_read n e.u v.at v.token ≡ Ok e.v → weight_read w.at w.token ≡ Ok e.w
    → TakesThree (record { stage = stages.FirstEnd; with_areas = with_areas; n = n; m = m; areas = known; edges = es })
    (record { stage = stages.FirstEnd; with_areas = with_areas; n = n; m = m; areas = known; edges = es ++ e ∷ [] }) u v w
takes-edge with_areas n m known es u v w e left first second weighs = record {
  first = record { stage = stages.SecondEnd e.u; with_areas = with_areas; n = n; m = m; areas = known; edges = es };
  second = record { stage = stages.Weight e.u e.v; with_areas = with_areas; n = n; m = m; areas = known; edges = es };
  one = takes-first_end with_areas n m e.u u.at known es u.token left first;
  two = takes-second_end with_areas n m e.u e.v v.at known es v.token second;
  three = takes-weight with_areas n m e.u e.v e.w w.at known es w.token weighs;
}

pub not-false : (b : Bool) → not b ≡ false → b ≡ true
not-false true e = refl
not-false false e = cc

-- where the number of edges comes last, and edges or areas are wanted, the input ends too early
pub count-last : (with_areas : Bool) (n m before at to end : ℕ) (known : List ℕ) (es : List Edge) (token : Token)
    → 1 ≤ n → edges at token ≡ Ok m → ((with_areas ≡ true) ⊎ (0 < m))
    → reading (record { stage = stages.Edges; with_areas = with_areas; n = n; m = before; areas = known; edges = es }) end (record { from = at; to = to; token = token } ∷ [])
    ≡ fault kinds.Truncated end 0
unfolding reading_at edge
count-last true n m before at to end known es token h ok wanted = rw (ok, several-missing (need end area) n (record { kind = kinds.Truncated; at = end; value = 0 }) h refl) refl
count-last false n m before at to end known es token h ok (inl e) = cc
count-last false n m before at to end known es token h ok (inr k) = rw (ok, several-missing (edge n end) m (record { kind = kinds.Truncated; at = end; value = 0 }) k refl) refl

-- where an input ends before the graph is whole, it ends too early
pub unfinished : (p : Inside) (end : ℕ) → Keeps p
    → ((p.stage ≡ stages.Vertices) ⊎ ((p.stage ≡ stages.Edges) ⊎ ((p.stage ≡ stages.Area)
    ⊎ (((u : ℕ) × (p.stage ≡ stages.SecondEnd u)) ⊎ ((u : ℕ) × (v : ℕ) × (p.stage ≡ stages.Weight u v))))))
    → (reading (parsing_of p) end [] ≡ fault kinds.Truncated end 0) × (is_out_of_memory p.stage ≡ false)
unfolding reading_at
unfinished p end keeps (inl e) = rw e (refl, refl)
unfinished p end keeps (inr (inl e)) = rw e (refl, refl)
unfinished p end keeps (inr (inr (inl e))) =
    let k = rw e at keeps in
    let some : 0 < p.n - length p.areas.items = omega (arith, k.areas_left) in
    rw e (rw (several-missing (need end area) (p.n - length p.areas.items) (record { kind = kinds.Truncated; at = end; value = 0 }) some refl) refl, refl)
unfinished p end keeps (inr (inr (inr (inl e)))) = rw e.1 (refl, refl)
unfinished p end keeps (inr (inr (inr (inr e)))) = rw e.2 (refl, refl)
