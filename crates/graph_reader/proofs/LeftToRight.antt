-- The rules read from the left: a value or a fault that some tokens give, they give whatever stands behind them.
use Rattle.std.proofs.Common.{◌≡◌, ◌≢◌, ℕ, zero, suc, Bool, true, false, List, [], ◌∷◌, ◌++◌, refl, sym, ap, ◌∙◌, ◌⊎◌, inl, inr, append_assoc}
use Rattle.std.specs.Prelude.{Result, Ok, Err, replicate, if◌then◌else◌, nat_lt, ◌==◌}
use Rattle.hg_base.specs.Graph.{WeightedGraph}
use Rattle.hg_base.specs.declared.graph.Edge.{Edge}
use Rattle.hg_base.specs.declared.fault.FaultKind.TheVariants.{UnknownForm, BadNumber, Truncated, Trailing, OutOfRange, Loop, NoVertex}
use Rattle.hg_base.specs.declared.fault.InputFault.{InputFault}
use Rattle.input_tokens.specs.declared.token.Token.{Token}
use Rattle.input_tokens.specs.declared.token.Token.TheVariants.{Graph, GraphWithAreas, Number, Other}
use Rattle.input_tokens.specs.Tokens.{PlacedToken}
use Rattle.input_tokens.specs.Rules.{◌>>=◌, within_limit, number_read, fault}
use Rattle.input_tokens.proofs.PlacedFaults.{FaultsAt, at-ok, at-fault, at-then, at-either, at-most, IsRule, rule-number}
use Rattle.graph_reader.specs.EdgeList.{need, first_word, vertices, edges, area, first_end_read, second_end_read, weight_read, edge, several, areas, whole, graph}

rule-first_word : IsRule first_word
unfolding first_word
rule-first_word at Graph = at-ok at false
rule-first_word at GraphWithAreas = at-ok at true
rule-first_word at (Number n) = at-fault UnknownForm at 0 (λ e. cc)
rule-first_word at Other = at-fault UnknownForm at 0 (λ e. cc)

rule-vertices : IsRule vertices
unfolding vertices
rule-vertices at token = at-then at (number_read at token) (λ n. if n == 0 then fault NoVertex at 0 else within_limit 1048576 at n) (rule-number at token)
    (λ n. at-either at (n == 0) (fault NoVertex at 0) (within_limit 1048576 at n) (at-fault NoVertex at 0 (λ e. cc)) (at-most 1048576 at n))

rule-edges : IsRule edges
unfolding edges
rule-edges at token = at-then at (number_read at token) (λ m. within_limit 4194304 at m) (rule-number at token) (at-most 4194304 at)

rule-area : IsRule area
unfolding area
rule-area at token = at-then at (number_read at token) (λ a. if a == 0 then fault BadNumber at 0 else within_limit 4096 at a) (rule-number at token)
    (λ a. at-either at (a == 0) (fault BadNumber at 0) (within_limit 4096 at a) (at-fault BadNumber at 0 (λ e. cc)) (at-most 4096 at a))

rule-first_end : (n : ℕ) → IsRule (first_end_read n)
unfolding first_end_read
rule-first_end n at token = at-then at (number_read at token) (λ u. if nat_lt u n then Ok u else fault OutOfRange at u) (rule-number at token)
    (λ u. at-either at (nat_lt u n) (Ok u) (fault OutOfRange at u) (at-ok at u) (at-fault OutOfRange at u (λ e. cc)))

rule-second_end : (n u : ℕ) → IsRule (second_end_read n u)
unfolding second_end_read
rule-second_end n u at token = at-then at (first_end_read n at token) (λ v. if v == u then fault Loop at v else Ok v) (rule-first_end n at token)
    (λ v. at-either at (v == u) (fault Loop at v) (Ok v) (at-fault Loop at v (λ e. cc)) (at-ok at v))

rule-weight : IsRule weight_read
unfolding weight_read
rule-weight at token = at-then at (number_read at token) (λ w. within_limit 4294967295 at w) (rule-number at token) (at-most 4294967295 at)

-- what is read of the tokens of an input with this end
abbrev Reading : Type 0 → Type 0
Reading A = ℕ → List PlacedToken → Result A InputFault

-- the first tokens give a value, whatever stands behind them
record Reads {A : Type 0} (p : Reading (A × List PlacedToken)) (ts : List PlacedToken) : Type 0 where
  pub value : A
  pub used : List PlacedToken
  pub left : List PlacedToken
  pub split : ts ≡ used ++ left
  pub always : (end : ℕ) (more : List PlacedToken) → p end (used ++ more) ≡ Ok (value, more)

-- one token has a fault, whatever stands behind it
pub record Fails {A : Type 0} (p : Reading A) (ts : List PlacedToken) : Type 0 where
  pub front : List PlacedToken
  pub wrong : PlacedToken
  pub back : List PlacedToken
  pub found : InputFault
  pub split : ts ≡ front ++ wrong ∷ back
  pub at : found.at ≡ wrong.from
  pub kind : found.kind ≢ Truncated
  pub always : (end : ℕ) (more : List PlacedToken) → p end (front ++ wrong ∷ more) ≡ Err found

-- a token is missing
abbrev pub Stops : {A : Type 0} → Reading A → List PlacedToken → Type 0
Stops p ts = (end : ℕ) → p end ts ≡ fault Truncated end 0

abbrev Goes : {A : Type 0} → Reading (A × List PlacedToken) → List PlacedToken → Type 0
Goes p ts = Reads p ts ⊎ (Fails p ts ⊎ Stops p ts)

-- one reading, and then another one that depends on its value
abbrev thence : {A B : Type 0} → Reading (A × List PlacedToken) → (A → Reading B) → Reading B
thence p q end ts = p end ts >>= λ x. q x.0 end x.1

fails-first : {A B : Type 0} (p : Reading (A × List PlacedToken)) (q : A → Reading B) (ts : List PlacedToken) → Fails p ts → Fails (thence p q) ts
fails-first p q ts f = record {
  front = f.front;
  wrong = f.wrong;
  back = f.back;
  found = f.found;
  split = f.split;
  at = f.at;
  kind = f.kind;
  always = λ end more. rw (f.always end more) refl;
}

stops-first : {A B : Type 0} (p : Reading (A × List PlacedToken)) (q : A → Reading B) (ts : List PlacedToken) → Stops p ts → Stops (thence p q) ts
stops-first p q ts s end = rw (s end) refl

fails-then : {A B : Type 0} (p : Reading (A × List PlacedToken)) (q : A → Reading B) (ts : List PlacedToken)
    → (r : Reads p ts) → Fails (q r.value) r.left → Fails (thence p q) ts
fails-then p q ts r f = record {
  front = r.used ++ f.front;
  wrong = f.wrong;
  back = f.back;
  found = f.found;
  split = r.split ∙ ap (λ (more : List PlacedToken). r.used ++ more) f.split ∙ sym (append_assoc r.used f.front (f.wrong ∷ f.back));
  at = f.at;
  kind = f.kind;
  always = λ end more. rw (append_assoc r.used f.front (f.wrong ∷ more), r.always end (f.front ++ f.wrong ∷ more)) (f.always end more);
}

stops-then : {A B : Type 0} (p : Reading (A × List PlacedToken)) (q : A → Reading B) (ts : List PlacedToken)
    → (r : Reads p ts) → Stops (q r.value) r.left → Stops (thence p q) ts
stops-then p q ts r s end = rw (r.split, r.always end r.left) (s end)

reads-then : {A B : Type 0} (p : Reading (A × List PlacedToken)) (q : A → Reading (B × List PlacedToken)) (ts : List PlacedToken)
    → (r : Reads p ts) → Reads (q r.value) r.left → Reads (thence p q) ts
reads-then p q ts r s = record {
  value = s.value;
  used = r.used ++ s.used;
  left = s.left;
  split = r.split ∙ ap (λ (more : List PlacedToken). r.used ++ more) s.split ∙ sym (append_assoc r.used s.used s.left);
  always = λ end more. rw (append_assoc r.used s.used more, r.always end (s.used ++ more)) (s.always end more);
}

goes-second : {A B : Type 0} (p : Reading (A × List PlacedToken)) (q : A → Reading (B × List PlacedToken)) (ts : List PlacedToken)
    → (r : Reads p ts) → Goes (q r.value) r.left → Goes (thence p q) ts
goes-second p q ts r (inl s) = inl (reads-then p q ts r s)
goes-second p q ts r (inr (inl f)) = inr (inl (fails-then p q ts r f))
goes-second p q ts r (inr (inr s)) = inr (inr (stops-then p q ts r s))

goes-then : {A B : Type 0} (p : Reading (A × List PlacedToken)) (q : A → Reading (B × List PlacedToken)) (ts : List PlacedToken)
    → Goes p ts → ((x : A) (more : List PlacedToken) → Goes (q x) more) → Goes (thence p q) ts
goes-then p q ts (inl r) others = goes-second p q ts r (others r.value r.left)
goes-then p q ts (inr (inl f)) others = inr (inl (fails-first p q ts f))
goes-then p q ts (inr (inr s)) others = inr (inr (stops-first p q ts s))

abbrev given : {A : Type 0} → A → Reading (A × List PlacedToken)
given x end ts = Ok (x, ts)

goes-given : {A : Type 0} (x : A) (ts : List PlacedToken) → Goes (given x) ts
goes-given x ts = inl (record { value = x; used = []; left = ts; split = refl; always = λ end more. refl })

abbrev needs : {A : Type 0} → (ℕ → Token → Result A InputFault) → Reading (A × List PlacedToken)
needs rule end ts = need end rule ts

goes-token : {A : Type 0} (rule : ℕ → Token → Result A InputFault) (t : PlacedToken) (ts : List PlacedToken) (r : Result A InputFault)
    → rule t.from t.token ≡ r → FaultsAt t.from r → Goes (needs rule) (t ∷ ts)
goes-token rule t ts (Ok x) e h = inl (record { value = x; used = t ∷ []; left = ts; split = refl; always = λ end more. rw e refl })
goes-token rule t ts (Err f) e h = inr (inl (record {
  front = [];
  wrong = t;
  back = ts;
  found = f;
  split = refl;
  at = (h f refl).0;
  kind = (h f refl).1;
  always = λ end more. rw e refl;
}))

goes-need : {A : Type 0} (rule : ℕ → Token → Result A InputFault) → IsRule rule → (ts : List PlacedToken) → Goes (needs rule) ts
goes-need rule h [] = inr (inr (λ end. refl))
goes-need rule h (t ∷ ts) = goes-token rule t ts (rule t.from t.token) refl (h t.from t.token)

abbrev many : {A : Type 0} → ℕ → Reading (A × List PlacedToken) → Reading (List A × List PlacedToken)
many k one end ts = several k (one end) ts

goes-several : {A : Type 0} (k : ℕ) (one : Reading (A × List PlacedToken)) → ((ts : List PlacedToken) → Goes one ts) → (ts : List PlacedToken) → Goes (many k one) ts
unfolding several
goes-several zero one h ts = goes-given [] ts
goes-several (suc k) one h ts =
    goes-then one (λ x. thence (many k one) (λ xs. given (x ∷ xs))) ts (h ts)
    (λ x more. goes-then (many k one) (λ xs. given (x ∷ xs)) more (goes-several k one h more) (λ xs. goes-given (x ∷ xs)))

abbrev edges_of : ℕ → Reading (Edge × List PlacedToken)
edges_of n end ts = edge n end ts

goes-edge : (n : ℕ) (ts : List PlacedToken) → Goes (edges_of n) ts
unfolding edge
goes-edge n ts =
    goes-then (needs (first_end_read n)) (λ u. thence (needs (second_end_read n u)) (λ v. thence (needs weight_read) (λ w. given (record { u = u; v = v; w = w })))) ts
    (goes-need (first_end_read n) (rule-first_end n) ts)
    (λ u more. goes-then (needs (second_end_read n u)) (λ v. thence (needs weight_read) (λ w. given (record { u = u; v = v; w = w }))) more
    (goes-need (second_end_read n u) (rule-second_end n u) more)
    (λ v more. goes-then (needs weight_read) (λ w. given (record { u = u; v = v; w = w })) more (goes-need weight_read rule-weight more)
    (λ w more. goes-given (record { u = u; v = v; w = w }) more)))

abbrev areas_of : Bool → ℕ → Reading (List ℕ × List PlacedToken)
areas_of with_areas n end ts = areas with_areas n end ts

goes-areas : (with_areas : Bool) (n : ℕ) (ts : List PlacedToken) → Goes (areas_of with_areas n) ts
goes-areas true n ts = goes-several n (needs area) (goes-need area rule-area) ts
goes-areas false n ts = goes-given (replicate n 1) ts

-- the tokens are all read, or one of them is wrong, or one is missing
abbrev pub Ends : Reading WeightedGraph → List PlacedToken → Type 0
Ends p ts = ((end : ℕ) → (g : WeightedGraph) × (p end ts ≡ Ok g)) ⊎ (Fails p ts ⊎ Stops p ts)

ends-second : {A : Type 0} (p : Reading (A × List PlacedToken)) (q : A → Reading WeightedGraph) (ts : List PlacedToken)
    → (r : Reads p ts) → Ends (q r.value) r.left → Ends (thence p q) ts
ends-second p q ts r (inl s) = inl (λ end. ((s end).0, rw (r.split, r.always end r.left) (s end).1))
ends-second p q ts r (inr (inl f)) = inr (inl (fails-then p q ts r f))
ends-second p q ts r (inr (inr s)) = inr (inr (stops-then p q ts r s))

ends-then : {A : Type 0} (p : Reading (A × List PlacedToken)) (q : A → Reading WeightedGraph) (ts : List PlacedToken)
    → Goes p ts → ((x : A) (more : List PlacedToken) → Ends (q x) more) → Ends (thence p q) ts
ends-then p q ts (inl r) others = ends-second p q ts r (others r.value r.left)
ends-then p q ts (inr (inl f)) others = inr (inl (fails-first p q ts f))
ends-then p q ts (inr (inr s)) others = inr (inr (stops-first p q ts s))

abbrev whole_of : WeightedGraph → Reading WeightedGraph
whole_of g end ts = whole g ts

ends-whole : (g : WeightedGraph) (ts : List PlacedToken) → Ends (whole_of g) ts
ends-whole g [] = inl (λ end. (g, refl))
ends-whole g (t ∷ ts) = inr (inl (record {
  front = [];
  wrong = t;
  back = ts;
  found = record { kind = Trailing; at = t.from; value = 0 };
  split = refl;
  at = refl;
  kind = λ e. cc;
  always = λ end more. refl;
}))

abbrev with_edges : ℕ → ℕ → List ℕ → Reading WeightedGraph
with_edges n m a = thence (many m (edges_of n)) (λ e. whole_of (record { n = n; areas = a; edges = e }))

abbrev with_counts : Bool → ℕ → ℕ → Reading WeightedGraph
with_counts with_areas n m = thence (areas_of with_areas n) (with_edges n m)

-- what follows the first word
abbrev after_word : Bool → Reading WeightedGraph
after_word with_areas = thence (needs vertices) (λ n. thence (needs edges) (with_counts with_areas n))

ends-counts : (with_areas : Bool) (n m : ℕ) (ts : List PlacedToken) → Ends (with_counts with_areas n m) ts
ends-counts with_areas n m ts =
    ends-then (areas_of with_areas n) (with_edges n m) ts (goes-areas with_areas n ts)
    (λ a more. ends-then (many m (edges_of n)) (λ e. whole_of (record { n = n; areas = a; edges = e })) more (goes-several m (edges_of n) (goes-edge n) more)
    (λ e. ends-whole (record { n = n; areas = a; edges = e })))

ends-after : (with_areas : Bool) (ts : List PlacedToken) → Ends (after_word with_areas) ts
ends-after with_areas ts =
    ends-then (needs vertices) (λ n. thence (needs edges) (with_counts with_areas n)) ts (goes-need vertices rule-vertices ts)
    (λ n more. ends-then (needs edges) (with_counts with_areas n) more (goes-need edges rule-edges more) (ends-counts with_areas n))

ends-word : (t : PlacedToken) (ts : List PlacedToken) (r : Result Bool InputFault) → first_word t.from t.token ≡ r → FaultsAt t.from r
    → Ends graph (t ∷ ts)
unfolding graph
ends-word t ts (Ok with_areas) e h = ends-behind (ends-after with_areas ts)
  where
    ends-behind : Ends (after_word with_areas) ts → Ends graph (t ∷ ts)
    ends-behind (inl s) = inl (λ end. ((s end).0, rw e (s end).1))
    ends-behind (inr (inl f)) = inr (inl (record {
      front = t ∷ f.front;
      wrong = f.wrong;
      back = f.back;
      found = f.found;
      split = ap (λ (more : List PlacedToken). t ∷ more) f.split;
      at = f.at;
      kind = f.kind;
      always = λ end more. rw e (f.always end more);
    }))
    ends-behind (inr (inr s)) = inr (inr (λ end. rw e (s end)))
ends-word t ts (Err f) e h = inr (inl (record {
  front = [];
  wrong = t;
  back = ts;
  found = f;
  split = refl;
  at = (h f refl).0;
  kind = (h f refl).1;
  always = λ end more. rw e refl;
}))

-- where there is some token, all tokens make a graph, or one of them is wrong, or one is missing
pub ends-graph : (t : PlacedToken) (ts : List PlacedToken) → Ends graph (t ∷ ts)
ends-graph t ts = ends-word t ts (first_word t.from t.token) refl (rule-first_word t.from t.token)

-- without any token the form is unknown
pub graph-nothing : (end : ℕ) → graph end [] ≡ fault UnknownForm end 0
unfolding graph
graph-nothing end = refl
