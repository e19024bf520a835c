-- No fault of an edge list is that the input is too long.
use Rattle.std.proofs.Common.{◌≢◌, ℕ, zero, suc, Bool, true, false, List, [], ◌∷◌, length}
use Rattle.std.specs.Prelude.{Result, Ok, Err, if◌then◌else◌, nat_lt, ◌==◌}
use Rattle.hg_base.specs.Graph.{WeightedGraph}
use Rattle.hg_base.specs.declared.graph.Edge.{Edge}
use Rattle.hg_base.specs.declared.fault.FaultKind.TheVariants.{UnknownForm, BadNumber, TooLarge, Truncated, OutOfRange, Loop, NoVertex, TooLong}
use Rattle.hg_base.specs.declared.fault.InputFault.{InputFault}
use Rattle.input_tokens.specs.declared.token.Token.{Token}
use Rattle.input_tokens.specs.declared.token.Token.TheVariants.{Graph, GraphWithAreas, Number, Other}
use Rattle.input_tokens.specs.Tokens.{PlacedToken, tokens}
use Rattle.input_tokens.specs.Rules.{◌>>=◌, within_limit, fault, number_read}
use Rattle.graph_reader.specs.EdgeList.{area, areas, edge, edge_list, edges, first_end_read, first_word, graph, need, next_token, second_end_read, several, vertices, weight_read, whole}

-- what was read isn't an input that is too long
abbrev pub IsShort : {A : Type 0} → Result A InputFault → Type 0
IsShort (Ok x) = Unit {0}
IsShort (Err f) = f.kind ≢ TooLong

pub short-then : {A B : Type 0} (r : Result A InputFault) (after : A → Result B InputFault) → IsShort r → ((x : A) → IsShort (after x)) → IsShort (r >>= after)
short-then (Ok x) after first others = others x
short-then (Err f) after first others = first

pub short-either : {A : Type 0} (b : Bool) (x y : Result A InputFault) → IsShort x → IsShort y → IsShort (if b then x else y)
short-either true x y p q = p
short-either false x y p q = q

pub short-most : (limit at n : ℕ) → IsShort (within_limit limit at n)
short-most limit at n = short-either (nat_lt limit n) (fault TooLarge at n) (Ok n) (λ e. cc) tt

-- a rule's faults are others
abbrev pub IsRule : {A : Type 0} → (ℕ → Token → Result A InputFault) → Type 0
IsRule rule = (at : ℕ) (token : Token) → IsShort (rule at token)

rule-first_word : IsRule first_word
unfolding first_word
rule-first_word at Graph = tt
rule-first_word at GraphWithAreas = tt
rule-first_word at (Number n) = λ e. cc
rule-first_word at Other = λ e. cc

pub rule-number : IsRule number_read
unfolding number_read
rule-number at (Number n) = tt
rule-number at Graph = λ e. cc
rule-number at GraphWithAreas = λ e. cc
rule-number at Other = λ e. cc

rule-vertices : IsRule vertices
unfolding vertices
rule-vertices at token = short-then (number_read at token) (λ n. if n == 0 then fault NoVertex at 0 else within_limit 1048576 at n) (rule-number at token)
    (λ n. short-either (n == 0) (fault NoVertex at 0) (within_limit 1048576 at n) (λ e. cc) (short-most 1048576 at n))

rule-edges : IsRule edges
unfolding edges
rule-edges at token = short-then (number_read at token) (λ m. within_limit 4194304 at m) (rule-number at token) (short-most 4194304 at)

rule-area : IsRule area
unfolding area
rule-area at token = short-then (number_read at token) (λ a. if a == 0 then fault BadNumber at 0 else within_limit 4096 at a) (rule-number at token)
    (λ a. short-either (a == 0) (fault BadNumber at 0) (within_limit 4096 at a) (λ e. cc) (short-most 4096 at a))

rule-first_end : (n : ℕ) → IsRule (first_end_read n)
unfolding first_end_read
rule-first_end n at token = short-then (number_read at token) (λ u. if nat_lt u n then Ok u else fault OutOfRange at u) (rule-number at token)
    (λ u. short-either (nat_lt u n) (Ok u) (fault OutOfRange at u) tt (λ e. cc))

rule-second_end : (n u : ℕ) → IsRule (second_end_read n u)
unfolding second_end_read
rule-second_end n u at token = short-then (first_end_read n at token) (λ v. if v == u then fault Loop at v else Ok v) (rule-first_end n at token)
    (λ v. short-either (v == u) (fault Loop at v) (Ok v) (λ e. cc) tt)

rule-weight : IsRule weight_read
unfolding weight_read
rule-weight at token = short-then (number_read at token) (λ w. within_limit 4294967295 at w) (rule-number at token) (short-most 4294967295 at)

-- so are those of the next token
short-next : {A : Type 0} (missing : Result (A × List PlacedToken) InputFault) (rule : ℕ → Token → Result A InputFault) (ts : List PlacedToken) → IsShort missing → IsRule rule → IsShort (next_token missing rule ts)
short-next missing rule [] none each = none
short-next {A} missing rule (t ∷ ts) none each =
    let after : A → Result (A × List PlacedToken) InputFault = λ x. Ok (x, ts) in
    short-then (rule t.from t.token) after (each t.from t.token) (λ x. tt)

short-need : {A : Type 0} (end : ℕ) (rule : ℕ → Token → Result A InputFault) (ts : List PlacedToken) → IsRule rule → IsShort (need end rule ts)
short-need end rule ts each = short-next (fault Truncated end 0) rule ts (λ e. cc) each

-- and those of several readings
short-several : {A : Type 0} (k : ℕ) (one : List PlacedToken → Result (A × List PlacedToken) InputFault) (ts : List PlacedToken) → ((us : List PlacedToken) → IsShort (one us)) → IsShort (several k one ts)
unfolding several
short-several zero one ts each = tt
short-several {A} (suc k) one ts each =
    let last : A → List A × List PlacedToken → Result (List A × List PlacedToken) InputFault = λ x xs. Ok (x ∷ xs.0, xs.1) in
    short-then (one ts) (λ x. several k one x.1 >>= last x.0) (each ts) (λ x. short-then (several k one x.1) (last x.0) (short-several k one x.1 each) (λ xs. tt))

short-edge : (n end : ℕ) (ts : List PlacedToken) → IsShort (edge n end ts)
unfolding edge
short-edge n end ts =
    let last : ℕ → ℕ → ℕ × List PlacedToken → Result (Edge × List PlacedToken) InputFault = λ u v w. Ok (record { u = u; v = v; w = w.0 }, w.1) in
    let second : ℕ → ℕ × List PlacedToken → Result (Edge × List PlacedToken) InputFault = λ u v. need end weight_read v.1 >>= last u v.0 in
    short-then (need end (first_end_read n) ts) (λ u. need end (second_end_read n u.0) u.1 >>= second u.0) (short-need end (first_end_read n) ts (rule-first_end n))
    (λ u. short-then (need end (second_end_read n u.0) u.1) (second u.0) (short-need end (second_end_read n u.0) u.1 (rule-second_end n u.0))
    (λ v. short-then (need end weight_read v.1) (last u.0 v.0) (short-need end weight_read v.1 rule-weight) (λ w. tt)))

short-areas : (b : Bool) (n end : ℕ) (ts : List PlacedToken) → IsShort (areas b n end ts)
short-areas true n end ts = short-several n (need end area) ts (λ us. short-need end area us rule-area)
short-areas false n end ts = tt

short-whole : (g : WeightedGraph) (ts : List PlacedToken) → IsShort (whole g ts)
short-whole g [] = tt
short-whole g (t ∷ ts) = λ e. cc

short-graph : (end : ℕ) (ts : List PlacedToken) → IsShort (graph end ts)
unfolding graph
short-graph end ts =
    let last : ℕ → List ℕ → List Edge × List PlacedToken → Result WeightedGraph InputFault = λ n a e. whole (record { n = n; areas = a; edges = e.0 }) e.1 in
    let listed : ℕ → ℕ → List ℕ × List PlacedToken → Result WeightedGraph InputFault = λ n m a. several m (edge n end) a.1 >>= last n a.0 in
    let header : Bool → ℕ → ℕ × List PlacedToken → Result WeightedGraph InputFault = λ b n m. areas b n end m.1 >>= listed n m.0 in
    let counted : Bool → ℕ × List PlacedToken → Result WeightedGraph InputFault = λ b n. need end edges n.1 >>= header b n.0 in
    short-then (next_token (fault UnknownForm end 0) first_word ts) (λ w. need end vertices w.1 >>= counted w.0) (short-next (fault UnknownForm end 0) first_word ts (λ e. cc) rule-first_word)
    (λ w. short-then (need end vertices w.1) (counted w.0) (short-need end vertices w.1 rule-vertices)
    (λ n. short-then (need end edges n.1) (header w.0 n.0) (short-need end edges n.1 rule-edges)
    (λ m. short-then (areas w.0 n.0 end m.1) (listed n.0 m.0) (short-areas w.0 n.0 end m.1)
    (λ a. short-then (several m.0 (edge n.0 end) a.1) (last n.0 a.0) (short-several m.0 (edge n.0 end) a.1 (short-edge n.0 end)) (λ e. short-whole _ e.1)))))

pub short-edge_list : (bytes : List ℕ) → IsShort (edge_list bytes)
unfolding edge_list
short-edge_list bytes = short-graph (length bytes) (tokens bytes)
