-- The grammar of edge lists: one rule for each token, and the first fault from the left.
use Rattle.std.specs.Prelude.{ℕ, zero, suc, Bool, true, false, ◌||◌, ◌==◌, nat_lt, if◌then◌else◌, List, [], ◌∷◌, length, replicate, Result, Ok, is_err}
use Rattle.hg_base.specs.Graph.{WeightedGraph}
use Rattle.hg_base.specs.declared.graph.Edge.{Edge}
use Rattle.hg_base.specs.declared.fault.FaultKind.TheVariants.{UnknownForm, BadNumber, Truncated, Trailing, OutOfRange, Loop, NoVertex}
use Rattle.hg_base.specs.declared.fault.InputFault.{InputFault}
use Rattle.input_tokens.specs.declared.token.Token.{Token}
use Rattle.input_tokens.specs.declared.token.Token.TheVariants.{Graph, GraphWithAreas, Number, Other}
use Rattle.input_tokens.specs.Tokens.{PlacedToken, tokens, ended}
use Rattle.input_tokens.specs.Rules.{◌>>=◌, fault, number_read, within_limit}

-- A rule says what a token at a place gives.

-- the first word, and whether areas follow
unfoldable pub first_word : ℕ → Token → Result Bool InputFault
first_word at Graph = Ok false
first_word at GraphWithAreas = Ok true
first_word at (Number n) = fault UnknownForm at 0
first_word at Other = fault UnknownForm at 0

unfoldable pub vertices : ℕ → Token → Result ℕ InputFault
vertices at token = do
  n ← number_read at token
  if n == 0 then fault NoVertex at 0 else within_limit 1048576 at n

unfoldable pub edges : ℕ → Token → Result ℕ InputFault
edges at token = do
  m ← number_read at token
  within_limit 4194304 at m

unfoldable pub area : ℕ → Token → Result ℕ InputFault
area at token = do
  a ← number_read at token
  if a == 0 then fault BadNumber at 0 else within_limit 4096 at a

unfoldable pub first_end_read : ℕ → ℕ → Token → Result ℕ InputFault
first_end_read n at token = do
  u ← number_read at token
  if nat_lt u n then Ok u else fault OutOfRange at u

unfoldable pub second_end_read : ℕ → ℕ → ℕ → Token → Result ℕ InputFault
second_end_read n u at token = do
  v ← first_end_read n at token
  if v == u then fault Loop at v else Ok v

unfoldable pub weight_read : ℕ → Token → Result ℕ InputFault
weight_read at token = do
  w ← number_read at token
  within_limit 4294967295 at w

-- the next token by its rule, and the tokens after it; missing is the fault where there is none
abbrev pub next_token : {A : Type 0} → Result (A × List PlacedToken) InputFault → (ℕ → Token → Result A InputFault) → List PlacedToken → Result (A × List PlacedToken) InputFault
next_token missing rule [] = missing
next_token missing rule (t ∷ ts) = do
  x ← rule t.from t.token
  Ok (x, ts)

-- the next token of an input that ends at this place
abbrev pub need : {A : Type 0} → ℕ → (ℕ → Token → Result A InputFault) → List PlacedToken → Result (A × List PlacedToken) InputFault
need end rule ts = next_token (fault Truncated end 0) rule ts

-- one after another, as many as said
unfoldable pub several : {A : Type 0} → ℕ → (List PlacedToken → Result (A × List PlacedToken) InputFault) → List PlacedToken → Result (List A × List PlacedToken) InputFault
several zero one ts = Ok ([], ts)
several (suc k) one ts = do
  x ← one ts
  xs ← several k one x.1
  Ok (x.0 ∷ xs.0, xs.1)

unfoldable pub edge : ℕ → ℕ → List PlacedToken → Result (Edge × List PlacedToken) InputFault
edge n end ts = do
  u ← need end (first_end_read n) ts
  v ← need end (second_end_read n u.0) u.1
  w ← need end weight_read v.1
  Ok (record { u = u.0; v = v.0; w = w.0 }, w.1)

-- the areas where they are given, or 1 for each vertex
abbrev pub areas : Bool → ℕ → ℕ → List PlacedToken → Result (List ℕ × List PlacedToken) InputFault
areas true n end ts = several n (need end area) ts
areas false n end ts = Ok (replicate n 1, ts)

-- the graph, where no token is left
abbrev pub whole : WeightedGraph → List PlacedToken → Result WeightedGraph InputFault
whole g [] = Ok g
whole g (t ∷ ts) = fault Trailing t.from 0

-- the graph that these tokens of an input with this end spell, or the first fault
unfoldable pub graph : ℕ → List PlacedToken → Result WeightedGraph InputFault
graph end ts = do
  with_areas ← next_token (fault UnknownForm end 0) first_word ts
  n ← need end vertices with_areas.1
  m ← need end edges n.1
  a ← areas with_areas.0 n.0 end m.1
  e ← several m.0 (edge n.0 end) a.1
  whole (record { n = n.0; areas = a.0; edges = e.0 }) e.1

-- The graph of an edge list, or its first fault. Bytes that begin a picture have `P5` as their first token,
-- so they are of an unknown form at 0.
unfoldable pub edge_list : List ℕ → Result WeightedGraph InputFault
edge_list bytes = graph (length bytes) (tokens bytes)

-- whether these tokens settle how much memory the graph takes: the header's three, or an earlier one with a fault
abbrev pub settle : List PlacedToken → Bool
settle [] = false
settle (word ∷ []) = is_err (first_word word.from word.token)
settle (word ∷ n ∷ []) = is_err (first_word word.from word.token) || is_err (vertices n.from n.token)
settle (word ∷ n ∷ m ∷ ts) = true

-- whether the ended tokens of these bytes settle how much memory the graph takes
unfoldable pub settles : List ℕ → Bool
settles bytes = settle (ended (length bytes) (tokens bytes))
