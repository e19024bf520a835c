-- What the tokens that are still to come make of what has been read.
use Rattle.std.specs.Prelude.{◌≡◌, ◌⊎◌, ℕ, ◌+◌, ◌-◌, ◌<◌, Bool, true, false, List, [], ◌∷◌, ◌++◌, length, replicate, if◌then◌else◌, Result, Ok, Err, is_err}
use Rattle.hg_base.specs.Graph.{WeightedGraph, JoinsTwo}
use Rattle.hg_base.specs.declared.graph.Edge.{Edge}
use Rattle.hg_base.specs.declared.fault.FaultKind.TheVariants as kinds
use Rattle.hg_base.specs.declared.fault.InputFault.{InputFault}
use Rattle.input_tokens.specs.declared.token.Token.{Token}
use Rattle.input_tokens.specs.declared.token.Found.{Found}
use Rattle.graph_reader.specs.declared.parser.Stage.{Stage}
use Rattle.graph_reader.specs.declared.parser.Stage.TheVariants as stages
use Rattle.input_tokens.specs.Tokens.{PlacedToken}
use Rattle.input_tokens.specs.Rules.{◌>>=◌, fault}
use Rattle.graph_reader.specs.EdgeList.{need, several, vertices, edges, area, first_end_read, second_end_read, weight_read, edge, areas, whole, graph, settle}

-- what has been read of an edge list; the numbers and lists mean something from the stage on that reads them
pub record Parsing : Type 0 where
  pub stage : Stage
  pub with_areas : Bool
  pub n : ℕ
  pub m : ℕ
  pub areas : List ℕ
  pub edges : List Edge

-- memory ran out
abbrev pub is_out_of_memory : Stage → Bool
is_out_of_memory stages.OutOfMemory = true
is_out_of_memory _ = false

-- no token changes anything any more: a fault is known, or memory ran out
abbrev pub is_over : Stage → Bool
is_over (stages.Faulty f) = true
is_over stages.OutOfMemory = true
is_over _ = false

-- the token that is read next says how much memory is needed
abbrev pub is_counting : Stage → Bool
is_counting stages.Edges = true
is_counting _ = false

-- so many edges after those that were read
abbrev pub more_edges : WeightedGraph → ℕ → ℕ → List PlacedToken → Result WeightedGraph InputFault
more_edges g count end ts = do
  e ← several count (edge g.n end) ts
  whole (record { n = g.n; areas = g.areas; edges = g.edges ++ e.0 }) e.1

-- the graph as far as it was read
abbrev pub graph_so_far : Parsing → WeightedGraph
graph_so_far p = record { n = p.n; areas = if p.with_areas then p.areas else replicate p.n 1; edges = p.edges }

-- that graph with one edge more
abbrev pub with_edge : Parsing → ℕ → ℕ → ℕ → WeightedGraph
with_edge p u v w = let g = graph_so_far p in record { n = g.n; areas = g.areas; edges = g.edges ++ record { u = u; v = v; w = w } ∷ [] }

-- what these tokens of an input with this end make of it
unfoldable pub reading_at : Stage → Parsing → ℕ → List PlacedToken → Result WeightedGraph InputFault
reading_at stages.FirstWord p end ts = graph end ts
reading_at stages.Vertices p end ts = do
  n ← need end vertices ts
  m ← need end edges n.1
  a ← areas p.with_areas n.0 end m.1
  e ← several m.0 (edge n.0 end) a.1
  whole (record { n = n.0; areas = a.0; edges = e.0 }) e.1
reading_at stages.Edges p end ts = do
  m ← need end edges ts
  a ← areas p.with_areas p.n end m.1
  e ← several m.0 (edge p.n end) a.1
  whole (record { n = p.n; areas = a.0; edges = e.0 }) e.1
reading_at stages.Area p end ts = do
  a ← several (p.n - length p.areas) (need end area) ts
  e ← several p.m (edge p.n end) a.1
  whole (record { n = p.n; areas = p.areas ++ a.0; edges = e.0 }) e.1
reading_at stages.FirstEnd p end ts = more_edges (graph_so_far p) (p.m - length p.edges) end ts
reading_at (stages.SecondEnd u) p end ts = do
  v ← need end (second_end_read p.n u) ts
  w ← need end weight_read v.1
  more_edges (with_edge p u v.0 w.0) (p.m - (length p.edges + 1)) end w.1
reading_at (stages.Weight u v) p end ts = do
  w ← need end weight_read ts
  more_edges (with_edge p u v w.0) (p.m - (length p.edges + 1)) end w.1
reading_at (stages.Faulty f) p end ts = Err f
reading_at stages.OutOfMemory p end ts = fault kinds.Truncated end 0

abbrev pub reading : Parsing → ℕ → List PlacedToken → Result WeightedGraph InputFault
reading p end ts = reading_at p.stage p end ts

-- whether the header is settled once these tokens have ended
unfoldable pub settling : Stage → List PlacedToken → Bool
settling stages.FirstWord ts = settle ts
settling stages.Vertices [] = false
settling stages.Vertices (n ∷ []) = is_err (vertices n.from n.token)
settling stages.Vertices (n ∷ m ∷ ts) = true
settling stages.Edges [] = false
settling stages.Edges (m ∷ ts) = true
settling _ ts = true

-- taking this token leads from old to new
pub record Takes (old new : Parsing) (at : ℕ) (token : Token) : Type 0 where
  pub reading : is_out_of_memory new.stage ≡ false → (to end : ℕ) (ts : List PlacedToken) → reading new end ts ≡ reading old end (record { from = at; to = to; token = token } ∷ ts)
  pub settling : (to : ℕ) (ts : List PlacedToken) → settling new.stage ts ≡ settling old.stage (record { from = at; to = to; token = token } ∷ ts)
  pub memory : is_counting old.stage ≡ false → is_out_of_memory new.stage ≡ is_out_of_memory old.stage

-- taking these three tokens leads from old to new
pub record TakesThree (old new : Parsing) (u v w : Found) : Type 0 where
  pub first : Parsing
  pub second : Parsing
  pub one : Takes old first u.at u.token
  pub two : Takes first second v.at v.token
  pub three : Takes second new w.at w.token

-- an edge is read next, and these tokens give this one
pub record IsNextEdge (p : Parsing) (u v w : Found) (e : Edge) : Type 0 where
  pub stage : p.stage ≡ stages.FirstEnd
  pub left : length p.edges < p.m
  pub joins : JoinsTwo p.n e
  pub first : first_end_read p.n u.at u.token ≡ Ok e.u
  pub second : second_end_read p.n e.u v.at v.token ≡ Ok e.v
  pub weighs : weight_read w.at w.token ≡ Ok e.w

-- memory was taken for m edges, and for the areas where they are given; or there was none
abbrev pub TakesRoom : Parsing → Parsing → ℕ → Type 0
TakesRoom old new m =
    (new.stage ≡ stages.OutOfMemory)
    ⊎ (new ≡ record { stage = if old.with_areas then stages.Area else stages.FirstEnd; with_areas = old.with_areas; n = old.n; m = m; areas = []; edges = [] })

-- what ran out of memory stays so; where the header is settled, it stays so and no memory is taken
pub record KeepsMemory (old new : Parsing) : Type 0 where
  pub out : is_out_of_memory old.stage ≡ true → is_out_of_memory new.stage ≡ true
  pub settled : settling old.stage [] ≡ true → (settling new.stage [] ≡ true) × (is_out_of_memory new.stage ≡ is_out_of_memory old.stage)
