-- The least weights of the edges at the vertices of a graph.
use Rattle.std.specs.Prelude.{◌≡◌, ℕ, ◌<◌, List, [], ◌∷◌, length, min, Option, Some, None, get_or}
use Rattle.std.specs.List.{fold}
use Rattle.hg_base.specs.Graph.{WeightedGraph}
use Rattle.attributes.specs.Attributes.{weights_at}

-- the least number of a list, if it has one
abbrev pub least_if_any : List ℕ → Option ℕ
least_if_any [] = None
least_if_any (k ∷ ks) = Some (fold min k ks)

-- the least so far and one more number
abbrev pub lowered : Option ℕ → ℕ → Option ℕ
lowered None k = Some k
lowered (Some j) k = Some (min j k)

-- for each vertex the least weight of an edge at it, if it has one
pub record AreLightest (g : WeightedGraph) (lightest : List (Option ℕ)) : Type 0 where
  pub one_each : length lightest ≡ g.n
  pub each : (x : ℕ) → x < g.n → get_or lightest x None ≡ least_if_any (weights_at g x)
