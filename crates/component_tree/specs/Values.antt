-- Values of vertices.
use Rattle.std.specs.Prelude.{ℕ, ◌≤◌, List, length, All}

-- what values keep to
pub record AreValues (values : List ℕ) : Type 0 where
  pub some : 1 ≤ length values
  pub few : length values ≤ 1048576
  pub each : All (λ v. v ≤ 4294967295) values
