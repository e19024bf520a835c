-- What the field of values stands for.
use Rattle.std.specs.Prelude.{ℕ, List}
pub use Rattle.component_tree.specs.Values.{AreValues}
use Rattle.component_tree.specs.declared.values.Values.TheInside.{Inside}

abbrev pub values_of : Inside → List ℕ
values_of v = v.list.items
