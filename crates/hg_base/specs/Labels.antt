-- Labels of vertices, 1, 2, .. in order of the least vertex of each class.
use Rattle.std.specs.Prelude.{ℕ, suc, ◌≤◌, Bool, List, length, map, All, find, unwrap_or}
use Rattle.std.specs.List.{range_with_len}
use Rattle.hg_base.specs.Counting.{count_below, is_least}

-- labels as contracts see them: one for each vertex, from 1 to count
pub record Labelling : Type 0 where
  pub labels : List ℕ
  pub count : ℕ

-- a label is one of 1 to count
pub record IsLabel (count label : ℕ) : Type 0 where
  pub positive : 1 ≤ label
  pub most : label ≤ count

-- what all labels keep to
pub record IsLabelling (l : Labelling) : Type 0 where
  pub some : 1 ≤ length l.labels
  pub few : length l.labels ≤ 1048576
  pub each : All (IsLabel l.count) l.labels

-- the least number that is in the class of x, where r says who is in one class
abbrev pub least_of : (ℕ → ℕ → Bool) → ℕ → ℕ
least_of r x = unwrap_or (find (r x) (range_with_len 0 (suc x))) x

-- the label of the class of x: 1 and how many classes have a lesser least number
abbrev pub class_label : (ℕ → ℕ → Bool) → ℕ → ℕ
class_label r x = suc (count_below (is_least r) (least_of r x))

-- the classes of the numbers below n, labelled
abbrev pub labelling : (ℕ → ℕ → Bool) → ℕ → Labelling
labelling r n = record { labels = map (class_label r) (range_with_len 0 n); count = count_below (is_least r) n }
