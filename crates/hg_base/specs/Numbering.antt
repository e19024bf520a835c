-- Classes of numbers by keys, labelled 1, 2, .. in order of their least members. What has no key is in no class.
use Rattle.std.specs.Prelude.{◌≡◌, ◌==◌, ℕ, suc, ◌<◌, Bool, false, ◌&&◌, List, length, Option, Some, None, get_or, if◌then◌else◌}
use Rattle.std.specs.Option.{is_some}
use Rattle.hg_base.specs.Counting.{count_below, is_least}
use Rattle.hg_base.specs.Labels.{least_of}

-- both are keys, and one
abbrev pub is_one_key : Option ℕ → Option ℕ → Bool
is_one_key None k = false
is_one_key (Some j) None = false
is_one_key (Some j) (Some k) = j == k

-- x has a key
abbrev pub has_key : List (Option ℕ) → ℕ → Bool
has_key keys x = is_some (get_or keys x None)

-- x and y have one key
abbrev pub same_key : List (Option ℕ) → ℕ → ℕ → Bool
same_key keys x y = is_one_key (get_or keys x None) (get_or keys y None)

-- x is the least member of a class
abbrev pub is_class_head : List (Option ℕ) → ℕ → Bool
is_class_head keys x = has_key keys x && is_least (same_key keys) x

-- the label of x: 1 and how many classes have a lesser least member, or 0 where x has no key
abbrev pub key_label : List (Option ℕ) → ℕ → ℕ
key_label keys x = if has_key keys x then suc (count_below (is_class_head keys) (least_of (same_key keys) x)) else 0

-- what is noted once the numbers below x have their labels: for each key the label of those that have it, or 0, and
-- how many labels there are
pub record AreNumbers (keys : List (Option ℕ)) (x : ℕ) (numbers : List ℕ) (count : ℕ) : Type 0 where
  pub counted : count ≡ count_below (is_class_head keys) x
  pub met : (y k : ℕ) → y < x → get_or keys y None ≡ Some k → get_or numbers k 0 ≡ key_label keys y
  pub unmet : (k : ℕ) → k < length numbers → ((y : ℕ) → y < x → get_or keys y None ≡ Some k → ⊥) → get_or numbers k 0 ≡ 0
