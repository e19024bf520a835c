-- The last nodes up to a level are where paths stop.
use Rattle.std.proofs.Common.{◌≡◌, ℕ, ◌<◌, ◌≤◌, false, inl, inr, List, length, get_or}
use Rattle.std.specs.List.{range_with_len}
use Rattle.std.proofs.lemmas.Bool.{ltb-true, ltb-false}
use Rattle.tree_laws.specs.Tree.{ParentTree, parent, altitude}
use Rattle.tree_laws.specs.Levels.{IsClimbing, IsTop}
use Rattle.tree_laws.proofs.Tops.{top-parent, top-self}
use Rattle.partition_tree.specs.TreeLists.{nodes}
use Rattle.partition_tree.specs.NearestStops.{StopsAt, IsNearestStop, AreOfStops}
use Rattle.partition_tree.proofs.NearestStops.{stop-induction, stop-numbers, stop-within}
use Rattle.saliency.specs.Tops.{is_last_to, AreTops}

-- the nearest node whose parent is above the level is the last one up to it
top-of_stop : (t : ParentTree) → IsClimbing t → (level i j : ℕ) → i < nodes t → IsNearestStop t (is_last_to t level) i j → altitude t i ≤ level → IsTop t level i j
top-of_stop t c level = stop-induction t c (is_last_to t level) (λ i j. altitude t i ≤ level → IsTop t level i j) here up
  where
    here : (i : ℕ) → i < nodes t → StopsAt t (is_last_to t level) i → altitude t i ≤ level → IsTop t level i i
    here i h (inl on) low = top-self t level i low (inr (ltb-true level (altitude t (parent t i)) on))
    here i h (inr root) low = top-self t level i low (inl root)

    up : (i j : ℕ) → i < nodes t → is_last_to t level i ≡ false → (parent t i ≡ i → ⊥) → IsNearestStop t (is_last_to t level) (parent t i) j → (altitude t (parent t i) ≤ level → IsTop t level (parent t i) j) →
        altitude t i ≤ level → IsTop t level i j
    up i j h off below n rest low = top-parent t level i j (rest (ltb-false level (altitude t (parent t i)) off))

-- numbers that were sent down to it are the tops
pub tops-of_stops : (t : ParentTree) → IsClimbing t → (level : ℕ) (own tops : List ℕ) → own ≡ range_with_len 0 (nodes t) → AreOfStops t (is_last_to t level) own tops → AreTops t level tops
tops-of_stops t c level own tops numbers a = record {
  one_each = a.one_each;
  nodes = λ i h. stop-within t c (is_last_to t level) i (get_or tops i 0) h (stop-numbers t c (is_last_to t level) own tops numbers a i h);
  each = λ i h low. top-of_stop t c level i (get_or tops i 0) h (stop-numbers t c (is_last_to t level) own tops numbers a i h) low;
}
