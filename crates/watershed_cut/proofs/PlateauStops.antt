-- Plateaus are where paths stop.
use Rattle.std.proofs.Common.{◌≡◌, ℕ, ◌<◌, ◌≤◌, false, inl, inr, sym, subst, ap, arith, List, length, get_or}
use Rattle.std.specs.Prelude.{◌==◌}
use Rattle.std.specs.List.{range_with_len}
use Rattle.std.proofs.lemmas.Bool.{eqb-true, eqb-false, not-true, not-false}
use Rattle.tree_laws.specs.Tree.{ParentTree, parent, altitude}
use Rattle.tree_laws.specs.Levels.{IsClimbing, AltitudesRise, IsTop}
use Rattle.tree_laws.proofs.Tops.{top-parent, top-self}
use Rattle.partition_tree.specs.TreeLists.{nodes}
use Rattle.partition_tree.specs.NearestStops.{StopsAt, IsNearestStop, AreOfStops}
use Rattle.partition_tree.proofs.NearestStops.{stop-induction, stop-numbers, stop-within}
use Rattle.watershed_cut.specs.Plateaus.{IsPlateau, ends_plateau, ArePlateaus}

-- the nearest node whose parent has another altitude is the plateau
plateau-of_stop : (t : ParentTree) → IsClimbing t → AltitudesRise t → (i j : ℕ) → i < nodes t → IsNearestStop t (ends_plateau t) i j → IsPlateau t i j
plateau-of_stop t c rise = stop-induction t c (ends_plateau t) (IsPlateau t) here up
  where
    here : (i : ℕ) → i < nodes t → StopsAt t (ends_plateau t) i → IsPlateau t i i
    here i h (inl on) =
        let low : altitude t i ≤ altitude t (parent t i) = rise i h in
        let other = eqb-false (altitude t (parent t i)) (altitude t i) (not-true _ on) in
        top-self t (altitude t i) i (omega arith) (inr (grind (arith, low, other)))
    here i h (inr root) = top-self t (altitude t i) i (omega arith) (inl root)

    up : (i j : ℕ) → i < nodes t → ends_plateau t i ≡ false → (parent t i ≡ i → ⊥) → IsNearestStop t (ends_plateau t) (parent t i) j → IsPlateau t (parent t i) j → IsPlateau t i j
    up i j h off below n rest =
        top-parent t (altitude t i) i j (subst (λ (k : ℕ). IsTop t k (parent t i) j) (eqb-true (altitude t (parent t i)) (altitude t i) (not-false _ off)) rest)

-- numbers that were sent down to it are the plateaus
pub plateaus-of_stops : (t : ParentTree) → IsClimbing t → AltitudesRise t → (own tops : List ℕ) → own ≡ range_with_len 0 (nodes t) → AreOfStops t (ends_plateau t) own tops → ArePlateaus t tops
plateaus-of_stops t c rise own tops numbers a = record {
  one_each = a.one_each;
  nodes = λ i h. stop-within t c (ends_plateau t) i (get_or tops i 0) h (stop-numbers t c (ends_plateau t) own tops numbers a i h);
  each = λ i h. plateau-of_stop t c rise i (get_or tops i 0) h (stop-numbers t c (ends_plateau t) own tops numbers a i h);
}
