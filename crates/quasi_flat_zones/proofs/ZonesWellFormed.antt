-- The zones of a well-formed tree are well formed.
use Rattle.std.proofs.Common.{◌≡◌, ℕ, sym, ◌∙◌, subst, ap, arith, length}
use Rattle.std.proofs.lemmas.List.{length-map}
use Rattle.edge_laws.specs.Edges.{EdgeList, AreApart, AreWithin}
use Rattle.tree_laws.specs.Tree.{ParentTree, altitude, tree_of}
use Rattle.edge_laws.specs.Saliency.{AreByWeight}
use Rattle.tree_laws.specs.Levels.{AltitudesRise, IsLevelTree}
use Rattle.tree_laws.specs.Zones.{keeps, kept, zone_number, next_kept, zones_of, AreZones}
use Rattle.hg_base.proofs.Passing.{count_below-most}
use Rattle.tree_laws.proofs.Levels.{level-tree}
use Rattle.tree_laws.proofs.Zones.{length-zones, zones-rise, zones-inner, zones-low, zones-makers}
use Rattle.tree_laws.proofs.ZoneLevels.{zones-are}
use Rattle.partition_tree.specs.TreeLists.{IsWellFormed}
use Rattle.partition_tree.proofs.WellFormed.{well_formed-climbs, well_formed-leaves}

-- what a tree keeps to, the zones keep to
pub zones-forest : (t : ParentTree) → IsWellFormed t → IsWellFormed (zones_of t)
zones-forest t f =
    let few = well_formed-leaves t f in
    let c = well_formed-climbs t f in
    let long : length (zones_of t).parents ≡ zone_number t (length t.parents) = length-zones t in record {
      some_leaf = f.some_leaf;
      few_leaves = f.few_leaves;
      small = omega (arith, long, count_below-most (keeps t) (length t.parents), f.small);
      one_altitude_each = length-map (kept t) (altitude t) ∙ sym (length-map (kept t) (λ i. zone_number t (next_kept t i)));
      one_maker_each = zones-makers t few;
      rises = (zones-rise t c).rises;
      within = (zones-rise t c).within;
      inner = zones-inner t c f.inner;
      low_leaves = λ i h. zones-low t i h (omega arith) ∙ f.low_leaves i h;
    }

-- the zones of the tree of a list by weight
pub zones-of_list : (t : ParentTree) → IsWellFormed t → AltitudesRise t → (n : ℕ) (s : EdgeList) → AreApart s → AreWithin n s → AreByWeight s → t ≡ tree_of n s → AreZones (zones_of t) n s
zones-of_list t f rise n s apart within by same =
    let leaves : t.leaves ≡ n = ap (λ (u : ParentTree). u.leaves) same in
    subst (λ (m : ℕ). AreZones (zones_of t) m s) leaves
    (zones-are t s (record {
      climbs = well_formed-climbs t f;
      rise = rise;
      few_leaves = well_formed-leaves t f;
      low_leaves = f.low_leaves;
      levels = subst (λ (u : ParentTree). IsLevelTree u s) (sym same) (level-tree n s apart within by);
    }))
