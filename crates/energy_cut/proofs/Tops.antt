-- The tops of the leaves: they are the nodes of the least cut, and the keys of its regions.
use Rattle.std.proofs.Common.{◌≡◌, ℕ, zero, suc, ◌<◌, Bool, true, false, inl, inr, refl, sym, ◌∙◌, subst, ap, arith, List, length, get_or, map, All, [], ◌∷◌}
use Rattle.std.specs.Prelude.{◌==◌, ◌&&◌, Option, Some, None, IfSome, unwrap_or, filter}
use Rattle.std.specs.Option.{option_map_or}
use Rattle.std.specs.List.{range_with_len}
use Rattle.std.proofs.lemmas.Bool.{and_parts, and_from, eqb-true, eq-eqb}
use Rattle.std.proofs.lemmas.List.{get_or_default}
use Rattle.hg_base.specs.Lists.{IsIn}
use Rattle.hg_base.specs.Counting.{count_below}
use Rattle.hg_base.specs.Numbering.{is_class_head, same_key, key_label}
use Rattle.tree_laws.specs.Tree.{ParentTree, IsAbove}
use Rattle.tree_laws.specs.Levels.{is_above}
use Rattle.tree_laws.proofs.Climbs.{above-within}
use Rattle.hg_base.proofs.KeyClasses.{same_key-from, same_key-to, classing-of_keys, AreLabels, labels-by_keys}
use Rattle.edge_laws.proofs.Sets.{same_test}
use Rattle.tree_laws.proofs.Tops.{is_above-from, is_above-to}
use Rattle.partition_tree.specs.TreeLists.{IsWellFormed}
use Rattle.partition_tree.proofs.WellFormed.{well_formed-climbs, well_formed-leaves}
use Rattle.energy_cut.specs.LeastEnergies.{IsHighest, AreHighestKeepers, keeps_own, is_key}
use Rattle.energy_cut.specs.Regions.{in_one_region}
use Rattle.partition_tree.proofs.ListTests.{any-from, any-to}
use Rattle.energy_cut.proofs.ListMembers.{passing-from, passing-to, filter-agree}
use Rattle.energy_cut.proofs.Covers.{free-from}
use Rattle.energy_cut.proofs.HighestKeepers.{has_leaf-from, has_leaf-to, leaf-keeps, is_best, best_nodes, best-cut}

-- the top of a leaf, by number
abbrev pub top_of_leaf : List (Option ℕ) → ℕ → ℕ
top_of_leaf tops x = unwrap_or (get_or tops x None) 0

-- the keys of the leaves are their tops
pub record AreLeafKeys (t : ParentTree) (e : List ℕ) (tops keys : List (Option ℕ)) : Type 0 where
  pub well_formed : IsWellFormed t
  pub tops_are : AreHighestKeepers t e tops
  pub one_each : length keys ≡ t.leaves
  pub same : (x : ℕ) → x < t.leaves → get_or keys x None ≡ get_or tops x None

-- the nodes of the least cut
abbrev pub cut_nodes : (t : ParentTree) (e : List ℕ) (tops : List (Option ℕ)) → AreHighestKeepers t e tops → List ℕ
cut_nodes t e tops a = best_nodes t e a.least

-- a leaf has a top
pub leaf-top : (t : ParentTree) (e : List ℕ) (tops keys : List (Option ℕ)) → AreLeafKeys t e tops keys → (x : ℕ) → x < t.leaves → get_or tops x None ≡ Some (top_of_leaf tops x)
leaf-top t e tops keys k x h = is (get_or tops x None) refl
  where
    low : x < length t.parents
    low = let few = well_formed-leaves t k.well_formed in omega arith

    is : (o : Option ℕ) → get_or tops x None ≡ o → get_or tops x None ≡ Some (top_of_leaf tops x)
    is (Some j) q = q ∙ ap (λ (m : ℕ). Some m) (sym (ap (λ (o : Option ℕ). unwrap_or o 0) q))
    is None q = absurd (k.tops_are.highest.none x x low q (0, refl) (leaf-keeps t e k.tops_are.least k.tops_are.are_least x low h))

pub leaf-highest : (t : ParentTree) (e : List ℕ) (tops keys : List (Option ℕ)) → (k : AreLeafKeys t e tops keys) → (x : ℕ) → x < t.leaves → IsHighest t (keeps_own e k.tops_are.least) x (top_of_leaf tops x)
leaf-highest t e tops keys k x h = k.tops_are.highest.found x (top_of_leaf tops x) (let few = well_formed-leaves t k.well_formed in omega arith) (leaf-top t e tops keys k x h)

pub leaf-key : (t : ParentTree) (e : List ℕ) (tops keys : List (Option ℕ)) → AreLeafKeys t e tops keys → (x : ℕ) → x < t.leaves → get_or keys x None ≡ Some (top_of_leaf tops x)
leaf-key t e tops keys k x h = k.same x h ∙ leaf-top t e tops keys k x h

-- it is a node of the least cut
pub top-member : (t : ParentTree) (e : List ℕ) (tops keys : List (Option ℕ)) → (k : AreLeafKeys t e tops keys) → (x : ℕ) → x < t.leaves → IsIn (top_of_leaf tops x) (cut_nodes t e tops k.tops_are)
top-member t e tops keys k x h =
    let high = leaf-highest t e tops keys k x h in
    let up = well_formed-climbs t k.well_formed in
    let few = well_formed-leaves t k.well_formed in
    passing-from (is_best t e k.tops_are.least) (length t.parents) (top_of_leaf tops x) (above-within t up (top_of_leaf tops x) x (omega arith) high.above)
    (and_from _ _ (and_from _ _ (free-from t (keeps_own e k.tops_are.least) (top_of_leaf tops x) (λ w. w.other (high.last w.node w.above w.passes))) high.passes)
    (has_leaf-from t k.well_formed (top_of_leaf tops x) x h high.above))

-- a node of the least cut is the top of the leaves below it
pub top-only : (t : ParentTree) (e : List ℕ) (tops keys : List (Option ℕ)) → (k : AreLeafKeys t e tops keys) → (x i : ℕ) → x < t.leaves → IsIn i (cut_nodes t e tops k.tops_are) → IsAbove t i x → top_of_leaf tops x ≡ i
top-only t e tops keys k x i h m a =
    let one = (best-cut t e k.tops_are.least k.well_formed k.tops_are.are_least).one_each x h in
    one.only (top_of_leaf tops x) (top-member t e tops keys k x h) (leaf-highest t e tops keys k x h).above ∙ sym (one.only i m a)

-- all keys are nodes
pub keys-below : (t : ParentTree) (e : List ℕ) (tops keys : List (Option ℕ)) → AreLeafKeys t e tops keys → All (λ (key : Option ℕ). IfSome key (λ k. k < length t.parents)) keys
keys-below t e tops keys k x d h =
    let low : x < t.leaves = (let long = k.one_each in omega arith) in
    let few = well_formed-leaves t k.well_formed in
    subst (λ (key : Option ℕ). IfSome key (λ j. j < length t.parents)) (sym (get_or_default keys x d None h ∙ leaf-key t e tops keys k x low))
    (above-within t (well_formed-climbs t k.well_formed) (top_of_leaf tops x) x (omega arith) (leaf-highest t e tops keys k x low).above)

-- members of a list by place
pub in-at : {X : Type 0} (xs : List X) (i : ℕ) (d : X) → i < length xs → IsIn (get_or xs i d) xs
in-at {X} [] i d h = absurd (omega arith)
in-at {X} (x ∷ xs) zero d h = inl refl
in-at {X} (x ∷ xs) (suc i) d h = inr (in-at xs i d (omega arith))

pub at-in : {X : Type 0} (xs : List X) (x d : X) → IsIn x xs → (i : ℕ) × ((i < length xs) × (get_or xs i d ≡ x))
at-in {X} [] x d i = absurd i
at-in {X} (y ∷ ys) x d (inl same) = (0, (omega arith, same))
at-in {X} (y ∷ ys) x d (inr later) = let rest = at-in ys x d later in (suc rest.0, (let l : rest.0 < length ys = rest.1.0 in omega arith, rest.1.1))

-- the test of one key
abbrev pub is_one : ℕ → Option ℕ → Bool
is_one i key = option_map_or (λ k. k == i) key false

pub key-from : (t : ParentTree) (e : List ℕ) (tops keys : List (Option ℕ)) → AreLeafKeys t e tops keys → (x i : ℕ) → x < t.leaves → top_of_leaf tops x ≡ i → is_key keys i ≡ true
key-from t e tops keys k x i h same =
    any-from (is_one i) (get_or keys x None) keys (in-at keys x None (let long = k.one_each in omega arith))
    (ap (is_one i) (leaf-key t e tops keys k x h) ∙ eq-eqb (top_of_leaf tops x) i same)

pub key-to : (t : ParentTree) (e : List ℕ) (tops keys : List (Option ℕ)) → AreLeafKeys t e tops keys → (i : ℕ) → is_key keys i ≡ true → (x : ℕ) × ((x < t.leaves) × (top_of_leaf tops x ≡ i))
key-to t e tops keys k i h =
    let found = any-to (is_one i) keys h in
    let at = at-in keys found.0 None found.1.0 in
    let low : at.0 < t.leaves = (let l : at.0 < length keys = at.1.0 in let long = k.one_each in omega arith) in
    (at.0, (low, eqb-true (top_of_leaf tops at.0) i (sym (ap (is_one i) (sym at.1.1 ∙ leaf-key t e tops keys k at.0 low)) ∙ found.1.1)))

-- the keys are the nodes of the least cut
pub chosen-nodes : (t : ParentTree) (e : List ℕ) (tops keys : List (Option ℕ)) → (k : AreLeafKeys t e tops keys) → filter (is_key keys) (range_with_len 0 (length t.parents)) ≡ cut_nodes t e tops k.tops_are
chosen-nodes t e tops keys k = filter-agree (is_key keys) (is_best t e k.tops_are.least) 0 (length t.parents) (λ i low high. same_test _ _
    (λ h. (let x = key-to t e tops keys k i h in
    subst (λ (j : ℕ). is_best t e k.tops_are.least j ≡ true) x.1.1 (passing-to (is_best t e k.tops_are.least) (length t.parents) (top_of_leaf tops x.0) (top-member t e tops keys k x.0 x.1.0)).0))
    (λ h. (let x = has_leaf-to t i (and_parts _ _ h).1 in
    key-from t e tops keys k x.0 i x.1.0 (top-only t e tops keys k x.0 i x.1.0 (passing-from (is_best t e k.tops_are.least) (length t.parents) i (omega arith) h) x.1.1))))

-- leaves are in one region exactly where they have one key
pub region-keys : (t : ParentTree) (e : List ℕ) (tops keys : List (Option ℕ)) → (k : AreLeafKeys t e tops keys) → (x y : ℕ) → x < t.leaves → y < t.leaves →
    in_one_region t (cut_nodes t e tops k.tops_are) x y ≡ same_key keys x y
region-keys t e tops keys k x y hx hy =
    let few = well_formed-leaves t k.well_formed in
    let c = cut_nodes t e tops k.tops_are in
    same_test _ _
    (λ h. (let found = any-to (λ i. is_above t i x && is_above t i y) c h in
    let parts = and_parts _ _ found.1.1 in
    same_key-from keys t.leaves (top_of_leaf tops) (leaf-key t e tops keys k) x y hx hy
    (top-only t e tops keys k x found.0 hx found.1.0 (is_above-to t found.0 x parts.0) ∙ sym (top-only t e tops keys k y found.0 hy found.1.0 (is_above-to t found.0 y parts.1)))))
    (λ h. (let same = same_key-to keys t.leaves (top_of_leaf tops) (leaf-key t e tops keys k) x y hx hy h in
    let up = well_formed-climbs t k.well_formed in
    any-from (λ i. is_above t i x && is_above t i y) (top_of_leaf tops x) c (top-member t e tops keys k x hx)
    (and_from _ _
    (is_above-from t up (top_of_leaf tops x) x (omega arith) (leaf-highest t e tops keys k x hx).above)
    (is_above-from t up (top_of_leaf tops x) y (omega arith) (subst (λ (m : ℕ). IsAbove t m y) (sym same) (leaf-highest t e tops keys k y hy).above)))))

-- so the labels by keys are those of the regions
pub region-labels : (t : ParentTree) (e : List ℕ) (tops keys : List (Option ℕ)) → (k : AreLeafKeys t e tops keys) →
    AreLabels t.leaves (map (key_label keys) (range_with_len 0 t.leaves)) (count_below (is_class_head keys) t.leaves) (in_one_region t (cut_nodes t e tops k.tops_are))
region-labels t e tops keys k =
    let r = in_one_region t (cut_nodes t e tops k.tops_are) in
    labels-by_keys keys t.leaves (top_of_leaf tops) r (leaf-key t e tops keys k)
    (classing-of_keys keys t.leaves (top_of_leaf tops) r (leaf-key t e tops keys k) (region-keys t e tops keys k)) (region-keys t e tops keys k) k.well_formed.some_leaf k.well_formed.few_leaves
