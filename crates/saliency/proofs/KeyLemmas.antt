-- Tops as keys of the leaves, and the labels that they give.
use Rattle.std.proofs.Common.{◌≡◌, ℕ, ◌+◌, ◌<◌, ◌⊎◌, inl, inr, sym, ◌∙◌, subst, ap, arith, List, [], ◌∷◌, ◌++◌, length, length-append, get_or, map, All}
use Rattle.std.specs.Prelude.{Option, Some, None, IfSome}
use Rattle.std.specs.List.{range_with_len}
use Rattle.std.proofs.lemmas.Bool.{cases_eq}
use Rattle.std.proofs.lemmas.List.{get_or_default, get_or_push, get_or_append_left}
use Rattle.edge_laws.specs.Edges.{EdgeList, AreApart, AreWithin, joined}
use Rattle.hg_base.specs.Counting.{count_below}
use Rattle.hg_base.specs.Labels.{Labelling, IsLabelling, labelling}
use Rattle.hg_base.specs.Numbering.{is_class_head, same_key, key_label}
use Rattle.edge_laws.specs.Saliency.{AreByWeight, at_most}
use Rattle.tree_laws.specs.Tree.{ParentTree, altitude, tree_of}
use Rattle.tree_laws.specs.Levels.{AltitudesRise, shares, IsTop, IsLevelTree}
use Rattle.edge_laws.proofs.Sets.{same_test}
use Rattle.tree_laws.proofs.Levels.{level-tree}
use Rattle.tree_laws.proofs.Tops.{top-shares, shares-from, shares-to}
use Rattle.hg_base.proofs.Leasts.{IsClassing, labelling-agree}
use Rattle.hg_base.proofs.KeyClasses.{same_key-from, same_key-to, classing-of_keys, AreLabels, labels-by_keys}
use Rattle.tree_laws.proofs.ZoneLevels.{shares-joined_test}
use Rattle.partition_tree.specs.TreeLists.{IsWellFormed}
use Rattle.partition_tree.proofs.WellFormed.{well_formed-climbs, well_formed-leaves}
use Rattle.saliency.specs.Tops.{AreTops, AreFirstKeys}

-- the top of a leaf
top-of_leaf : (t : ParentTree) (level : ℕ) (tops : List ℕ) → IsWellFormed t → AreTops t level tops → (x : ℕ) → x < t.leaves → IsTop t level x (get_or tops x 0)
top-of_leaf t level tops f a x h =
    let few = well_formed-leaves t f in
    let flat : altitude t x ≡ 0 = f.low_leaves x h in
    a.each x (omega arith) (omega arith)

-- leaves share a node of the level exactly where they have one key
pub shares-keys : (t : ParentTree) (level : ℕ) (tops : List ℕ) (keys : List (Option ℕ)) → IsWellFormed t → AltitudesRise t → AreTops t level tops → AreFirstKeys t.leaves tops keys →
    (x y : ℕ) → x < t.leaves → y < t.leaves → shares t level x y ≡ same_key keys x y
shares-keys t level tops keys f rise a k x y hx hy =
    let c = well_formed-climbs t f in
    let few = well_formed-leaves t f in
    let nx : x < length t.parents = omega arith in
    let ny : y < length t.parents = omega arith in
    let law = top-shares t c rise level x y (get_or tops x 0) (get_or tops y 0) nx ny (top-of_leaf t level tops f a x hx) (top-of_leaf t level tops f a y hy) in
    same_test _ _
    (λ e. same_key-from keys t.leaves (λ i. get_or tops i 0) k.each x y hx hy (law.0 (shares-to t level x y e)))
    (λ e. shares-from t c level x y nx ny (law.1 (same_key-to keys t.leaves (λ i. get_or tops i 0) k.each x y hx hy e)))

-- sharing a node of a level makes classes of the leaves
pub shares-classing : (t : ParentTree) (level : ℕ) (tops : List ℕ) (keys : List (Option ℕ)) → IsWellFormed t → AltitudesRise t → AreTops t level tops → AreFirstKeys t.leaves tops keys → IsClassing t.leaves (shares t level)
shares-classing t level tops keys f rise a k =
    classing-of_keys keys t.leaves (λ i. get_or tops i 0) (shares t level) k.each (shares-keys t level tops keys f rise a k)

-- the labels by keys are those of the regions
pub region-labels : (t : ParentTree) (level : ℕ) (tops : List ℕ) (keys : List (Option ℕ)) → IsWellFormed t → AltitudesRise t → AreTops t level tops → AreFirstKeys t.leaves tops keys →
    AreLabels t.leaves (map (key_label keys) (range_with_len 0 t.leaves)) (count_below (is_class_head keys) t.leaves) (shares t level)
region-labels t level tops keys f rise a k =
    labels-by_keys keys t.leaves (λ i. get_or tops i 0) (shares t level) k.each (shares-classing t level tops keys f rise a k) (shares-keys t level tops keys f rise a k) f.some_leaf f.few_leaves

-- the regions of the tree of a list by weight are the components of the edges of weight at most the level
pub regions-of_list : (t : ParentTree) (level : ℕ) → IsWellFormed t → IsClassing t.leaves (shares t level) → (n : ℕ) (s : EdgeList) → AreApart s → AreWithin n s → AreByWeight s → t ≡ tree_of n s →
    labelling (shares t level) t.leaves ≡ labelling (joined (at_most s level)) n
regions-of_list t level f c n s apart within by same =
    let leaves : t.leaves ≡ n = ap (λ (u : ParentTree). u.leaves) same in
    let levels : IsLevelTree t s = subst (λ (u : ParentTree). IsLevelTree u s) (sym same) (level-tree n s apart within by) in
    labelling-agree t.leaves (shares t level) (joined (at_most s level)) c
    (λ x y hx hy. shares-joined_test t s (well_formed-climbs t f) (well_formed-leaves t f) levels level x y hx hy)
    ∙ ap (labelling (joined (at_most s level))) leaves

-- labels that are those of the regions are those of the components
pub labels-of_list : (t : ParentTree) (level : ℕ) → IsWellFormed t → IsClassing t.leaves (shares t level) → (labels : Labelling) → labels ≡ labelling (shares t level) t.leaves →
    (n : ℕ) (s : EdgeList) → AreApart s → AreWithin n s → AreByWeight s → t ≡ tree_of n s → labels ≡ labelling (joined (at_most s level)) n
labels-of_list t level f c labels are n s apart within by same = are ∙ regions-of_list t level f c n s apart within by same

-- each key is below the bound
pub keys-below : (t : ParentTree) (level : ℕ) (tops : List ℕ) (keys : List (Option ℕ)) → IsWellFormed t → AreTops t level tops → AreFirstKeys t.leaves tops keys →
    All (λ (key : Option ℕ). IfSome key (λ k. k < length t.parents)) keys
keys-below t level tops keys f a k x d h =
    let few = well_formed-leaves t f in
    let long = k.one_each in
    let low : x < t.leaves = omega arith in
    subst (λ (key : Option ℕ). IfSome key (λ j. j < length t.parents)) (sym (get_or_default keys x d None h ∙ k.each x low)) (a.nodes x (omega arith))

-- one more leaf has its key
pub keys_more : (x : ℕ) (values : List ℕ) (keys new : List (Option ℕ)) → AreFirstKeys x values keys → new ≡ keys ++ Some (get_or values x 0) ∷ [] → AreFirstKeys (x + 1) values new
keys_more x values keys new k pushed =
    subst (AreFirstKeys (x + 1) values) (sym pushed) (record {
      one_each = length-append keys (Some (get_or values x 0) ∷ []) ∙ (let long = k.one_each in omega arith);
      each = λ y h. at y (up_to y h);
    })
  where
    up_to : (y : ℕ) → y < x + 1 → (y ≡ x) ⊎ (y < x)
    up_to y h = elim (cases_eq y x) [ inl level ↦ inl level | inr other ↦ inr (grind (arith, h, other)) ]

    at : (y : ℕ) → (y ≡ x) ⊎ (y < x) → get_or (keys ++ Some (get_or values x 0) ∷ []) y None ≡ Some (get_or values y 0)
    at y (inl level) =
        get_or_push keys (Some (get_or values x 0)) None y (let long = k.one_each in omega arith) ∙ ap (λ (i : ℕ). Some (get_or values i 0)) (sym level)
    at y (inr low) = get_or_append_left keys (Some (get_or values x 0) ∷ []) None y (let long = k.one_each in omega arith) ∙ k.each y low

-- what `number_keys` gave for the tops of the leaves
pub record AreRegions (t : ParentTree) (level : ℕ) (labels : Labelling) : Type 0 where
  pub result : labels ≡ labelling (shares t level) t.leaves
  pub fit : IsLabelling labels
  pub classes : IsClassing t.leaves (shares t level)

pub numbered-regions : (t : ParentTree) (level : ℕ) (tops : List ℕ) (keys : List (Option ℕ)) (labels : List ℕ) (count : ℕ) → IsWellFormed t → AltitudesRise t → AreTops t level tops → AreFirstKeys t.leaves tops keys →
    labels ≡ map (key_label keys) (range_with_len 0 (length keys)) → count ≡ count_below (is_class_head keys) (length keys) → AreRegions t level (record { labels = labels; count = count })
numbered-regions t level tops keys labels count f rise a k are many =
    let r = region-labels t level tops keys f rise a k in
    let long = k.one_each in
    let with_labels : List ℕ → Labelling = λ l. record { labels = l; count = count } in
    let with_count : ℕ → Labelling = λ m. record { labels = map (key_label keys) (range_with_len 0 t.leaves); count = m } in
    let e : record { labels = labels; count = count } ≡ labelling (shares t level) t.leaves =
    ap with_labels (are ∙ ap (λ (n : ℕ). map (key_label keys) (range_with_len 0 n)) long) ∙ ap with_count (many ∙ ap (count_below (is_class_head keys)) long) ∙ r.result in record {
      result = e;
      fit = subst IsLabelling (sym e) r.fit;
      classes = shares-classing t level tops keys f rise a k;
    }

-- the same of the slices that were handed over
pub made-regions : (t : ParentTree) (level n : ℕ) (tops part : List ℕ) (keys slice : List (Option ℕ)) (labels : List ℕ) (count : ℕ) → IsWellFormed t → AltitudesRise t → AreTops t level tops →
    n ≡ t.leaves → part ≡ tops → slice ≡ keys → AreFirstKeys n part keys →
    labels ≡ map (key_label slice) (range_with_len 0 (length slice)) → count ≡ count_below (is_class_head slice) (length slice) → AreRegions t level (record { labels = labels; count = count })
made-regions t level n tops part keys slice labels count f rise a leaves whole same k are many =
    let keyed : AreFirstKeys t.leaves tops slice =
    subst (λ (ks : List (Option ℕ)). AreFirstKeys t.leaves tops ks) (sym same) (subst (λ (vs : List ℕ). AreFirstKeys t.leaves vs keys) whole (subst (λ (m : ℕ). AreFirstKeys m part keys) leaves k)) in
    numbered-regions t level tops slice labels count f rise a keyed are many

pub made-keys : (t : ParentTree) (level n nodes : ℕ) (tops part : List ℕ) (keys slice : List (Option ℕ)) → IsWellFormed t → AreTops t level tops → n ≡ t.leaves → part ≡ tops → slice ≡ keys → nodes ≡ length t.parents → AreFirstKeys n part keys →
    All (λ (key : Option ℕ). IfSome key (λ k. k < nodes)) slice
made-keys t level n nodes tops part keys slice f a leaves whole same many k =
    let keyed : AreFirstKeys t.leaves tops slice =
    subst (λ (ks : List (Option ℕ)). AreFirstKeys t.leaves tops ks) (sym same) (subst (λ (vs : List ℕ). AreFirstKeys t.leaves vs keys) whole (subst (λ (m : ℕ). AreFirstKeys m part keys) leaves k)) in
    subst (λ (b : ℕ). All (λ (key : Option ℕ). IfSome key (λ j. j < b)) slice) (sym many) (keys-below t level tops slice f a keyed)
