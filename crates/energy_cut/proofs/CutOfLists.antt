-- What the passes have made is the least cut of the definition.
use Rattle.std.proofs.Common.{◌≡◌, ℕ, ◌+◌, ◌*◌, ◌<◌, ◌≤◌, ◌^◌, sym, ◌∙◌, subst, ap, arith, List, length, get_or, set, map, take, drop, All, Bool, false, ◌++◌, append-nil}
use Rattle.std.specs.Prelude.{Option, None, IfSome, filter}
use Rattle.std.specs.List.{range_with_len}
use Rattle.std.proofs.lemmas.List.{get_or-set_other, get_or-take, length-take-le, drop_all, take_all}
use Rattle.std.proofs.Math.Nat.{mul-le-mul_right}
use Rattle.hg_base.specs.Counting.{count_below}
use Rattle.hg_base.specs.Labels.{Labelling, IsLabelling, labelling}
use Rattle.hg_base.specs.Numbering.{is_class_head, key_label}
use Rattle.tree_laws.specs.Tree.{ParentTree, parent}
use Rattle.hg_base.proofs.Passing.{length-passing, count_below-most}
use Rattle.partition_tree.specs.TreeLists.{IsWellFormed}
use Rattle.partition_tree.proofs.WellFormed.{well_formed-leaves}
use Rattle.energy_cut.specs.Cuts.{IsLeastCut, cut_energy, least_cut_of}
use Rattle.energy_cut.specs.LeastEnergies.{AreHighestKeepers, is_key, least_at}
use Rattle.energy_cut.specs.Regions.{RegionCut, in_one_region, region_cut, energy_cut_of}
use Rattle.energy_cut.proofs.HighestKeepers.{value, best_nodes, best-least, is_best, cut-within}
use Rattle.energy_cut.proofs.Chosen.{least-is}
use Rattle.energy_cut.proofs.LeastBelow.{AreGathered, gathered-small, least_at-own}
use Rattle.energy_cut.proofs.Listed.{least-one}
use Rattle.energy_cut.proofs.ListMembers.{filter-agree}
use Rattle.energy_cut.proofs.Tops.{AreLeafKeys, keys-below, chosen-nodes, region-labels, in-at}

-- the first tops are the keys of the leaves
pub leaf-keys : (t : ParentTree) (e : List ℕ) (tops slice : List (Option ℕ)) (n : ℕ) → IsWellFormed t → AreHighestKeepers t e tops → slice ≡ tops → n ≡ t.leaves → AreLeafKeys t e tops (take n slice)
leaf-keys t e tops slice n f a whole all = record {
  well_formed = f;
  tops_are = a;
  one_each = length-take-le n slice (let long = ap (λ (xs : List (Option ℕ)). length xs) whole in let each = a.highest.one_each in let few = well_formed-leaves t f in omega arith) ∙ all;
  same = λ x h. get_or-take n slice x None (omega arith) ∙ ap (λ (xs : List (Option ℕ)). get_or xs x None) whole;
}

-- all of them are nodes
pub keys-fit : (t : ParentTree) (e : List ℕ) (tops slice : List (Option ℕ)) (n m : ℕ) → IsWellFormed t → AreHighestKeepers t e tops → slice ≡ tops → n ≡ t.leaves → m ≡ length t.parents →
    All (λ (key : Option ℕ). IfSome key (λ k. k < m)) (take n slice)
keys-fit t e tops slice n m f a whole all many =
    subst (λ (b : ℕ). All (λ (key : Option ℕ). IfSome key (λ k. k < b)) (take n slice)) (sym many) (keys-below t e tops (take n slice) (leaf-keys t e tops slice n f a whole all))

-- marks that were written back into a whole list are those of the keys
pub marked-keys : (keys : List (Option ℕ)) (final marks items : List Bool) (len n : ℕ) → final ≡ take len (marks ++ drop (length marks) items) → length items ≡ n → len ≡ n → length marks ≡ n →
    ((i : ℕ) → i < length marks → get_or marks i false ≡ is_key keys i) → filter (λ i. get_or final i false) (range_with_len 0 (length final)) ≡ filter (is_key keys) (range_with_len 0 n)
marked-keys keys final marks items len n written all size long told =
    let back : final ≡ marks =
    written
    ∙ ap (λ (xs : List Bool). take len (marks ++ xs)) (drop_all (length marks) items (omega arith))
    ∙ ap (take len) (append-nil marks)
    ∙ take_all len marks (omega arith) in
    let whole : length final ≡ n = ap (λ (xs : List Bool). length xs) back ∙ long in
    ap (λ (m : ℕ). filter (λ i. get_or final i false) (range_with_len 0 m)) whole
    ∙ filter-agree (λ i. get_or final i false) (is_key keys) 0 n (λ i low high. ap (λ (xs : List Bool). get_or xs i false) back ∙ told i (omega arith))

-- what holds of the nodes that were chosen
pub record AreChosen (t : ParentTree) (e nodes : List ℕ) : Type 0 where
  pub least : IsLeastCut t e nodes
  pub few : length nodes ≤ 2097151
  pub within : All (λ i. i < length e) nodes

pub made-chosen : (t : ParentTree) (e : List ℕ) (tops slice : List (Option ℕ)) (n m : ℕ) (nodes : List ℕ) → IsWellFormed t → AreHighestKeepers t e tops → slice ≡ tops → n ≡ t.leaves → m ≡ length t.parents → length e ≡ length t.parents →
    nodes ≡ filter (is_key (take n slice)) (range_with_len 0 m) → AreChosen t e nodes
unfolding leaf-keys
made-chosen t e tops slice n m nodes f a whole all many each are =
    let k = leaf-keys t e tops slice n f a whole all in
    let same : nodes ≡ best_nodes t e a.least = are ∙ ap (λ (b : ℕ). filter (is_key (take n slice)) (range_with_len 0 b)) many ∙ chosen-nodes t e tops (take n slice) k in
    let least : IsLeastCut t e nodes = subst (IsLeastCut t e) (sym same) (best-least t e a.least f a.are_least) in record {
      least = least;
      few = (let long = ap (λ (xs : List ℕ). length xs) same in
          let counted = length-passing (is_best t e a.least) (length t.parents) in
          let most = count_below-most (is_best t e a.least) (length t.parents) in
          let small = f.small in
          omega arith);
      within = λ i d h. subst (λ (b : ℕ). get_or nodes i d < b) (sym each) (cut-within t f nodes least.cut (get_or nodes i d) (in-at nodes i d h));
    }

-- what holds of the labels
pub record AreRegions (t : ParentTree) (nodes : List ℕ) (labels : Labelling) : Type 0 where
  pub result : labels ≡ labelling (in_one_region t nodes) t.leaves
  pub fit : IsLabelling labels

pub made-regions : (t : ParentTree) (e : List ℕ) (tops slice : List (Option ℕ)) (n m : ℕ) (nodes labels : List ℕ) (count : ℕ) → IsWellFormed t → AreHighestKeepers t e tops → slice ≡ tops → n ≡ t.leaves → m ≡ length t.parents →
    nodes ≡ filter (is_key (take n slice)) (range_with_len 0 m) →
    labels ≡ map (key_label (take n slice)) (range_with_len 0 (length (take n slice))) → count ≡ count_below (is_class_head (take n slice)) (length (take n slice)) →
    AreRegions t nodes (record { labels = labels; count = count })
unfolding leaf-keys
made-regions t e tops slice n m nodes labels count f a whole all many are named counted =
    let k = leaf-keys t e tops slice n f a whole all in
    let keys = take n slice in
    let same : nodes ≡ best_nodes t e a.least = are ∙ ap (λ (b : ℕ). filter (is_key keys) (range_with_len 0 b)) many ∙ chosen-nodes t e tops keys k in
    let r = region-labels t e tops keys k in
    let with_labels : List ℕ → Labelling = λ l. record { labels = l; count = count } in
    let with_count : ℕ → Labelling = λ c. record { labels = map (key_label keys) (range_with_len 0 t.leaves); count = c } in
    let whole_labels : with_labels labels ≡ labelling (in_one_region t (best_nodes t e a.least)) t.leaves =
    ap with_labels (named ∙ ap (λ (b : ℕ). map (key_label keys) (range_with_len 0 b)) k.one_each) ∙ ap with_count (counted ∙ ap (count_below (is_class_head keys)) k.one_each) ∙ r.result in record {
      result = whole_labels ∙ ap (λ (c : List ℕ). labelling (in_one_region t c) t.leaves) (sym same);
      fit = subst IsLabelling (sym whole_labels) r.fit;
    }

-- so the whole is the cut of the definition
pub made-cut : (t : ParentTree) (e nodes slice : List ℕ) (labels new : Labelling) (sum : ℕ) → IsWellFormed t → AreChosen t e nodes → AreRegions t nodes labels → new ≡ labels → sum ≡ cut_energy e slice → slice ≡ nodes →
    record { nodes = nodes; labels = new; sum = sum } ≡ energy_cut_of t e
made-cut t e nodes slice labels new sum f chosen regions same summed whole =
    let with_labels : Labelling → RegionCut = λ l. record { nodes = nodes; labels = l; sum = sum } in
    let with_sum : ℕ → RegionCut = λ s. record { nodes = nodes; labels = labelling (in_one_region t nodes) t.leaves; sum = s } in
    ap with_labels (same ∙ regions.result) ∙ ap with_sum (summed ∙ ap (cut_energy e) whole) ∙ ap (region_cut t e) (least-one t e nodes (least_cut_of t e) f chosen.least (least-is t e f))

-- a node's energy and the sum so far of its parent's children fit
pub hand-fits : (t : ParentTree) (e : List ℕ) (i p v : ℕ) (b : List ℕ) → IsWellFormed t → i < length t.parents → ((j : ℕ) → j < length t.parents → value e j < 2 ^ 65) → AreGathered t e i b → v ≡ least_at t e b i → p ≡ parent t i → (p ≡ i → ⊥) →
    value (set b i v) p + v < 2 ^ 86
hand-fits t e i p v b f h small g is at inner =
    let up : i ≤ parent t i = f.rises i h in
    let in_tree : parent t i < length t.parents = f.within i h in
    let old : value (set b i v) p ≡ value b p = get_or-set_other b i p v 0 inner in
    let sums : value b p ≤ i * 36893488147419103232 = gathered-small t e i p b (omega arith) (omega arith) small g in
    let own : least_at t e b i ≤ value e i = least_at-own t e b i in
    let few : value e i < 2 ^ 65 = small i h in
    let all : length t.parents ≤ 2097151 = f.small in
    let low : i ≤ 2097150 = omega arith in
    let most : i * 36893488147419103232 ≤ 2097150 * 36893488147419103232 = mul-le-mul_right 36893488147419103232 low in
    omega arith
