-- What the passes give, put together: the attributes of the graph.
use Rattle.std.proofs.Common.{◌≡◌, ℕ, ◌+◌, ◌-◌, ◌*◌, ◌<◌, ◌≤◌, ◌^◌, sym, ◌∙◌, subst, ap, arith, List, length, get_or, map, All}
use Rattle.std.specs.List.{range_with_len}
use Rattle.std.proofs.lemmas.List.FromFn.{length-map-range_with_len, get_or-map-range_with_len, fill_by_all}
use Rattle.std.proofs.lemmas.Nat.{mul-le}
use Rattle.hg_base.specs.Graph.{WeightedGraph, AreLight}
use Rattle.tree_laws.specs.Tree.{ParentTree, parent, graph_tree}
use Rattle.tree_laws.specs.Levels.{is_above}
use Rattle.partition_tree.specs.TreeLists.{nodes}
use Rattle.attributes.specs.declared.gather.Operation.TheVariants as operations
use Rattle.attributes.specs.Gathering.{gathered, neutral, AreOfLeaves, CanGather}
use Rattle.attributes.specs.Attributes.{AttributeLists, area, floor, vertices_below, area_of, volume_under, dynamics_under, altitude_over, node_numbers, attributes_in, attributes_of}
use Rattle.attributes.specs.AttributesFields.{AreOfNodes}
use Rattle.attributes.specs.Sums.{AreSums, GiveVolumes, GiveDynamics}
use Rattle.attributes.proofs.Gathers.{sum-part, least-low}
use Rattle.attributes.proofs.LowFloors.{floor-small}
use Rattle.partition_tree.proofs.ListsByNumber.{values-agree}
use Rattle.attributes.proofs.Totals.{HasGraphTree, floors-in, sums-are, lowest-is, lowest-low, balance, sum-bound}

-- the values of the leaves
pub record AreLeafValues (g : WeightedGraph) (t : ParentTree) (floors areas products : List ℕ) : Type 0 where
  pub floors_are : floors ≡ map (floor g) (range_with_len 0 t.leaves)
  pub areas_are : areas ≡ map (area g) (range_with_len 0 t.leaves)
  pub products_are : products ≡ map (λ x. area g x * floor g x) (range_with_len 0 t.leaves)
  pub small : (x : ℕ) → x < t.leaves → area g x ≤ 4096
  pub light : (x : ℕ) → x < t.leaves → floor g x < 2 ^ 32

-- the floors fit 32 bits
pub floors-light : (g : WeightedGraph) (n : ℕ) (floors : List ℕ) → AreLight g.edges → floors ≡ map (floor g) (range_with_len 0 n) → All (λ (w : ℕ). w < 2 ^ 32) floors
floors-light g n floors weights made k d h =
    let long : length floors ≡ n = ap (λ (xs : List ℕ). length xs) made ∙ length-map-range_with_len (floor g) 0 n in
    subst (λ (w : ℕ). w < 2 ^ 32)
    (sym (ap (λ (xs : List ℕ). get_or xs k d) made ∙ get_or-map-range_with_len (floor g) 0 n k k d (omega (arith, h, long)) (omega arith)))
    (floor-small g weights k)

-- the floors, the areas and their products, as they were read
pub leaf-values : (g : WeightedGraph) (t : ParentTree) (floors areas products floor_slice area_slice : List ℕ) → t.leaves ≡ g.n → AreLight g.edges →
    floors ≡ map (floor g) (range_with_len 0 g.n) → areas ≡ map (area g) (range_with_len 0 g.n) → All (λ (a : ℕ). a ≤ 4096) areas → floor_slice ≡ floors → area_slice ≡ areas →
    products ≡ map (λ x. get_or area_slice x 0 * get_or floor_slice x 0) (range_with_len 0 (length area_slice)) → AreLeafValues g t floors areas products
leaf-values g t floors areas products floor_slice area_slice leaves weights floors_made areas_made few same_floors same_areas products_made =
    let n = t.leaves in
    let f : floors ≡ map (floor g) (range_with_len 0 t.leaves) = floors_made ∙ ap (λ (m : ℕ). map (floor g) (range_with_len 0 m)) (sym leaves) in
    let a : areas ≡ map (area g) (range_with_len 0 t.leaves) = areas_made ∙ ap (λ (m : ℕ). map (area g) (range_with_len 0 m)) (sym leaves) in
    let long : length areas ≡ t.leaves = ap (λ (xs : List ℕ). length xs) a ∙ length-map-range_with_len (area g) 0 t.leaves in
    let area_at : (x : ℕ) → x < t.leaves → get_or areas x 0 ≡ area g x = λ x h. ap (λ (xs : List ℕ). get_or xs x 0) a ∙ get_or-map-range_with_len (area g) 0 t.leaves x x 0 h (omega arith) in
    let floor_at : (x : ℕ) → x < t.leaves → get_or floors x 0 ≡ floor g x = λ x h. ap (λ (xs : List ℕ). get_or xs x 0) f ∙ get_or-map-range_with_len (floor g) 0 t.leaves x x 0 h (omega arith) in record {
      floors_are = f;
      areas_are = a;
      products_are = products_made
          ∙ ap (λ (m : ℕ). map (λ x. get_or area_slice x 0 * get_or floor_slice x 0) (range_with_len 0 m)) (ap (λ (xs : List ℕ). length xs) same_areas ∙ long)
          ∙ values-agree (λ x. get_or area_slice x 0 * get_or floor_slice x 0) (λ x. area g x * floor g x) t.leaves
          (λ x h. ap (λ (xs : List ℕ). get_or xs x 0 * get_or floor_slice x 0) same_areas
          ∙ ap (λ (xs : List ℕ). get_or areas x 0 * get_or xs x 0) same_floors
          ∙ ap (λ (y : ℕ). y * get_or floors x 0) (area_at x h)
          ∙ ap (λ (y : ℕ). area g x * y) (floor_at x h));
      small = λ x h. subst (λ (y : ℕ). y ≤ 4096) (area_at x h) (few x 0 (omega (arith, h, long)));
      light = λ x h. floor-small g weights x;
    }

-- one value each
pub leaf-length : (f : ℕ → ℕ) (n : ℕ) (values slice : List ℕ) → values ≡ map f (range_with_len 0 n) → slice ≡ values → length slice ≡ n
leaf-length f n values slice made same = ap (λ (xs : List ℕ). length xs) (same ∙ made) ∙ length-map-range_with_len f 0 n

-- the areas sum to at most 2 ^ 32
areas-bound : (g : WeightedGraph) (t : ParentTree) (floors areas products : List ℕ) → HasGraphTree g t → AreLeafValues g t floors areas products →
    gathered operations.Sum (λ x. get_or areas x 0) (range_with_len 0 t.leaves) ≤ 4294967296
areas-bound g t floors areas products k v =
    let bound : gathered operations.Sum (λ x. get_or areas x 0) (range_with_len 0 t.leaves) ≤ t.leaves * 4096 =
    sum-bound (λ x. get_or areas x 0) 4096 t.leaves
    (λ x h. subst (λ (y : ℕ). y ≤ 4096) (sym (ap (λ (xs : List ℕ). get_or xs x 0) v.areas_are ∙ get_or-map-range_with_len (area g) 0 t.leaves x x 0 h (omega arith))) (v.small x h)) in
    omega (arith, bound, k.well_formed.few_leaves)

-- so their sum fits
pub areas-fit : (g : WeightedGraph) (t : ParentTree) (floors areas products slice : List ℕ) → HasGraphTree g t → AreLeafValues g t floors areas products → slice ≡ areas →
    gathered operations.Sum (λ x. get_or slice x 0) (range_with_len 0 t.leaves) < 2 ^ 64
areas-fit g t floors areas products slice k v same =
    subst (λ (xs : List ℕ). gathered operations.Sum (λ x. get_or xs x 0) (range_with_len 0 t.leaves) < 2 ^ 64) (sym same)
    (let bound = areas-bound g t floors areas products k v in omega (arith, bound))

-- the products sum to less than 2 ^ 64
pub products-fit : (g : WeightedGraph) (t : ParentTree) (floors areas products slice : List ℕ) → HasGraphTree g t → AreLeafValues g t floors areas products → slice ≡ products →
    gathered operations.Sum (λ x. get_or slice x 0) (range_with_len 0 t.leaves) < 2 ^ 64
products-fit g t floors areas products slice k v same =
    let each : (x : ℕ) → x < t.leaves → get_or products x 0 ≤ 17592186040320 =
    λ x h.
    let w : floor g x ≤ 4294967295 = (let l = v.light x h in omega (arith, l)) in
    let p : area g x * floor g x ≤ 4096 * 4294967295 = mul-le (area g x) (floor g x) 4096 4294967295 (v.small x h) w in
    subst (λ (y : ℕ). y ≤ 17592186040320) (sym (ap (λ (xs : List ℕ). get_or xs x 0) v.products_are ∙ get_or-map-range_with_len (λ y. area g y * floor g y) 0 t.leaves x x 0 h (omega arith))) p in
    subst (λ (xs : List ℕ). gathered operations.Sum (λ x. get_or xs x 0) (range_with_len 0 t.leaves) < 2 ^ 64) (sym same)
    (let bound = sum-bound (λ x. get_or products x 0) 17592186040320 t.leaves each in omega (arith, bound, k.well_formed.few_leaves))

-- a least value fits
pub lowest-fit : (f : ℕ → ℕ) (xs : List ℕ) → gathered operations.Least f xs < 2 ^ 64
lowest-fit f xs = let low = least-low (neutral operations.Least) (map f xs) in omega (arith, low)

-- so each of the three lists can be gathered
pub leaves-gather : (g : WeightedGraph) (t : ParentTree) (floors areas products floor_slice area_slice product_slice : List ℕ) → HasGraphTree g t → AreLeafValues g t floors areas products →
    floor_slice ≡ floors → area_slice ≡ areas → product_slice ≡ products → CanGather operations.Sum t area_slice × CanGather operations.Sum t product_slice × CanGather operations.Least t floor_slice
leaves-gather g t floors areas products floor_slice area_slice product_slice k v same_floors same_areas same_products = (
  record {
    one_each = leaf-length (area g) t.leaves areas area_slice v.areas_are same_areas;
    fits = areas-fit g t floors areas products area_slice k v same_areas;
  },
  record {
    one_each = leaf-length (λ x. area g x * floor g x) t.leaves products product_slice v.products_are same_products;
    fits = products-fit g t floors areas products product_slice k v same_products;
  },
  record {
    one_each = leaf-length (floor g) t.leaves floors floor_slice v.floors_are same_floors;
    fits = lowest-fit (λ x. get_or floor_slice x 0) (range_with_len 0 t.leaves);
  },
)

-- the sums of the nodes
pub node-values : (g : WeightedGraph) (t : ParentTree) (floors areas products floor_slice area_slice product_slice node_areas sums lowest : List ℕ) → HasGraphTree g t → AreLeafValues g t floors areas products →
    area_slice ≡ areas → product_slice ≡ products → floor_slice ≡ floors →
    AreOfLeaves operations.Sum t area_slice node_areas → AreOfLeaves operations.Sum t product_slice sums → AreOfLeaves operations.Least t floor_slice lowest →
    AreSums g t node_areas sums lowest
node-values g t floors areas products floor_slice area_slice product_slice node_areas sums lowest k v same_areas same_products same_floors a s l = record {
  one_area_each = a.one_each;
  one_product_each = s.one_each;
  one_lowest_each = l.one_each;
  areas_are = sums-are t (area g) area_slice node_areas a (same_areas ∙ v.areas_are);
  products_are = sums-are t (λ x. area g x * floor g x) product_slice sums s (same_products ∙ v.products_are);
  lowest_are = lowest-is g t k floor_slice lowest l (same_floors ∙ v.floors_are);
  areas_small = λ i h.
      let part = sum-part (λ x. get_or area_slice x 0) (is_above t i) t.leaves in
      let all : gathered operations.Sum (λ x. get_or area_slice x 0) (range_with_len 0 t.leaves) ≤ 4294967296 =
      subst (λ (xs : List ℕ). gathered operations.Sum (λ x. get_or xs x 0) (range_with_len 0 t.leaves) ≤ 4294967296) (sym same_areas) (areas-bound g t floors areas products k v) in
      let is = a.each i h in
      omega (arith, part, all, is);
}

-- altitude times area fits 64 bits
pub volumes-fit : (g : WeightedGraph) (t : ParentTree) (areas sums lowest slice : List ℕ) → HasGraphTree g t → AreSums g t areas sums lowest → slice ≡ areas → (i : ℕ) → i < nodes t →
    altitude_over t i * get_or slice i 0 < 2 ^ 64
volumes-fit g t areas sums lowest slice k v same i h =
    let light : altitude_over t i ≤ 4294967295 = (let p = k.small (parent t i) (k.well_formed.within i h) in omega (arith, p)) in
    let few : get_or slice i 0 ≤ 4294967296 = subst (λ (xs : List ℕ). get_or xs i 0 ≤ 4294967296) (sym same) (v.areas_small i h) in
    let product : altitude_over t i * get_or slice i 0 ≤ 4294967295 * 4294967296 = mul-le (altitude_over t i) (get_or slice i 0) 4294967295 4294967296 light few in
    omega (arith, product)

-- volume and sum of products are altitude times area
node-balance : (g : WeightedGraph) (t : ParentTree) (areas sums lowest : List ℕ) → HasGraphTree g t → AreSums g t areas sums lowest → (i : ℕ) → i < nodes t →
    volume_under g (altitude_over t i) (vertices_below t i) + get_or sums i 0 ≡ altitude_over t i * get_or areas i 0
node-balance g t areas sums lowest k v i h =
    ap (λ (y : ℕ). volume_under g (altitude_over t i) (vertices_below t i) + y) (v.products_are i h)
    ∙ balance g (altitude_over t i) (vertices_below t i) (floors-in g t k i h)
    ∙ ap (λ (y : ℕ). altitude_over t i * y) (sym (v.areas_are i h))

-- so the sum of products is no more than altitude times area
pub volumes-low : (g : WeightedGraph) (t : ParentTree) (areas sums lowest area_slice sum_slice : List ℕ) → HasGraphTree g t → AreSums g t areas sums lowest → area_slice ≡ areas → sum_slice ≡ sums → (i : ℕ) → i < nodes t →
    get_or sum_slice i 0 ≤ altitude_over t i * get_or area_slice i 0
volumes-low g t areas sums lowest area_slice sum_slice k v same_areas same_sums i h =
    let e = node-balance g t areas sums lowest k v i h in
    let low : get_or sums i 0 ≤ altitude_over t i * get_or areas i 0 = omega (arith, e) in
    subst (λ (xs : List ℕ). get_or xs i 0 ≤ altitude_over t i * get_or area_slice i 0) (sym same_sums)
    (subst (λ (xs : List ℕ). get_or sums i 0 ≤ altitude_over t i * get_or xs i 0) (sym same_areas) low)

-- and the lowest floor is no higher than the altitude
pub dynamics-low : (g : WeightedGraph) (t : ParentTree) (areas sums lowest slice : List ℕ) → HasGraphTree g t → AreSums g t areas sums lowest → slice ≡ lowest → (i : ℕ) → i < nodes t →
    get_or slice i 0 ≤ altitude_over t i
dynamics-low g t areas sums lowest slice k v same i h =
    subst (λ (xs : List ℕ). get_or xs i 0 ≤ altitude_over t i) (sym same)
    (subst (λ (y : ℕ). y ≤ altitude_over t i) (sym (v.lowest_are i h)) (lowest-low g t k i h))

-- so volumes and dynamics can be made of the sums
pub sums-give : (g : WeightedGraph) (t : ParentTree) (areas sums lowest area_slice sum_slice lowest_slice : List ℕ) → HasGraphTree g t → AreSums g t areas sums lowest →
    area_slice ≡ areas → sum_slice ≡ sums → lowest_slice ≡ lowest → GiveVolumes t area_slice sum_slice × GiveDynamics t lowest_slice
sums-give g t areas sums lowest area_slice sum_slice lowest_slice k v same_areas same_sums same_lowest = (
  record {
    one_area_each = ap (λ (xs : List ℕ). length xs) same_areas ∙ v.one_area_each;
    one_product_each = ap (λ (xs : List ℕ). length xs) same_sums ∙ v.one_product_each;
    fits = volumes-fit g t areas sums lowest area_slice k v same_areas;
    low = volumes-low g t areas sums lowest area_slice sum_slice k v same_areas same_sums;
  },
  record {
    one_each = ap (λ (xs : List ℕ). length xs) same_lowest ∙ v.one_lowest_each;
    low = dynamics-low g t areas sums lowest lowest_slice k v same_lowest;
  },
)

-- the lists of three kinds
abbrev pub three_lists : List ℕ → List ℕ → List ℕ → AttributeLists
three_lists a b d = record { areas = a; volumes = b; dynamics = d }

-- the three lists are the graph's attributes
pub record AreMade (g : WeightedGraph) (lists : AttributeLists) : Type 0 where
  pub result : lists ≡ attributes_of g
  pub fit : AreOfNodes lists

-- the areas, and what was made of altitudes and sums, are the attributes
pub attributes-made : (g : WeightedGraph) (t : ParentTree) (areas sums lowest volumes dynamics area_slice sum_slice lowest_slice : List ℕ) → t ≡ graph_tree g → HasGraphTree g t → AreSums g t areas sums lowest →
    area_slice ≡ areas → sum_slice ≡ sums → lowest_slice ≡ lowest →
    volumes ≡ map (λ i. altitude_over t i * get_or area_slice i 0 - get_or sum_slice i 0) (node_numbers t) → dynamics ≡ map (λ i. altitude_over t i - get_or lowest_slice i 0) (node_numbers t) →
    AreMade g (record { areas = areas; volumes = volumes; dynamics = dynamics })
attributes-made g t areas sums lowest volumes dynamics area_slice sum_slice lowest_slice same k v same_areas same_sums same_lowest volumes_made dynamics_made = record {
  result = ap (λ (xs : List ℕ). three_lists xs volumes dynamics) areas_are
      ∙ ap (λ (xs : List ℕ). three_lists (map (λ i. area_of g (vertices_below t i)) (node_numbers t)) xs dynamics) volumes_are
      ∙ ap (three_lists (map (λ i. area_of g (vertices_below t i)) (node_numbers t)) (map (λ i. volume_under g (altitude_over t i) (vertices_below t i)) (node_numbers t))) dynamics_are
      ∙ ap (attributes_in g) same;
  fit = record {
    few = (let long = v.one_area_each in let most = k.well_formed.small in omega (arith, long, most));
    one_volume_each = ap (λ (xs : List ℕ). length xs) volumes_made ∙ length-map-range_with_len (λ i. altitude_over t i * get_or area_slice i 0 - get_or sum_slice i 0) 0 (nodes t) ∙ sym v.one_area_each;
    one_dynamics_each = ap (λ (xs : List ℕ). length xs) dynamics_made ∙ length-map-range_with_len (λ i. altitude_over t i - get_or lowest_slice i 0) 0 (nodes t) ∙ sym v.one_area_each;
  };
}
  where
    areas_are : areas ≡ map (λ i. area_of g (vertices_below t i)) (node_numbers t)
    areas_are = fill_by_all (λ i. area_of g (vertices_below t i)) areas (nodes t) 0 v.one_area_each v.areas_are

    depth : (a b c : ℕ) → a + b ≡ c → c - b ≡ a
    depth a b c e = omega arith

    volumes_are : volumes ≡ map (λ i. volume_under g (altitude_over t i) (vertices_below t i)) (node_numbers t)
    volumes_are =
        volumes_made
        ∙ values-agree (λ i. altitude_over t i * get_or area_slice i 0 - get_or sum_slice i 0) (λ i. volume_under g (altitude_over t i) (vertices_below t i)) (nodes t)
        (λ i h.
        ap (λ (xs : List ℕ). altitude_over t i * get_or xs i 0 - get_or sum_slice i 0) same_areas
        ∙ ap (λ (xs : List ℕ). altitude_over t i * get_or areas i 0 - get_or xs i 0) same_sums
        ∙ depth (volume_under g (altitude_over t i) (vertices_below t i)) (get_or sums i 0) (altitude_over t i * get_or areas i 0) (node-balance g t areas sums lowest k v i h))

    dynamics_are : dynamics ≡ map (λ i. dynamics_under g (altitude_over t i) (vertices_below t i)) (node_numbers t)
    dynamics_are =
        dynamics_made
        ∙ values-agree (λ i. altitude_over t i - get_or lowest_slice i 0) (λ i. dynamics_under g (altitude_over t i) (vertices_below t i)) (nodes t)
        (λ i h.
        ap (λ (xs : List ℕ). altitude_over t i - get_or xs i 0) same_lowest
        ∙ ap (λ (y : ℕ). altitude_over t i - y) (v.lowest_are i h))
