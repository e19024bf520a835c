-- The passes that find survivors, persistences and extinctions.
use Rattle.std.proofs.Common.{◌≡◌, ◌≢◌, ℕ, zero, suc, ◌+◌, ◌-◌, ◌<◌, ◌≤◌, Bool, true, false, cond, ◌⊎◌, inl, inr, refl, sym, ◌∙◌, ap, subst, arith, List, [], ◌∷◌, ◌++◌, length, get_or, set, replicate, map}
use Rattle.std.specs.Prelude.{◌↔◌, ◌==◌, ◌&&◌, not, nat_lt, min, find, Option, Some, None}
use Rattle.std.specs.Option.{option_map_or}
use Rattle.std.specs.List.{range_with_len}
use Rattle.std.proofs.lemmas.Bool.{cases_eq, both_ways, and_left, and_from, and_parts, not-true, eq-eqb, ne_eqb, eqb-true, cond-true, cond-false, false_from_ne_true, lt-ltb, le-ltb, true_from_ne_false}
use Rattle.std.proofs.lemmas.List.{get_or-set_same, get_or-set_other, length-set}
use Rattle.std.proofs.lemmas.List.FromFn.{get_or-map-range_with_len, length-map-range_with_len}
use Rattle.hg_base.specs.Labels.{IsLabel}
use Rattle.tree_laws.specs.Tree.{ParentTree, parent}
use Rattle.partition_tree.specs.TreeLists.{IsWellFormed}
use Rattle.partition_tree.specs.Children.{child_count}
use Rattle.watershed_cut.specs.MinimumLabels.{LabelledMinima}
use Rattle.extinction.specs.Holding.{holds, least_held, child, child_holds, both_hold}
use Rattle.extinction.specs.Persistence.{persistence, persistences}
use Rattle.extinction.specs.Survivors.{dies, dying, survivor_after, survivors, survivor, dies_at, lives_at, extinction_by, extinctions}
use Rattle.extinction.specs.NodeSurvivors.{pair_of, AreChildPairs, AreOwnLabels, AreSurvivorsTo, AreSurvivors, both_live, label_after, value_after, dying_after, root_value, death_value, AreRootsFrom, AreDeathsFrom}
use Rattle.partition_tree.proofs.ListsByNumber.{values_more}
use Rattle.extinction.proofs.SideLemmas.{leaf-childless}
use Rattle.extinction.proofs.SurvivorLemmas.{outcome, table-length, survivor-outcome, survivor-own, survivor-zero, survivor-label}

-- lists that agree at each place are one
pub lists-same : (xs ys : List ℕ) → length xs ≡ length ys → ((i : ℕ) → i < length xs → get_or xs i 0 ≡ get_or ys i 0) → xs ≡ ys
lists-same [] [] long h = refl
lists-same [] (y ∷ ys) long h = absurd (omega arith)
lists-same (x ∷ xs) [] long h = absurd (omega arith)
lists-same (x ∷ xs) (y ∷ ys) long h =
    let first : x ≡ y = h 0 (omega arith) in
    let rest : xs ≡ ys = lists-same xs ys (omega arith) (λ i low. h (suc i) (omega arith)) in
    λ i. first i ∷ rest i

-- a number that is 0 exactly where the node holds nothing says whether it holds
live-holds : (x : ℕ) (h : Bool) → (x ≡ 0) ↔ (h ≡ false) → not (x == 0) ≡ h
live-holds zero true w = absurd (both_ways _ (w.0 refl) refl)
live-holds zero false w = refl
live-holds (suc x) true w = ap not (ne_eqb (suc x) 0 (λ e. omega arith))
live-holds (suc x) false w = absurd (let e : suc x ≡ 0 = w.1 refl in omega arith)

-- what is known at an inner node whose children are a and b
pub record IsAtNode (t : ParentTree) (m : LabelledMinima) (values : List ℕ) (labels : List ℕ) (i a b : ℕ) : Type 0 where
  pub node : i < length t.parents
  pub two : child_count t i ≡ 2
  pub first : a ≡ child t i 0
  pub second : b ≡ child t i 1
  pub first_less : a < i
  pub second_less : b < i
  pub first_label : get_or labels a 0 ≡ survivor t m values a
  pub second_label : get_or labels b 0 ≡ survivor t m values b

side-live : (t : ParentTree) (m : LabelledMinima) (values labels : List ℕ) → IsWellFormed t → (i k c : ℕ) → child_count t i ≡ 2 → k < 2 → c ≡ child t i k → c < length t.parents → get_or labels c 0 ≡ survivor t m values c → not (get_or labels c 0 == 0) ≡ child_holds t m i k
side-live t m values labels f i k c two low is hc own =
    ap (λ (x : ℕ). not (x == 0)) own ∙ live-holds (survivor t m values c) (holds t m c) (survivor-zero t m values f c hc)
    ∙ sym (ap (λ (n : ℕ). nat_lt k n && holds t m (child t i k)) two ∙ rw (lt-ltb k 2 low) (ap (holds t m) (sym is)))

-- so both have survivors exactly where both hold
pub both-live : (t : ParentTree) (m : LabelledMinima) (values labels : List ℕ) → IsWellFormed t → (i a b : ℕ) → IsAtNode t m values labels i a b → both_live labels a b ≡ both_hold t m i
both-live t m values labels f i a b n =
    let hi : i < length t.parents = n.node in
    let la : a < i = n.first_less in
    let lb : b < i = n.second_less in
    ap (λ (x : Bool). x && not (get_or labels b 0 == 0)) (side-live t m values labels f i 0 a n.two (omega arith) n.first (omega arith) n.first_label)
    ∙ ap (λ (x : Bool). child_holds t m i 0 && x) (side-live t m values labels f i 1 b n.two (omega arith) n.second (omega arith) n.second_label)

-- the survivor of the node
pub label-after : (t : ParentTree) (m : LabelledMinima) (values labels : List ℕ) → IsWellFormed t → (i a b own : ℕ) → IsAtNode t m values labels i a b →
    (child_holds t m i 0 ≡ false → child_holds t m i 1 ≡ false → own ≡ least_held t m i) → label_after values labels a b own ≡ survivor t m values i
label-after t m values labels f i a b own n o =
    ap (λ (p : Bool). outcome p (not (get_or labels b 0 == 0)) (get_or values a 0) (get_or values b 0) (get_or labels a 0) (get_or labels b 0) own) first
    ∙ ap (λ (q : Bool). outcome (child_holds t m i 0) q (get_or values a 0) (get_or values b 0) (get_or labels a 0) (get_or labels b 0) own) second
    ∙ ap (λ (x : ℕ). outcome (child_holds t m i 0) (child_holds t m i 1) (get_or values a 0) (get_or values b 0) x (get_or labels b 0) own) n.first_label
    ∙ ap (λ (y : ℕ). outcome (child_holds t m i 0) (child_holds t m i 1) (get_or values a 0) (get_or values b 0) (survivor t m values a) y own) n.second_label
    ∙ outcome-own (child_holds t m i 0) (child_holds t m i 1) (get_or values a 0) (get_or values b 0) (survivor t m values a) (survivor t m values b) own (least_held t m i) o
    ∙ ap (λ (c : ℕ). outcome (child_holds t m i 0) (child_holds t m i 1) (get_or values c 0) (get_or values b 0) (survivor t m values c) (survivor t m values b) (least_held t m i)) n.first
    ∙ ap (λ (c : ℕ). outcome (child_holds t m i 0) (child_holds t m i 1) (get_or values (child t i 0) 0) (get_or values c 0) (survivor t m values (child t i 0)) (survivor t m values c) (least_held t m i)) n.second
    ∙ sym (survivor-outcome t m values f i n.node)
  where
    hi : i < length t.parents
    hi = n.node

    la : a < i
    la = n.first_less

    lb : b < i
    lb = n.second_less

    first : not (get_or labels a 0 == 0) ≡ child_holds t m i 0
    first = side-live t m values labels f i 0 a n.two (omega arith) n.first (omega arith) n.first_label

    second : not (get_or labels b 0 == 0) ≡ child_holds t m i 1
    second = side-live t m values labels f i 1 b n.two (omega arith) n.second (omega arith) n.second_label

    outcome-own : (p q : Bool) (va vb x y v w : ℕ) → (p ≡ false → q ≡ false → v ≡ w) → outcome p q va vb x y v ≡ outcome p q va vb x y w
    outcome-own true true va vb x y v w h = refl
    outcome-own true false va vb x y v w h = refl
    outcome-own false true va vb x y v w h = refl
    outcome-own false false va vb x y v w h = h refl refl

-- its persistence
pub value-after : (t : ParentTree) (m : LabelledMinima) (values labels : List ℕ) → IsWellFormed t → (i a b : ℕ) → IsAtNode t m values labels i a b → value_after values labels a b ≡ persistence t m values i
value-after t m values labels f i a b n =
    ap (λ (p : Bool). cond p (min (get_or values a 0) (get_or values b 0)) 0) (both-live t m values labels f i a b n)
    ∙ ap (λ (c : ℕ). cond (both_hold t m i) (min (get_or values c 0) (get_or values b 0)) 0) n.first
    ∙ ap (λ (c : ℕ). cond (both_hold t m i) (min (get_or values (child t i 0) 0) (get_or values c 0)) 0) n.second

-- and the child that dies
pub dying-after : (t : ParentTree) (m : LabelledMinima) (values labels : List ℕ) → IsWellFormed t → (i a b : ℕ) → IsAtNode t m values labels i a b → dying_after values labels a b ≡ cond (both_hold t m i) (Some (dying t values labels i)) None
dying-after t m values labels f i a b n =
    ap (λ (p : Bool). cond p (Some (cond (dies values labels a b) a b)) None) (both-live t m values labels f i a b n)
    ∙ ap (λ (c : ℕ). cond (both_hold t m i) (Some (cond (dies values labels c b) c b)) None) n.first
    ∙ ap (λ (c : ℕ). cond (both_hold t m i) (Some (cond (dies values labels (child t i 0) c) (child t i 0) c)) None) n.second

-- the leaves have their own labels
pub survivors-first : (t : ParentTree) (m : LabelledMinima) (values : List ℕ) → IsWellFormed t → (i : ℕ) (labels : List ℕ) → i ≡ t.leaves → AreOwnLabels t m labels → AreSurvivorsTo t m values i labels
survivors-first t m values f i labels start own = record {
  one_each = own.one_each;
  done = λ j low hj.
      let off : (k : ℕ) → child_holds t m j k ≡ false = λ k. and_left _ _ (ap (nat_lt k) (leaf-childless t f j (omega arith)) ∙ le-ltb k 0 (omega arith)) in
      own.each j hj (off 0) (off 1) ∙ sym (survivor-own t m values f j hj (off 0) (off 1));
  own = λ j low hj p q. own.each j hj p q;
}

-- one more node
pub survivors-more : (t : ParentTree) (m : LabelledMinima) (values : List ℕ) → IsWellFormed t → (i label : ℕ) (labels new : List ℕ) → i < length t.parents → AreSurvivorsTo t m values i labels → label ≡ survivor t m values i → new ≡ set labels i label → AreSurvivorsTo t m values (i + 1) new
survivors-more t m values f i label labels new hi a is made = record {
  one_each = ap length made ∙ length-set labels i label ∙ a.one_each;
  done = λ j low hj. elim (cases_eq j i) [
    | inl same ↦ ap (λ (k : ℕ). get_or new k 0) same ∙ ap (λ (xs : List ℕ). get_or xs i 0) made ∙ get_or-set_same labels i label 0 (let long : length labels ≡ length t.parents = a.one_each in omega arith) ∙ is ∙ ap (survivor t m values) (sym same)
    | inr other ↦ elsewhere j other ∙ a.done j (grind (arith, low, other)) hj
  ];
  own = λ j low hj p q. let other : j ≢ i = λ same. omega arith in elsewhere j other ∙ a.own j (omega arith) hj p q;
}
  where
    elsewhere : (j : ℕ) → j ≢ i → get_or new j 0 ≡ get_or labels j 0
    elsewhere j other = ap (λ (xs : List ℕ). get_or xs j 0) made ∙ get_or-set_other labels i j label 0 other

-- at the end all are survivors
pub survivors-all : (t : ParentTree) (m : LabelledMinima) (values : List ℕ) (i : ℕ) (labels : List ℕ) → length t.parents ≤ i → AreSurvivorsTo t m values i labels → labels ≡ survivors t m values
survivors-all t m values i labels end a =
    let long : length labels ≡ length t.parents = a.one_each in
    lists-same labels (survivors t m values) (long ∙ sym (table-length (survivor_after t m values) (length t.parents))) (λ j low. a.done j (omega arith) (omega arith))

-- a search from one number on
find-next : (p : ℕ → Bool) (i n : ℕ) → i < n → find p (range_with_len i (n - i)) ≡ cond (p i) (Some i) (find p (range_with_len (i + 1) (n - (i + 1))))
find-next p i n h = let e : n - i ≡ suc (n - (i + 1)) = omega arith in ap (λ (k : ℕ). find p (range_with_len i k)) e

-- one more number is written into a list of one for each label
pub written-more : (count label v : ℕ) (noted new : List ℕ) (before after : ℕ → ℕ) → length noted ≡ count → IsLabel count label → ((k : ℕ) → k < count → get_or noted k 0 ≡ before (suc k)) → new ≡ set noted (label - 1) v → after label ≡ v → ((k : ℕ) → k ≢ label → after k ≡ before k) →
    (k : ℕ) → k < count → get_or new k 0 ≡ after (suc k)
written-more count label v noted new before after long is each made own others k hk =
    let low : 1 ≤ label = is.positive in
    let high : label ≤ count = is.most in
    elim (cases_eq (suc k) label) [
      | inl same ↦
          let e : k ≡ label - 1 = omega arith in
          ap (λ (z : ℕ). get_or new z 0) e ∙ ap (λ (xs : List ℕ). get_or xs (label - 1) 0) made ∙ get_or-set_same noted (label - 1) v 0 (omega arith) ∙ sym own ∙ ap after (sym same)
      | inr other ↦
          let away : k ≢ label - 1 = λ e. other (omega arith) in
          ap (λ (xs : List ℕ). get_or xs k 0) made ∙ get_or-set_other noted (label - 1) k v 0 away ∙ each k hk ∙ sym (others (suc k) other)
    ]

-- the value of a root, one node further down
root-next : (t : ParentTree) (values labels : List ℕ) (i label : ℕ) → i < length t.parents → root_value t values labels i label ≡ cond (lives_at t labels label i) (get_or values i 0) (root_value t values labels (i + 1) label)
root-next t values labels i label h =
    ap (λ (o : Option ℕ). option_map_or (λ j. get_or values j 0) o 0) (find-next (lives_at t labels label) i (length t.parents) h)
    ∙ choice (lives_at t labels label i)
  where
    choice : (b : Bool) → option_map_or (λ j. get_or values j 0) (cond b (Some i) (find (lives_at t labels label) (range_with_len (i + 1) (length t.parents - (i + 1))))) 0 ≡ cond b (get_or values i 0) (root_value t values labels (i + 1) label)
    choice true = refl
    choice false = refl

death-next : (t : ParentTree) (m : LabelledMinima) (values labels : List ℕ) (i label : ℕ) → i < length t.parents → death_value t m values labels i label ≡ cond (dies_at t m values labels label i) (get_or values (dying t values labels i) 0) (death_value t m values labels (i + 1) label)
death-next t m values labels i label h =
    ap (λ (o : Option ℕ). option_map_or (λ j. get_or values (dying t values labels j) 0) o (root_value t values labels 0 label)) (find-next (dies_at t m values labels label) i (length t.parents) h)
    ∙ choice (dies_at t m values labels label i)
  where
    choice : (b : Bool) → option_map_or (λ j. get_or values (dying t values labels j) 0) (cond b (Some i) (find (dies_at t m values labels label) (range_with_len (i + 1) (length t.parents - (i + 1))))) (root_value t values labels 0 label) ≡ cond b (get_or values (dying t values labels i) 0) (death_value t m values labels (i + 1) label)
    choice true = refl
    choice false = refl

-- before the first node there is nothing
pub roots-first : (t : ParentTree) (m : LabelledMinima) (values labels noted : List ℕ) (n : ℕ) → n ≡ length t.parents → noted ≡ replicate m.count 0 → AreRootsFrom t m values labels n noted
roots-first t m values labels noted n end made = record {
  one_each = ap length made ∙ long m.count;
  each = λ k hk. ap (λ (xs : List ℕ). get_or xs k 0) made ∙ copies 0 m.count k
      ∙ sym (let e : length t.parents - n ≡ 0 = omega arith in ap (λ (z : ℕ). option_map_or (λ j. get_or values j 0) (find (lives_at t labels (suc k)) (range_with_len n z)) 0) e);
}
  where
    copies : (c n i : ℕ) → get_or (replicate n c) i c ≡ c
    copies c zero i = refl
    copies c (suc n) zero = refl
    copies c (suc n) (suc i) = copies c n i

    long : (n : ℕ) → length (replicate {A = ℕ} n 0) ≡ n
    long zero = refl
    long (suc n) = let rest = long n in omega arith

pub deaths-first : (t : ParentTree) (m : LabelledMinima) (values labels noted : List ℕ) (n : ℕ) → n ≡ length t.parents → AreRootsFrom t m values labels 0 noted → AreDeathsFrom t m values labels n noted
deaths-first t m values labels noted n end a = record {
  one_each = a.one_each;
  each = λ k hk. a.each k hk
      ∙ sym (let e : length t.parents - n ≡ 0 = omega arith in ap (λ (z : ℕ). option_map_or (λ j. get_or values (dying t values labels j) 0) (find (dies_at t m values labels (suc k)) (range_with_len n z)) (root_value t values labels 0 (suc k))) e);
}

-- a node that is no root, or has no survivor
pub roots-same : (t : ParentTree) (m : LabelledMinima) (values labels noted : List ℕ) (i : ℕ) → i < length t.parents → (parent t i ≢ i) ⊎ (get_or labels i 0 ≡ 0) → AreRootsFrom t m values labels (i + 1) noted → AreRootsFrom t m values labels i noted
roots-same t m values labels noted i hi off a = record {
  one_each = a.one_each;
  each = λ k hk. a.each k hk ∙ sym (root-next t values labels i (suc k) hi ∙ cond-false (lives_at t labels (suc k) i) _ _ (false_from_ne_true (lives_at t labels (suc k) i) (λ y.
      let p = and_parts (parent t i == i) (get_or labels i 0 == suc k) y in
      elim off [
        | inl other ↦ other (eqb-true (parent t i) i p.0)
        | inr none' ↦ (let e = eqb-true (get_or labels i 0) (suc k) p.1 in omega arith)
      ])));
}

-- a root
pub roots-more : (t : ParentTree) (m : LabelledMinima) (values labels noted new : List ℕ) (i label v : ℕ) → i < length t.parents → parent t i ≡ i → label ≡ get_or labels i 0 → IsLabel m.count label → v ≡ get_or values i 0 → new ≡ set noted (label - 1) v → AreRootsFrom t m values labels (i + 1) noted → AreRootsFrom t m values labels i new
roots-more t m values labels noted new i label v hi root is lab own made a = record {
  one_each = ap length made ∙ length-set noted (label - 1) v ∙ a.one_each;
  each = written-more m.count label v noted new (root_value t values labels (i + 1)) (root_value t values labels i) a.one_each lab a.each made
      (root-next t values labels i label hi ∙ cond-true (lives_at t labels label i) _ _ (and_from _ _ (eq-eqb (parent t i) i root) (eq-eqb (get_or labels i 0) label (sym is))) ∙ sym own)
      (λ k other. root-next t values labels i k hi ∙ cond-false (lives_at t labels k i) _ _ (false_from_ne_true (lives_at t labels k i) (λ y. other (sym (eqb-true (get_or labels i 0) k (and_parts (parent t i == i) (get_or labels i 0 == k) y).1) ∙ sym is))));
}

-- a node at which no label dies
pub deaths-same : (t : ParentTree) (m : LabelledMinima) (values labels noted : List ℕ) (i : ℕ) → i < length t.parents → both_hold t m i ≡ false → AreDeathsFrom t m values labels (i + 1) noted → AreDeathsFrom t m values labels i noted
deaths-same t m values labels noted i hi off a = record {
  one_each = a.one_each;
  each = λ k hk. a.each k hk ∙ sym (death-next t m values labels i (suc k) hi ∙ cond-false (dies_at t m values labels (suc k) i) _ _ (and_left _ _ off));
}

-- a node at which one does
pub deaths-more : (t : ParentTree) (m : LabelledMinima) (values labels noted new : List ℕ) (i c label v : ℕ) → i < length t.parents → both_hold t m i ≡ true → c ≡ dying t values labels i → label ≡ get_or labels c 0 → IsLabel m.count label → v ≡ get_or values c 0 → new ≡ set noted (label - 1) v → AreDeathsFrom t m values labels (i + 1) noted → AreDeathsFrom t m values labels i new
deaths-more t m values labels noted new i c label v hi both dead is lab own made a = record {
  one_each = ap length made ∙ length-set noted (label - 1) v ∙ a.one_each;
  each = written-more m.count label v noted new (death_value t m values labels (i + 1)) (death_value t m values labels i) a.one_each lab a.each made
      (death-next t m values labels i label hi ∙ cond-true (dies_at t m values labels label i) _ _ (and_from _ _ both (eq-eqb (get_or labels (dying t values labels i) 0) label its)) ∙ ap (λ (z : ℕ). get_or values z 0) (sym dead) ∙ sym own)
      (λ k other. death-next t m values labels i k hi ∙ cond-false (dies_at t m values labels k i) _ _ (false_from_ne_true (dies_at t m values labels k i) (λ y. other (sym (eqb-true (get_or labels (dying t values labels i) 0) k (and_parts (both_hold t m i) (get_or labels (dying t values labels i) 0 == k) y).1) ∙ its))));
}
  where
    its : get_or labels (dying t values labels i) 0 ≡ label
    its = ap (λ (z : ℕ). get_or labels z 0) (sym dead) ∙ sym is

-- at no leaf a label dies
pub deaths-down : (t : ParentTree) (m : LabelledMinima) (values labels noted : List ℕ) → IsWellFormed t → (i : ℕ) → i ≤ t.leaves → t.leaves ≤ length t.parents → AreDeathsFrom t m values labels i noted → AreDeathsFrom t m values labels 0 noted
deaths-down t m values labels noted f zero low few a = a
deaths-down t m values labels noted f (suc i) low few a =
    let off : child_holds t m i 0 ≡ false = and_left _ _ (ap (nat_lt 0) (leaf-childless t f i (omega arith))) in
    let e : suc i ≡ i + 1 = omega arith in
    deaths-down t m values labels noted f i (omega arith) few (deaths-same t m values labels noted i (omega arith) (and_left _ _ off) (subst (λ (k : ℕ). AreDeathsFrom t m values labels k noted) e a))

-- so the values are the extinctions
pub deaths-all : (t : ParentTree) (m : LabelledMinima) (values labels noted : List ℕ) → labels ≡ survivors t m values → AreDeathsFrom t m values labels 0 noted → noted ≡ extinctions t m values
deaths-all t m values labels noted own b =
    let long : length (extinctions t m values) ≡ m.count = length-map-range_with_len (extinction_by t m values (survivors t m values)) 1 m.count in
    lists-same noted (extinctions t m values) (b.one_each ∙ sym long) (λ k low.
    let hk : k < m.count = (let e = b.one_each in omega arith) in
    b.each k hk ∙ whole k
    ∙ ap (λ (xs : List ℕ). extinction_by t m values xs (suc k)) own
    ∙ sym (get_or-map-range_with_len (extinction_by t m values (survivors t m values)) 1 m.count k (suc k) 0 hk (omega arith)))
  where
    -- the search over all nodes
    whole : (k : ℕ) → death_value t m values labels 0 (suc k) ≡ extinction_by t m values labels (suc k)
    whole k =
        let e : length t.parents - 0 ≡ length t.parents = omega arith in
        ap (λ (n : ℕ). option_map_or (λ j. get_or values (dying t values labels j) 0) (find (dies_at t m values labels (suc k)) (range_with_len 0 n))
        (option_map_or (λ j. get_or values j 0) (find (lives_at t labels (suc k)) (range_with_len 0 n)) 0)) e

-- what is known at an inner node by the pairs, where the survivors before it are known
pub at-node : (t : ParentTree) (m : LabelledMinima) (values labels : List ℕ) (pairs slice : List (ℕ × ℕ)) (i a b : ℕ) → AreChildPairs t pairs → slice ≡ pairs → t.leaves ≤ i → i < length t.parents → a ≡ (pair_of t slice i).0 → b ≡ (pair_of t slice i).1 → a < i → b < i →
    ((j : ℕ) → j < i → j < length t.parents → get_or labels j 0 ≡ survivor t m values j) → IsAtNode t m values labels i a b
at-node t m values labels pairs slice i a b p same inner hi ea eb la lb done = record {
  node = hi;
  two = p.two i inner hi;
  first = ea ∙ ap (λ (xs : List (ℕ × ℕ)). (pair_of t xs i).0) same ∙ p.first i inner hi;
  second = eb ∙ ap (λ (xs : List (ℕ × ℕ)). (pair_of t xs i).1) same ∙ p.second i inner hi;
  first_less = la;
  second_less = lb;
  first_label = done a la (omega arith);
  second_label = done b lb (omega arith);
}

-- how many survivors there are
pub survivors-length : (t : ParentTree) (m : LabelledMinima) (values : List ℕ) (pairs : List (ℕ × ℕ)) (labels : List ℕ) → AreSurvivors t m values pairs labels → length labels ≡ length t.parents
survivors-length t m values pairs labels s = ap (λ (xs : List ℕ). length xs) s.labels_are ∙ table-length (survivor_after t m values) (length t.parents)

-- what is known at an inner node once all survivors are
pub at-survivors : (t : ParentTree) (m : LabelledMinima) (values labels : List ℕ) (pairs slice : List (ℕ × ℕ)) (i a b : ℕ) → AreSurvivors t m values pairs labels → slice ≡ pairs → t.leaves ≤ i → i < length t.parents → a ≡ (pair_of t slice i).0 → b ≡ (pair_of t slice i).1 → a < i → b < i → IsAtNode t m values labels i a b
at-survivors t m values labels pairs slice i a b s same inner hi ea eb la lb =
    at-node t m values labels pairs slice i a b s.pairs_are same inner hi ea eb la lb (λ j low hj. ap (λ (xs : List ℕ). get_or xs j 0) s.labels_are)

-- a survivor that isn't 0 is a label
pub survivor-is_label : (t : ParentTree) (m : LabelledMinima) (values : List ℕ) (pairs : List (ℕ × ℕ)) (labels : List ℕ) → IsWellFormed t → AreSurvivors t m values pairs labels → (i label : ℕ) → i < length t.parents → label ≡ get_or labels i 0 → label ≢ 0 → IsLabel m.count label
survivor-is_label t m values pairs labels f s i label hi is some' =
    let own : label ≡ survivor t m values i = is ∙ ap (λ (xs : List ℕ). get_or xs i 0) s.labels_are in
    subst (IsLabel m.count) (sym own) (survivor-label t m values f i hi (true_from_ne_false (holds t m i) (λ off. some' (own ∙ (survivor-zero t m values f i hi).1 off))))

-- one more persistence
pub persist-more : (t : ParentTree) (m : LabelledMinima) (values labels items new : List ℕ) → IsWellFormed t → (i a b v leaves : ℕ) → leaves ≡ t.leaves → t.leaves ≤ i → IsAtNode t m values labels i a b → v ≡ value_after values labels a b →
    items ≡ map (λ k. persistence t m values (t.leaves + k)) (range_with_len 0 (i - leaves)) → new ≡ items ++ v ∷ [] → new ≡ map (λ k. persistence t m values (t.leaves + k)) (range_with_len 0 (i + 1 - leaves))
persist-more t m values labels items new f i a b v leaves same inner node is so_far made =
    let at : t.leaves + (i - leaves) ≡ i = omega arith in
    let next' : (i - leaves) + 1 ≡ i + 1 - leaves = omega arith in
    subst (λ (k : ℕ). new ≡ map (λ j. persistence t m values (t.leaves + j)) (range_with_len 0 k)) next'
    (values_more (λ j. persistence t m values (t.leaves + j)) (i - leaves) v items new so_far (is ∙ value-after t m values labels f i a b node ∙ ap (persistence t m values) (sym at)) made)

pub persist-all : (t : ParentTree) (m : LabelledMinima) (values items : List ℕ) → IsWellFormed t → (i leaves : ℕ) → leaves ≡ t.leaves → i ≡ length t.parents → items ≡ map (λ k. persistence t m values (t.leaves + k)) (range_with_len 0 (i - leaves)) → items ≡ persistences t m values
persist-all t m values items f i leaves same end so_far =
    let long : i - leaves ≡ length t.makers = (let e = f.one_maker_each in omega arith) in
    so_far ∙ ap (λ (n : ℕ). map (λ k. persistence t m values (t.leaves + k)) (range_with_len 0 n)) long

-- a number read with itself in place of a default
pub read-own : (xs : List ℕ) (k x : ℕ) → k < length xs → x ≡ get_or xs k x → x ≡ get_or xs k 0
read-own [] k x low e = absurd (omega arith)
read-own (y ∷ ys) zero x low e = e
read-own (y ∷ ys) (suc k) x low e = read-own ys k x (omega arith) e

-- which child dies, if one does
some-apart : {x : ℕ} → Some x ≡ None → ⊥
some-apart e = cc

pub dying-none : (t : ParentTree) (m : LabelledMinima) (values labels : List ℕ) → IsWellFormed t → (i a b : ℕ) → IsAtNode t m values labels i a b → dying_after values labels a b ≡ None → both_hold t m i ≡ false
dying-none t m values labels f i a b n none' = false_from_ne_true (both_hold t m i) (λ both.
    some-apart (sym (dying-after t m values labels f i a b n ∙ cond-true (both_hold t m i) _ _ both) ∙ none'))

pub record IsDeath (t : ParentTree) (m : LabelledMinima) (values labels : List ℕ) (i c : ℕ) : Type 0 where
  pub both : both_hold t m i ≡ true
  pub child_is : c ≡ dying t values labels i
  pub less : c < i
  pub some_label : get_or labels c 0 ≢ 0

none-apart : {x : ℕ} → None ≡ Some x → ⊥
none-apart e = cc

same-some : {x y : ℕ} → Some x ≡ Some y → x ≡ y
same-some e = cc

pub dying-some : (t : ParentTree) (m : LabelledMinima) (values labels : List ℕ) → IsWellFormed t → (i a b c : ℕ) → IsAtNode t m values labels i a b → dying_after values labels a b ≡ Some c → IsDeath t m values labels i c
dying-some t m values labels f i a b c n some' =
    let both : both_hold t m i ≡ true = true_from_ne_false (both_hold t m i) (λ off. none-apart (sym (dying-after t m values labels f i a b n ∙ cond-false (both_hold t m i) _ _ off) ∙ some')) in
    let live : both_live labels a b ≡ true = both-live t m values labels f i a b n ∙ both in
    let parts = and_parts (not (get_or labels a 0 == 0)) (not (get_or labels b 0 == 0)) live in
    let is : cond (dies values labels a b) a b ≡ c = same-some (sym (cond-true (both_live labels a b) (Some (cond (dies values labels a b) a b)) None live) ∙ some') in
    record {
      both = both;
      child_is = same-some (sym some' ∙ dying-after t m values labels f i a b n ∙ cond-true (both_hold t m i) _ _ both);
      less = subst (λ (z : ℕ). z < i) is (either (λ z. z < i) (dies values labels a b) n.first_less n.second_less);
      some_label = subst (λ (z : ℕ). get_or labels z 0 ≢ 0) is (either (λ z. get_or labels z 0 ≢ 0) (dies values labels a b) (some-of parts.0) (some-of parts.1));
    }
  where
    either : (P : ℕ → Type 0) (d : Bool) → P a → P b → P (cond d a b)
    either P true x y = x
    either P false x y = y

    some-of : {x : ℕ} → not (x == 0) ≡ true → x ≢ 0
    some-of {x} h e = both_ways _ (not-true _ h) (eq-eqb x 0 e)
