-- What a pool has at a number, before and after a write; pools that differ in notes alone.
use Rattle.std.proofs.Common.{◌≡◌, ℕ, zero, suc, ◌+◌, ◌-◌, ◌<◌, ◌≤◌, ◌⊎◌, inl, inr, refl, sym, ◌∙◌, subst, ap, arith, List, set, length}
use Rattle.std.specs.Prelude.{Option, Some, None, IsSome, IfSome}
use Rattle.std.proofs.lemmas.Bool.{cases_eq, true≢false}
use Rattle.std.proofs.lemmas.List.{length-set}
use Rattle.node_region.specs.Pool.{CellPool, IsCovered, IsUsed, entry, cell_at, leaf_of, turn_of, finger_of, with_finger}
use Rattle.node_region.specs.declared.cell.Cell.{Cell}
use Rattle.node_region.specs.declared.cell.Hint.{Hint}
use Rattle.node_region.proofs.Entries.{entry-set_same, entry-set_other, entry-covered}
use Rattle.border_climb.specs.Stands.{IsMet}
use Rattle.border_climb.specs.Linked.{HasRank}
use Rattle.border_climb.specs.Notes.{IsLive, IsSound, IsClimbable, IsNote, IsNoted}

-- what there is after a write: what was written, or what was there before
pub entry-cases : {X : Type 0} (first : ℕ) (xs : List (Option X)) (id : ℕ) (y : Option X) (i : ℕ) (v : X) → first ≤ id → entry first (set xs (id - first) y) i ≡ Some v →
    ((i ≡ id) × (y ≡ Some v)) ⊎ ((i ≡ id → ⊥) × (entry first xs i ≡ Some v))
entry-cases {X} first xs id y i v low eq =
    let within = entry-covered first (set xs (id - first) y) i (subst (λ (o : Option X). IsSome o) (sym eq) refl) in
    let from : first ≤ i = within.0 in
    let to : i < first + length (set xs (id - first) y) = within.1 in
    let long : length (set xs (id - first) y) ≡ length xs = length-set xs (id - first) y in
    elim (cases_eq i id) [
      | inl same ↦ inl (same, sym (entry-set_same first xs id y low (omega arith)) ∙ ap (λ (j : ℕ). entry first (set xs (id - first) y) j) (sym same) ∙ eq)
      | inr other ↦ inr (other, sym (entry-set_other first xs id i y low from other) ∙ eq)
    ]

-- a number with a cell is one of the range
pub used-covered : (pool : CellPool) (id : ℕ) (c : Cell) → cell_at pool id ≡ Some c → IsCovered pool id
used-covered pool id c is = entry-covered pool.first pool.cells id (subst (λ (o : Option Cell). IsSome o) (sym is) refl)

pub used-from : (pool : CellPool) (id : ℕ) (c : Cell) → cell_at pool id ≡ Some c → IsUsed pool id
used-from pool id c is = subst (λ (o : Option Cell). IsSome o) (sym is) refl

-- a used number has a cell
pub used-cell : (pool : CellPool) (id : ℕ) → IsUsed pool id → (c : Cell) × (cell_at pool id ≡ Some c)
used-cell pool id used = go (cell_at pool id) refl used
  where
    go : (o : Option Cell) → cell_at pool id ≡ o → IsSome o → (c : Cell) × (cell_at pool id ≡ Some c)
    go None eq u = absurd (true≢false (sym u))
    go (Some c) eq u = (c, eq)

-- two cells of one number are one
pub one-cell : (pool : CellPool) (id : ℕ) (b c : Cell) → cell_at pool id ≡ Some b → cell_at pool id ≡ Some c → b ≡ c
one-cell pool id b c p q = let same : Some b ≡ Some c = sym p ∙ q in cc

-- the rank of a number's cell
pub seat-rank : (pool : CellPool) (id r : ℕ) (c : Cell) → HasRank pool id r → cell_at pool id ≡ Some c → c.rank ≡ r
seat-rank pool id r c h is = ap (λ (y : Cell). y.rank) (one-cell pool id c h.cell is h.is) ∙ h.has

pub some-map : {X : Type 0} (P Q : X → Type 0) (o : Option X) → ((x : X) → P x → Q x) → IfSome o P → IfSome o Q
some-map P Q None f h = tt
some-map P Q (Some x) f h = f x h

-- the second pool has the same cells and links, and the same turns
pub record SameLinks (p q : CellPool) : Type 0 where
  pub cells : (i : ℕ) → cell_at q i ≡ cell_at p i
  pub leafs : (x : ℕ) → leaf_of q x ≡ leaf_of p x
  pub turns : (i : ℕ) → turn_of q i ≡ turn_of p i
  pub covered : (x : ℕ) → IsCovered q x → IsCovered p x
  pub still_covered : (x : ℕ) → IsCovered p x → IsCovered q x

pub links-noted : (p q : CellPool) (l : ℕ) → IsNoted p q l → SameLinks p q
links-noted p q l n = record {
  cells = λ i. ap (λ (w : CellPool). cell_at w i) n.others;
  leafs = λ x. ap (λ (w : CellPool). leaf_of w x) n.others;
  turns = λ i. ap (λ (w : CellPool). turn_of w i) n.others;
  covered = λ x. subst (λ (w : CellPool). IsCovered w x) n.others;
  still_covered = λ x. subst (λ (w : CellPool). IsCovered w x) (sym n.others);
}

pub links-differs : (p q : CellPool) → q ≡ record p { hints = q.hints; fingers = q.fingers } → SameLinks p q
links-differs p q eq = record {
  cells = λ i. ap (λ (w : CellPool). cell_at w i) eq;
  leafs = λ x. ap (λ (w : CellPool). leaf_of w x) eq;
  turns = λ i. ap (λ (w : CellPool). turn_of w i) eq;
  covered = λ x. subst (λ (w : CellPool). IsCovered w x) eq;
  still_covered = λ x. subst (λ (w : CellPool). IsCovered w x) (sym eq);
}

pub links-back : (p q : CellPool) → SameLinks p q → SameLinks q p
links-back p q s = record {
  cells = λ i. sym (s.cells i);
  leafs = λ x. sym (s.leafs x);
  turns = λ i. sym (s.turns i);
  covered = s.still_covered;
  still_covered = s.covered;
}

pub met-same : (p q : CellPool) → SameLinks p q → (d : ℕ) (o : Option ℕ) (j : ℕ) → IsMet p d o j → IsMet q d o j
met-same p q s d None j m = absurd m
met-same p q s zero (Some i) j m = m
met-same p q s (suc d) (Some i) j m = (m.0, (s.cells i ∙ m.1.0, met-same p q s d m.0.up j m.1.1))

abbrev pub rank-same : (p q : CellPool) → SameLinks p q → (i r : ℕ) → HasRank p i r → HasRank q i r
rank-same p q s i r h = record { cell = h.cell; is = s.cells i ∙ h.is; has = h.has }

abbrev pub live-same : (p q : CellPool) → SameLinks p q → (h : Hint) → IsLive p h → IsLive q h
live-same p q s h v = record { cell = v.cell; is = s.cells h.cell ∙ v.is; turn = s.turns h.cell ∙ v.turn; fresh = v.fresh }

-- one way up, and then another
pub met-on : (pool : CellPool) (d : ℕ) (o : Option ℕ) (i : ℕ) (c : Cell) → IsMet pool d o i → cell_at pool i ≡ Some c → (e j : ℕ) → IsMet pool e c.up j → (n : ℕ) × IsMet pool n o j
met-on pool d None i c m is e j k = absurd m
met-on pool zero (Some a) i c m is e j k = (suc e, (c, (ap (λ (n : ℕ). cell_at pool n) m ∙ is, k)))
met-on pool (suc d) (Some a) i c m is e j k = let n = met-on pool d m.0.up i c m.1.1 is e j k in (suc n.0, (m.0, (m.1.0, n.1)))

-- what is met further up has a higher rank
pub met-rises : (pool : CellPool) (l : ℕ) → IsClimbable pool l → (d i : ℕ) (c : Cell) → cell_at pool i ≡ Some c → l ≤ c.rank → (o : Option ℕ) → c.up ≡ o → (j : ℕ) → IsMet pool d o j →
    (b : Cell) × ((cell_at pool j ≡ Some b) × (c.rank < b.rank))
met-rises pool l k d i c is low None up j m = absurd m
met-rises pool l k zero i c is low (Some a) up j m =
    let n = k.ups i a c is low up in (n.0, (ap (λ (x : ℕ). cell_at pool x) (sym m) ∙ n.1.0, n.1.1))
met-rises pool l k (suc d) i c is low (Some a) up j m =
    let n = k.ups i a c is low up in
    let same : n.0 ≡ m.0 = one-cell pool a n.0 m.0 n.1.0 m.1.0 in
    let higher : c.rank < m.0.rank = subst (λ (y : Cell). c.rank < y.rank) same n.1.1 in
    let further = met-rises pool l k d a m.0 m.1.0 (omega arith) m.0.up refl j m.1.1 in
    let far : m.0.rank < further.0.rank = further.1.1 in
    (further.0, (further.1.0, omega arith))

-- a note that leads up in one pool does in the other
pub note-same : (p q : CellPool) → SameLinks p q → (l i : ℕ) (h : Hint) → IsNote p l i h → IsNote q l i h
note-same p q s l i h n = record {
  cell = n.cell;
  is = s.cells i ∙ n.is;
  from = n.from;
  links = n.links;
  met = met-same p q s n.links n.cell.up h.cell n.met;
  turn = n.turn ∙ sym (s.turns h.cell);
}

pub note-lower : (p : CellPool) (l k i : ℕ) (h : Hint) → k ≤ l → IsNote p l i h → IsNote p k i h
note-lower p l k i h low n = let from : l ≤ n.cell.rank = n.from in record { cell = n.cell; is = n.is; from = omega arith; links = n.links; met = n.met; turn = n.turn }

pub noted-trans : (p q w : CellPool) (l : ℕ) → IsNoted p q l → IsNoted q w l → IsNoted p w l
noted-trans p q w l a b = record {
  others = b.others ∙ ap (λ (y : CellPool). record y { hints = w.hints }) a.others;
  each = λ i h is. elim (b.each i h is) [
    | inl old ↦ a.each i h old
    | inr made ↦ inr (note-same q p (links-back p q (links-noted p q l a)) l i h made)
  ];
}

pub noted-self : (p : CellPool) (l : ℕ) → IsNoted p p l
noted-self p l = record { others = refl; each = λ i h is. inl is }

-- one way up, and on from there
pub met-join : (pool : CellPool) (d : ℕ) (o : Option ℕ) (i : ℕ) → IsMet pool d o i → (e j : ℕ) → IsMet pool e (Some i) j → (n : ℕ) × IsMet pool n o j
met-join pool d o i m zero j k = (d, subst (λ (x : ℕ). IsMet pool d o x) k m)
met-join pool d o i m (suc e) j k = met-on pool d o i k.0 m k.1.0 e j k.1.1

-- one can climb where all is sound
pub sound-climbable : (p : CellPool) → IsSound p → (l : ℕ) → IsClimbable p l
sound-climbable p s l = record { ups = λ i j c is low up. s.ups i j c is up; hints = λ i c h is low eq v. s.hints i c h is eq v }

-- one can still climb after more notes
pub noted-climbable : (p q : CellPool) (l : ℕ) → IsClimbable p l → IsNoted p q l → IsClimbable q l
noted-climbable p q l k n =
    let s = links-noted p q l n in
    record {
      ups = λ i j c is low up. (let m = k.ups i j c (sym (s.cells i) ∙ is) low up in (m.0, (s.cells j ∙ m.1.0, m.1.1)));
      hints = λ i c h is low eq v. elim (n.each i h eq) [
        | inl old ↦ (let m = k.hints i c h (sym (s.cells i) ∙ is) low old (live-same q p (links-back p q s) h v) in (m.0, met-same p q s m.0 c.up h.cell m.1))
        | inr made ↦ (
          made.links,
          met-same p q s made.links c.up h.cell
              (subst (λ (y : Cell). IsMet p made.links y.up h.cell) (one-cell p i made.cell c made.is (sym (s.cells i) ∙ is)) made.met),
        )
      ];
    }

pub climbable-higher : (p : CellPool) (l k : ℕ) → l ≤ k → IsClimbable p l → IsClimbable p k
climbable-higher p l k le m = record {
  ups = λ i j c is low up. m.ups i j c is (omega arith) up;
  hints = λ i c h is low eq v. m.hints i c h is (omega arith) eq v;
}

-- the links and notes of a part are sound after more notes at cells
pub sound-noted : (p q : CellPool) (l : ℕ) → IsSound p → IsNoted p q l → IsSound q
sound-noted p q l s n =
    let same = links-noted p q l n in
    let back = links-back p q same in
    let fingers : q.fingers ≡ p.fingers = ap (λ (w : CellPool). w.fingers) n.others in
    let first : q.first ≡ p.first = ap (λ (w : CellPool). w.first) n.others in
    record {
      leafs = λ x j cov up. subst (λ (o : Option Cell). IsSome o) (sym (same.cells j)) (s.leafs x j (same.covered x cov) (sym (same.leafs x) ∙ up));
      ups = λ i j c is up. (let m = s.ups i j c (sym (same.cells i) ∙ is) up in (m.0, (same.cells j ∙ m.1.0, m.1.1)));
      hints = λ i c h is eq v. elim (n.each i h eq) [
        | inl old ↦ (let m = s.hints i c h (sym (same.cells i) ∙ is) old (live-same q p back h v) in (m.0, met-same p q same m.0 c.up h.cell m.1))
        | inr made ↦ (
          made.links,
          met-same p q same made.links c.up h.cell
              (subst (λ (y : Cell). IsMet p made.links y.up h.cell) (one-cell p i made.cell c made.is (sym (same.cells i) ∙ is)) made.met),
        )
      ];
      fingers = λ x h cov eq v. (let m = s.fingers x h (same.covered x cov) (finger x h eq) (live-same q p back h v) in
          (m.0, subst (λ (o : Option ℕ). IsMet q m.0 o h.cell) (sym (same.leafs x)) (met-same p q same m.0 (leaf_of p x) h.cell m.1)));
      old = record {
        hints = λ i h eq fresh. elim (n.each i h eq) [
          | inl old ↦ subst (λ (t : ℕ). h.turn ≤ t) (sym (same.turns h.cell)) (s.old.hints i h old fresh)
          | inr made ↦ (let t : turn_of q h.cell ≡ turn_of p h.cell = same.turns h.cell in let u : h.turn ≡ turn_of p h.cell = made.turn in omega arith)
        ];
        fingers = λ x h eq fresh. subst (λ (t : ℕ). h.turn ≤ t) (sym (same.turns h.cell)) (s.old.fingers x h (finger x h eq) fresh);
        turned = λ i c is. subst (λ (t : ℕ). 1 ≤ t) (sym (same.turns i)) (s.old.turned i c (sym (same.cells i) ∙ is));
      };
    }
  where
    finger : (x : ℕ) (h : Hint) → finger_of q x ≡ Some h → finger_of p x ≡ Some h
    finger x h eq = sym (ap (λ (w : CellPool). finger_of w x) n.others) ∙ eq

-- and after a note at a place of what is met above it
pub sound-fingered : (p q : CellPool) (place : ℕ) (h : Hint) → IsSound p → p.first ≤ place → q ≡ with_finger p place (Some h) → (d : ℕ) → IsMet p d (leaf_of p place) h.cell → h.turn ≡ turn_of p h.cell → IsSound q
sound-fingered p q place h s low eq d met turn = subst IsSound (sym eq) put
  where
    same : SameLinks p (with_finger p place (Some h))
    same = record { cells = λ i. refl; leafs = λ x. refl; turns = λ i. refl; covered = λ x c. c; still_covered = λ x c. c }

    put : IsSound (with_finger p place (Some h))
    put =
        let n = with_finger p place (Some h) in
        let back = links-back p (with_finger p place (Some h)) same in
        record {
          leafs = s.leafs;
          ups = s.ups;
          hints = λ i c k is at v. (let m = s.hints i c k is at (live-same n p back k v) in (m.0, met-same p n same m.0 c.up k.cell m.1));
          fingers = λ x k cov at v. elim (entry-cases p.first p.fingers place (Some h) x k low at) [
            | inl here ↦ (d, met-same p n same d (leaf_of p x) k.cell (subst (λ (y : ℕ). IsMet p d (leaf_of p y) k.cell) (sym here.0) (subst (λ (g : Hint). IsMet p d (leaf_of p place) g.cell) (one here.1) met)))
            | inr old ↦ (let m = s.fingers x k cov old.1 (live-same n p back k v) in (m.0, met-same p n same m.0 (leaf_of p x) k.cell m.1))
          ];
          old = record {
            hints = s.old.hints;
            fingers = λ x k at fresh. elim (entry-cases p.first p.fingers place (Some h) x k low at) [
              | inl here ↦ subst (λ (g : Hint). g.turn ≤ turn_of p g.cell) (one here.1) (omega arith)
              | inr old ↦ s.old.fingers x k old.1 fresh
            ];
            turned = s.old.turned;
          };
        }
      where
        one : {k : Hint} → Some h ≡ Some k → h ≡ k
        one {k} eq' = cc
