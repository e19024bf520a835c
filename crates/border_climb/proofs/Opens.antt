-- What putting a new cell above two chains leaves, as the code does it.
use Rattle.std.proofs.Common.{◌≡◌, ◌≢◌, ℕ, ◌+◌, ◌-◌, ◌<◌, ◌≤◌, ◌⊎◌, inl, inr, refl, sym, ◌∙◌, subst, ap, arith, set, length}
use Rattle.std.specs.Prelude.{Option, Some, None, IfSome}
use Rattle.std.specs.Option.{option_map_or}
use Rattle.std.proofs.lemmas.Bool.{cases_eq}
use Rattle.std.proofs.lemmas.List.{length-set}
use Rattle.node_region.specs.Pool.{CellPool, IsPool, count, IsCovered, IsUsed, entry, cell_at, leaf_of, with_taken}
use Rattle.node_region.specs.declared.cell.Cell.{Cell}
use Rattle.node_region.proofs.Entries.{entry-set_same}
use Rattle.border_climb.specs.Linked.{HasRank}
use Rattle.border_climb.specs.Splicing.{IsOpened, CanOpen}
use Rattle.border_climb.specs.Climbs.{with_up, opened_pool}
use Rattle.border_climb.proofs.Pools.{used-from, used-cell, one-cell}
use Rattle.border_climb.proofs.Writes.{entry-other, relinked-with}
use Rattle.border_climb.proofs.Merging.{relinked-cases, relinked-ranks}

-- a number was put above the last cell of a place's chain, or above the place
pub record IsUp (p q : CellPool) (place : ℕ) (last : Option ℕ) (up : Option ℕ) : Type 0 where
  pub kept : (j r : ℕ) → HasRank p j r → HasRank q j r
  pub cells : (j : ℕ) (c : Cell) → cell_at q j ≡ Some c → (b : Cell) × ((cell_at p j ≡ Some b) × ((c.rank ≡ b.rank) ×
      (((last ≡ Some j) × (c.up ≡ up)) ⊎ ((last ≡ Some j → ⊥) × (c.up ≡ b.up)))))
  pub covered : (x : ℕ) → IsCovered q x → IsCovered p x
  pub still_covered : (x : ℕ) → IsCovered p x → IsCovered q x
  pub leafs : (x : ℕ) → IsCovered p x → ((x ≡ place) × ((last ≡ None) × (leaf_of q x ≡ up))) ⊎ ((x ≡ place → last ≡ None → ⊥) × (leaf_of q x ≡ leaf_of p x))
  pub long : length q.leafs ≡ count q

none-some : (j : ℕ) → None ≡ Some j → ⊥
none-some j h = cc

some-none : (j : ℕ) → Some j ≡ None → ⊥
some-none j h = cc

some-one : (i j : ℕ) → Some i ≡ Some j → i ≡ j
some-one i j h = cc

up-with : (p : CellPool) (place : ℕ) (last up : Option ℕ) → length p.leafs ≡ count p → IsCovered p place → IfSome last (IsUsed p) → IsUp p (with_up p place last up) place last up
up-with p place None up long cov used =
    let same : length (set p.leafs (place - p.first) up) ≡ length p.leafs = length-set p.leafs (place - p.first) up in
    let low : p.first ≤ place = cov.0 in
    let high : place < p.first + length p.cells = cov.1 in
    record {
      kept = λ j r h. record { cell = h.cell; is = h.is; has = h.has };
      cells = λ j c eq. (c, (eq, (refl, inr (none-some j, refl))));
      covered = λ x h. h;
      still_covered = λ x h. h;
      leafs = λ x h. elim (cases_eq x place) [
        | inl at ↦ inl (at, (refl, ap (λ (y : ℕ). entry p.first (set p.leafs (place - p.first) up) y) at ∙ entry-set_same p.first p.leafs place up low (omega arith)))
        | inr off ↦ inr ((λ at none. off at), entry-other p.first p.leafs place up x low off)
      ];
      long = omega arith;
    }
up-with p place (Some i) up long cov used =
    let c = used-cell p i used in
    let r = relinked-with p i up c.0 c.1 in
    let wide : length (set p.cells (i - p.first) (Some (record { rank = option_map_or (λ y. y.rank) (cell_at p i) 0; up = up }))) ≡ length p.cells = length-set p.cells (i - p.first) (Some (record { rank = option_map_or (λ y. y.rank) (cell_at p i) 0; up = up })) in
    record {
      kept = relinked-ranks p (with_up p 0 (Some i) up) i up r;
      cells = λ j b eq. elim (relinked-cases p (with_up p 0 (Some i) up) i up r c.0 c.1 j b eq) [
        | inl at ↦ (c.0, (ap (λ (y : ℕ). cell_at p y) at.0 ∙ c.1, (at.1.0, inl (ap Some (sym at.0), at.1.1))))
        | inr off ↦ (b, (off.1, (refl, inr ((λ same. off.0 (sym (some-one i j same))), refl))))
      ];
      covered = r.kept.covered;
      still_covered = λ x h. (h.0, (let top : x < p.first + length p.cells = h.1 in omega arith));
      leafs = λ x h. inr ((λ at none. some-none i none), refl);
      long = omega arith;
    }

pub up-written : (p q : CellPool) (place : ℕ) (last up : Option ℕ) → length p.leafs ≡ count p → IsCovered p place → IfSome last (IsUsed p) → q ≡ with_up p place last up → IsUp p q place last up
up-written p q place last up long cov used eq = subst (λ (w : CellPool). IsUp p w place last up) (sym eq) (up-with p place last up long cov used)

-- what was used still is
pub up-used : (p q : CellPool) (place : ℕ) (last up : Option ℕ) → IsUp p q place last up → (o : Option ℕ) → IfSome o (IsUsed p) → IfSome o (IsUsed q)
up-used p q place last up m None used = tt
up-used p q place last up m (Some j) used =
    let c = used-cell p j used in let k = m.kept j c.0.rank (record { cell = c.0; is = c.1; has = refl }) in used-from q j k.cell k.is

-- a free number was taken
pub record IsTaken (p q : CellPool) (id : ℕ) (cell : Cell) : Type 0 where
  pub at : cell_at q id ≡ Some cell
  pub others : (j : ℕ) → j ≢ id → cell_at q j ≡ cell_at p j
  pub leafs : (x : ℕ) → leaf_of q x ≡ leaf_of p x
  pub covered : (x : ℕ) → IsCovered q x → IsCovered p x
  pub still_covered : (x : ℕ) → IsCovered p x → IsCovered q x
  pub long : length q.leafs ≡ count q

pub taken-with : (p : CellPool) (id : ℕ) (cell : Cell) → length p.leafs ≡ count p → IsCovered p id → IsTaken p (with_taken p id cell) id cell
taken-with p id cell long cov =
    let wide : length (set p.cells (id - p.first) (Some cell)) ≡ length p.cells = length-set p.cells (id - p.first) (Some cell) in
    record {
      at = entry-set_same p.first p.cells id (Some cell) cov.0 cov.1;
      others = λ j other. entry-other p.first p.cells id (Some cell) j cov.0 other;
      leafs = λ x. refl;
      covered = λ x h. (h.0, (let top : x < p.first + length (set p.cells (id - p.first) (Some cell)) = h.1 in omega arith));
      still_covered = λ x h. (h.0, (let top : x < p.first + length p.cells = h.1 in omega arith));
      long = omega arith;
    }

pub taken-used : (p q : CellPool) (id : ℕ) (cell : Cell) → IsTaken p q id cell → (o : Option ℕ) → IfSome o (IsUsed p) → IfSome o (IsUsed q)
taken-used p q id cell m None used = tt
taken-used p q id cell m (Some j) used =
    elim (cases_eq j id) [
      | inl at ↦ used-from q j cell (ap (λ (y : ℕ). cell_at q y) at ∙ m.at)
      | inr off ↦ (let c = used-cell p j used in used-from q j c.0 (m.others j off ∙ c.1))
    ]

abbrev a_cell : ℕ → Option ℕ → Cell
a_cell r u = record { rank = r; up = u }

never-used : (p : CellPool) (o : Option ℕ) (id : ℕ) → IfSome o (IsUsed p) → cell_at p id ≡ None → o ≡ Some id → ⊥
never-used p None id used none eq = none-some id eq
never-used p (Some j) id used none eq =
    let c = used-cell p j used in
    empty c.0 (sym none ∙ ap (λ (y : ℕ). cell_at p y) (sym (some-one j id eq)) ∙ c.1)
  where
    empty : (c : Cell) → None ≡ Some c → ⊥
    empty c h = cc

-- The new cell stands above both chains.
pub opened-with : (p : CellPool) (a b : ℕ) (first second : Option ℕ) (id rank : ℕ) → CanOpen p a b first second id → IsOpened p (opened_pool p a b first second id rank) a b first second id rank
opened-with p a b first second id rank m =
    steps (with_taken p id (record { rank = rank; up = None })) (with_up (with_taken p id (record { rank = rank; up = None })) a first (Some id)) (opened_pool p a b first second id rank) taken one two
  where
    none : cell_at p id ≡ None
    none = m.pool_is.free_has_no_cell id m.free

    taken : IsTaken p (with_taken p id (record { rank = rank; up = None })) id (record { rank = rank; up = None })
    taken = taken-with p id (record { rank = rank; up = None }) m.pool_is.leafs (m.pool_is.free_is_covered id m.free)

    one : IsUp (with_taken p id (record { rank = rank; up = None })) (with_up (with_taken p id (record { rank = rank; up = None })) a first (Some id)) a first (Some id)
    one = up-with (with_taken p id (record { rank = rank; up = None })) a first (Some id) taken.long (taken.still_covered a m.a_covered) (taken-used p (with_taken p id (record { rank = rank; up = None })) id (record { rank = rank; up = None }) taken first m.first_used)

    two : IsUp (with_up (with_taken p id (record { rank = rank; up = None })) a first (Some id)) (opened_pool p a b first second id rank) b second (Some id)
    two = up-with (with_up (with_taken p id (record { rank = rank; up = None })) a first (Some id)) b second (Some id) one.long (one.still_covered b (taken.still_covered b m.b_covered))
        (up-used _ _ a first (Some id) one second (taken-used p (with_taken p id (record { rank = rank; up = None })) id (record { rank = rank; up = None }) taken second m.second_used))

    steps : (p1 p2 p3 : CellPool) → IsTaken p p1 id (record { rank = rank; up = None }) → IsUp p1 p2 a first (Some id) → IsUp p2 p3 b second (Some id) → IsOpened p p3 a b first second id rank
    steps p1 p2 p3 t u v = record {
      new_cell = own;
      kept = λ j c is. v.kept j c.rank (u.kept j c.rank (elim (cases_eq j id) [
        | inl same ↦ absurd (clash c (sym none ∙ ap (λ (y : ℕ). cell_at p y) (sym same) ∙ is))
        | inr off ↦ record { cell = c; is = t.others j off ∙ is; has = refl }
      ]));
      cells = λ j c off eq. (let x = v.cells j c eq in let y = u.cells j x.0 x.1.0 in
          record {
            before = y.0;
            is = sym (t.others j off) ∙ y.1.0;
            rank = x.1.1.0 ∙ y.1.1.0;
            up = (elim x.1.1.1 [
              | inl put ↦ inl (put.1, inr put.0)
              | inr same ↦ elim y.1.1.1 [
                | inl put ↦ inl (same.1 ∙ put.1, inl put.0)
                | inr old ↦ inr (same.1 ∙ old.1, (old.0, same.0))
              ]
            ]);
          });
      covered = λ x cov. t.covered x (u.covered x (v.covered x cov));
      leafs = λ x cov. elim (v.leafs x (v.covered x cov)) [
        | inl put ↦ inl (put.1.1, inr (put.0, put.1.0))
        | inr same ↦ elim (u.leafs x (u.covered x (v.covered x cov))) [
          | inl put ↦ inl (same.1 ∙ put.1.1, inl (put.0, put.1.0))
          | inr old ↦ inr (same.1 ∙ old.1 ∙ t.leafs x, (old.0, same.0))
        ]
      ];
    }
      where
        clash : (c : Cell) → None ≡ Some c → ⊥
        clash c h = cc

        own : cell_at p3 id ≡ Some (record { rank = rank; up = None })
        own =
            let h2 = u.kept id rank (record { cell = record { rank = rank; up = None }; is = t.at; has = refl }) in
            let h3 = v.kept id rank h2 in
            let x = v.cells id h3.cell h3.is in
            let y = u.cells id x.0 x.1.0 in
            let up3 : h3.cell.up ≡ x.0.up = (elim x.1.1.1 [ inl put ↦ absurd (never-used p second id m.second_used none put.0) | inr same ↦ same.1 ]) in
            let up2 : x.0.up ≡ y.0.up = (elim y.1.1.1 [ inl put ↦ absurd (never-used p first id m.first_used none put.0) | inr same ↦ same.1 ]) in
            let first_cell : y.0 ≡ record { rank = rank; up = None } = one-cell p1 id y.0 (record { rank = rank; up = None }) y.1.0 t.at in
            h3.is ∙ ap Some (cell-is h3.cell h3.has (up3 ∙ up2 ∙ ap (λ (c : Cell). c.up) first_cell))
          where
            cell-is : (c : Cell) → c.rank ≡ rank → c.up ≡ None → c ≡ record { rank = rank; up = None }
            cell-is c p q = ap (λ (r : ℕ). a_cell r c.up) p ∙ ap (λ (u : Option ℕ). a_cell rank u) q

-- what was used still is after the number was taken and put above the first chain
pub second-used : (p p1 p2 : CellPool) (id : ℕ) (cell : Cell) (a : ℕ) (first second up : Option ℕ) → IsPool p → IsCovered p id → IsCovered p a → IfSome first (IsUsed p) → IfSome second (IsUsed p) →
    p1 ≡ with_taken p id cell → p2 ≡ with_up p1 a first up → IfSome second (IsUsed p2)
second-used p p1 p2 id cell a first second up pool at cov one two eq eq' =
    let t : IsTaken p p1 id cell = subst (λ (w : CellPool). IsTaken p w id cell) (sym eq) (taken-with p id cell pool.leafs at) in
    let u = up-written p1 p2 a first up t.long (t.still_covered a cov) (taken-used p p1 id cell t first one) eq' in
    up-used p1 p2 a first up u second (taken-used p p1 id cell t second two)
