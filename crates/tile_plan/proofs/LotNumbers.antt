-- Each edge is in exactly one lot: that of the part which the descent by the tiles of its ends finds.
use Rattle.std.proofs.Common.{◌≡◌, ℕ, ◌+◌, ◌<◌, ◌≤◌, Bool, true, false, ◌⊎◌, inl, inr, refl, sym, ◌∙◌, subst, ap, arith}
use Rattle.std.specs.Prelude.{◌==◌, ◌&&◌, ◌||◌, nat_lt, nat_le}
use Rattle.std.proofs.lemmas.Bool.{cases_lt, eq-eqb, eqb-true, ltb-true, true≢false}
use Rattle.std.proofs.lemmas.Bool.Decides.{nat_tests}
use Rattle.tile_plan.specs.Merges.{MergeTree, Tile, Merge, tiles}
use Rattle.tile_plan.specs.Sites.{SitedPart, left_site, right_site, find, is_among, is_lot_of}
use Rattle.tile_plan.specs.Grids.{lot_number}
use Rattle.tile_plan.specs.declared.site.Site.{Site}
use Rattle.tile_plan.proofs.Cuts.{tiles-some}
use Rattle.tile_plan.proofs.Descents.{lt-true, lt-false, le-true}
use Rattle.tile_plan.proofs.Parts.{Has, Within, found, own, where_is, find-self, left-finds, right-finds, Has-number, Has-within, Within-left, Within-right}

-- a tile of the part
pub record IsTileOf (t : MergeTree) (s : Site) (a : ℕ) : Type 0 where
  pub low : s.first_tile ≤ a
  pub high : a < s.first_tile + tiles t

pub among-true : (first count a : ℕ) → first ≤ a → a < first + count → is_among first count a ≡ true
among-true first count a low high = rw (le-true first a low, lt-true a (first + count) high) refl

among-low : (first count a : ℕ) → a < first → is_among first count a ≡ false
among-low first count a h = grind (arith, nat_tests)

among-high : (first count a : ℕ) → first + count ≤ a → is_among first count a ≡ false
among-high first count a h = both (nat_le first a) (nat_lt a (first + count)) (lt-false a (first + count) h)
  where
    both : (b c : Bool) → c ≡ false → (b && c) ≡ false
    both true c e = e
    both false c e = refl

and-left : (b c : Bool) → (b && c) ≡ true → b ≡ true
and-left true c e = refl
and-left false c e = e

and-right : (b c : Bool) → (b && c) ≡ true → c ≡ true
and-right true c e = e
and-right false c e = absurd (true≢false (sym e))

pub among-is : (first count a : ℕ) → is_among first count a ≡ true → (first ≤ a) × (a < first + count)
among-is first count a e = (le_from first a (and-left (nat_le first a) (nat_lt a (first + count)) e), ltb-true a (first + count) (and-right (nat_le first a) (nat_lt a (first + count)) e))
  where
    le_from : (x y : ℕ) → nat_le x y ≡ true → x ≤ y
    le_from x y h = grind (arith, nat_tests)

-- where an edge of a merge's lot has its ends
pub record Parted (x y : MergeTree) (s : Site) (a b : ℕ) : Type 0 where
  pub first : IsTileOf x s a
  pub low : s.first_tile + tiles x ≤ b
  pub high : b < s.first_tile + tiles x + tiles y

parted-is : (x y : MergeTree) (s : Site) (a b : ℕ) → (is_among s.first_tile (tiles x) a && is_among (s.first_tile + tiles x) (tiles y) b) ≡ true → Parted x y s a b
parted-is x y s a b e =
    let l = among-is s.first_tile (tiles x) a (and-left _ _ e) in
    let r = among-is (s.first_tile + tiles x) (tiles y) b (and-right _ _ e) in
    record { first = record { low = l.0; high = l.1 }; low = r.0; high = r.1 }

or-cases : (b c : Bool) → (b || c) ≡ true → (b ≡ true) ⊎ (c ≡ true)
or-cases true c e = inl refl
or-cases false c e = inr e

pub merge-lot : (by : Bool) (k : ℕ) (x y : MergeTree) (s : Site) (a b : ℕ) → is_lot_of (Merge by k x y) s a b ≡ true → Parted x y s a b ⊎ Parted x y s b a
merge-lot by k x y s a b e =
    elim (or-cases (is_among s.first_tile (tiles x) a && is_among (s.first_tile + tiles x) (tiles y) b) (is_among s.first_tile (tiles x) b && is_among (s.first_tile + tiles x) (tiles y) a) e) [
      | inl l ↦ inl (parted-is x y s a b l)
      | inr r ↦ inr (parted-is x y s b a r)
    ]

-- the ends of an edge in the lot of a part are its tiles
pub lot-inside : (t : MergeTree) (s : Site) (a b : ℕ) → is_lot_of t s a b ≡ true → IsTileOf t s a × IsTileOf t s b
lot-inside Tile s a b e =
    let ea = eqb-true a s.first_tile (and-left (a == s.first_tile) (b == s.first_tile) e) in
    let eb = eqb-true b s.first_tile (and-right (a == s.first_tile) (b == s.first_tile) e) in
    (record { low = omega arith; high = omega arith }, record { low = omega arith; high = omega arith })
lot-inside (Merge by k x y) s a b e =
    elim (merge-lot by k x y s a b e) [
      | inl p ↦ (let l = p.first in (record { low = omega arith; high = omega arith }, record { low = omega arith; high = omega arith }))
      | inr p ↦ (let l = p.first in (record { low = omega arith; high = omega arith }, record { low = omega arith; high = omega arith }))
    ]

pub tile-within : (t : MergeTree) (s : Site) (t' : MergeTree) (s' : Site) (a : ℕ) → Within t s t' s' → IsTileOf t' s' a → IsTileOf t s a
tile-within t s t' s' a w h = record { low = omega arith; high = omega arith }

-- the descent where both ends are in one half, and where they are not
lot-left : (n : ℕ) (by : Bool) (k : ℕ) (x y : MergeTree) (s : Site) (a b : ℕ) → a < s.first_tile + tiles x → b < s.first_tile + tiles x → lot_number n (Merge by k x y) s a b ≡ lot_number n x (left_site n x y s) a b
lot-left n by k x y s a b ha hb = rw (lt-true a (s.first_tile + tiles x) ha, lt-true b (s.first_tile + tiles x) hb) refl

lot-right : (n : ℕ) (by : Bool) (k : ℕ) (x y : MergeTree) (s : Site) (a b : ℕ) → s.first_tile + tiles x ≤ a → s.first_tile + tiles x ≤ b → lot_number n (Merge by k x y) s a b ≡ lot_number n y (right_site n x y s) a b
lot-right n by k x y s a b ha hb = rw (lt-false a (s.first_tile + tiles x) ha, le-true (s.first_tile + tiles x) a ha, le-true (s.first_tile + tiles x) b hb) refl

lot-own : (n : ℕ) (by : Bool) (k : ℕ) (x y : MergeTree) (s : Site) (a b : ℕ) → a < s.first_tile + tiles x → s.first_tile + tiles x ≤ b → (lot_number n (Merge by k x y) s a b ≡ own n x y s) × (lot_number n (Merge by k x y) s b a ≡ own n x y s)
lot-own n by k x y s a b ha hb = (
  rw (lt-true a (s.first_tile + tiles x) ha, lt-false b (s.first_tile + tiles x) hb, le-false (s.first_tile + tiles x) a ha) refl,
  rw (lt-false b (s.first_tile + tiles x) hb, le-true (s.first_tile + tiles x) b hb, le-false (s.first_tile + tiles x) a ha) refl,
)
  where
    le-false : (c d : ℕ) → d < c → nat_le c d ≡ false
    le-false c d h = grind (arith, nat_tests)

-- a part in whose lot the edge is, is the one that the descent finds
pub lot-only : (n : ℕ) (t : MergeTree) (s : Site) (i a b : ℕ) → s.first_tile + tiles t ≤ n → tiles t ≤ s.room → Has n t s i → is_lot_of (find n t s i).tree (find n t s i).site a b ≡ true → i ≡ lot_number n t s a b
lot-only n Tile s i a b fits roomy h e = let f = found n Tile s i fits roomy h in sym f.number
lot-only n (Merge by k x y) s i a b fits roomy h e =
    let my = tiles-some y in
    elim (where_is n by k x y s i h) [
      | inl level ↦ (let at : find n (Merge by k x y) s i ≡ record { tree = Merge by k x y; site = s } = ap (find n (Merge by k x y) s) level ∙ find-self n (Merge by k x y) s in
          let e' : is_lot_of (Merge by k x y) s a b ≡ true = subst (λ (q : SitedPart). is_lot_of q.tree q.site a b ≡ true) at e in
          elim (merge-lot by k x y s a b e') [
            | inl p ↦ (let l = p.first in level ∙ sym (lot-own n by k x y s a b l.high p.low).0)
            | inr p ↦ (let l = p.first in level ∙ sym (lot-own n by k x y s b a l.high p.low).1)
          ])
      | inr half ↦ elim half [
        | inl l ↦ (let e' = subst (λ (q : SitedPart). is_lot_of q.tree q.site a b ≡ true) (left-finds n by k x y s i l) e in
            let q = find n x (left_site n x y s) i in
            let f = found n x (left_site n x y s) i (omega arith) (omega arith) l in
            let inside = lot-inside q.tree q.site a b e' in
            let ta = tile-within x (left_site n x y s) q.tree q.site a f.within inside.0 in
            let tb = tile-within x (left_site n x y s) q.tree q.site b f.within inside.1 in
            lot-only n x (left_site n x y s) i a b (omega arith) (omega arith) l e' ∙ sym (lot-left n by k x y s a b ta.high tb.high))
        | inr r ↦ (let e' = subst (λ (q : SitedPart). is_lot_of q.tree q.site a b ≡ true) (right-finds n by k x y s i r) e in
            let q = find n y (right_site n x y s) i in
            let f = found n y (right_site n x y s) i (omega arith) (omega arith) r in
            let inside = lot-inside q.tree q.site a b e' in
            let ta = tile-within y (right_site n x y s) q.tree q.site a f.within inside.0 in
            let tb = tile-within y (right_site n x y s) q.tree q.site b f.within inside.1 in
            lot-only n y (right_site n x y s) i a b (omega arith) (omega arith) r e' ∙ sym (lot-right n by k x y s a b ta.low tb.low))
      ]
    ]

-- the part that the descent finds has the edge in its lot
pub record HasLot (n : ℕ) (t : MergeTree) (s : Site) (a b i : ℕ) : Type 0 where
  pub has : Has n t s i
  pub lot : is_lot_of (find n t s i).tree (find n t s i).site a b ≡ true

own-lot : (n : ℕ) (by : Bool) (k : ℕ) (x y : MergeTree) (s : Site) (a b : ℕ) → s.first_tile + tiles (Merge by k x y) ≤ n → is_lot_of (Merge by k x y) s a b ≡ true → HasLot n (Merge by k x y) s a b (own n x y s)
own-lot n by k x y s a b fits e = record {
  has = Has-number n (Merge by k x y) s fits;
  lot = subst (λ (q : SitedPart). is_lot_of q.tree q.site a b ≡ true) (sym (find-self n (Merge by k x y) s)) e;
}

half-left : (n : ℕ) (by : Bool) (k : ℕ) (x y : MergeTree) (s : Site) (a b i : ℕ) → HasLot n x (left_site n x y s) a b i → HasLot n (Merge by k x y) s a b i
half-left n by k x y s a b i h = record {
  has = Has-within n (Merge by k x y) s x (left_site n x y s) i (Within-left n by k x y s) h.has;
  lot = subst (λ (q : SitedPart). is_lot_of q.tree q.site a b ≡ true) (sym (left-finds n by k x y s i h.has)) h.lot;
}

half-right : (n : ℕ) (by : Bool) (k : ℕ) (x y : MergeTree) (s : Site) (a b i : ℕ) → HasLot n y (right_site n x y s) a b i → HasLot n (Merge by k x y) s a b i
half-right n by k x y s a b i h = record {
  has = Has-within n (Merge by k x y) s y (right_site n x y s) i (Within-right n by k x y s) h.has;
  lot = subst (λ (q : SitedPart). is_lot_of q.tree q.site a b ≡ true) (sym (right-finds n by k x y s i h.has)) h.lot;
}

or-left : (b c : Bool) → b ≡ true → (b || c) ≡ true
or-left b c e = rw e refl

or-right : (b c : Bool) → c ≡ true → (b || c) ≡ true
or-right true c e = refl
or-right false c e = e

and-both : (b c : Bool) → b ≡ true → c ≡ true → (b && c) ≡ true
and-both b c e f = rw (e, f) refl

pub lot-found : (n : ℕ) (t : MergeTree) (s : Site) (a b : ℕ) → s.first_tile + tiles t ≤ n → IsTileOf t s a → IsTileOf t s b → HasLot n t s a b (lot_number n t s a b)
lot-found n Tile s a b fits ha hb = record {
  has = Has-number n Tile s fits;
  lot = and-both (a == s.first_tile) (b == s.first_tile) (eq-eqb a s.first_tile (omega arith)) (eq-eqb b s.first_tile (omega arith));
}
lot-found n (Merge by k x y) s a b fits ha hb =
    let my = tiles-some y in
    elim (cases_lt a (s.first_tile + tiles x)) [
      | inl la ↦ elim (cases_lt b (s.first_tile + tiles x)) [
        | inl lb ↦ subst (HasLot n (Merge by k x y) s a b) (sym (lot-left n by k x y s a b la lb))
            (half-left n by k x y s a b (lot_number n x (left_site n x y s) a b) (lot-found n x (left_site n x y s) a b (omega arith) (record { low = ha.low; high = la }) (record { low = hb.low; high = lb })))
        | inr rb ↦ subst (HasLot n (Merge by k x y) s a b) (sym (lot-own n by k x y s a b la rb).0)
            (own-lot n by k x y s a b fits (or-left _ _ (and-both _ _ (among-true s.first_tile (tiles x) a ha.low la) (among-true (s.first_tile + tiles x) (tiles y) b rb (omega arith)))))
      ]
      | inr ra ↦ elim (cases_lt b (s.first_tile + tiles x)) [
        | inl lb ↦ subst (HasLot n (Merge by k x y) s a b) (sym (lot-own n by k x y s b a lb ra).1)
            (own-lot n by k x y s a b fits (or-right _ _ (and-both _ _ (among-true s.first_tile (tiles x) b hb.low lb) (among-true (s.first_tile + tiles x) (tiles y) a ra (omega arith)))))
        | inr rb ↦ subst (HasLot n (Merge by k x y) s a b) (sym (lot-right n by k x y s a b ra rb))
            (half-right n by k x y s a b (lot_number n y (right_site n x y s) a b) (lot-found n y (right_site n x y s) a b (omega arith) (record { low = ra; high = omega arith }) (record { low = rb; high = omega arith })))
      ]
    ]
