-- The parts of a tree of merges: where each is found, and what is above and below it.
use Rattle.std.proofs.Common.{◌≡◌, ◌≢◌, ℕ, ◌+◌, ◌<◌, ◌≤◌, Bool, ◌⊎◌, inl, inr, refl, sym, ◌∙◌, subst, ap, arith, [], ◌∷◌, ◌++◌}
use Rattle.std.proofs.lemmas.Bool.{cases_lt, cases_eq, eq-eqb}
use Rattle.hg_base.specs.Lists.{IsIn}
use Rattle.hg_base.proofs.Lists.{IsIn-append, IsIn-append_back}
use Rattle.tile_plan.specs.Merges.{MergeTree, Tile, Merge, tiles, merges}
use Rattle.tile_plan.specs.Sites.{SitedPart, part_number, left_site, right_site, find, post_order}
use Rattle.tile_plan.specs.declared.site.Site.{Site}
use Rattle.tile_plan.proofs.Cuts.{tiles-some}
use Rattle.tile_plan.proofs.Descents.{lt-true, lt-false, eq-false}

-- the number of a merge
abbrev pub own : ℕ → MergeTree → MergeTree → Site → ℕ
own n x y s = n + s.first_merge + merges x + merges y

-- i is the number of a part at or below the tree t that stands at s
pub record Has (n : ℕ) (t : MergeTree) (s : Site) (i : ℕ) : Type 0 where
  pub tile_low : i < n → s.first_tile ≤ i
  pub tile_high : i < n → i < s.first_tile + tiles t
  pub merge_low : n ≤ i → n + s.first_merge ≤ i
  pub merge_high : n ≤ i → i < n + s.first_merge + merges t

-- what stands at s' lies inside of what stands at s
pub record Within (t : MergeTree) (s : Site) (t' : MergeTree) (s' : Site) : Type 0 where
  pub tile_low : s.first_tile ≤ s'.first_tile
  pub tile_high : s'.first_tile + tiles t' ≤ s.first_tile + tiles t
  pub merge_low : s.first_merge ≤ s'.first_merge
  pub merge_high : s'.first_merge + merges t' ≤ s.first_merge + merges t

pub Within-self : (t : MergeTree) (s : Site) → Within t s t s
Within-self t s = record { tile_low = omega arith; tile_high = omega arith; merge_low = omega arith; merge_high = omega arith }

pub Within-left : (n : ℕ) (by : Bool) (k : ℕ) (x y : MergeTree) (s : Site) → Within (Merge by k x y) s x (left_site n x y s)
Within-left n by k x y s = record { tile_low = omega arith; tile_high = omega arith; merge_low = omega arith; merge_high = omega arith }

pub Within-right : (n : ℕ) (by : Bool) (k : ℕ) (x y : MergeTree) (s : Site) → Within (Merge by k x y) s y (right_site n x y s)
Within-right n by k x y s = record { tile_low = omega arith; tile_high = omega arith; merge_low = omega arith; merge_high = omega arith }

pub Within-through : (t : MergeTree) (s : Site) (t' : MergeTree) (s' : Site) (t'' : MergeTree) (s'' : Site) → Within t s t' s' → Within t' s' t'' s'' → Within t s t'' s''
Within-through t s t' s' t'' s'' a b = record { tile_low = omega arith; tile_high = omega arith; merge_low = omega arith; merge_high = omega arith }

pub Has-within : (n : ℕ) (t : MergeTree) (s : Site) (t' : MergeTree) (s' : Site) (i : ℕ) → Within t s t' s' → Has n t' s' i → Has n t s i
Has-within n t s t' s' i w h = record {
  tile_low = λ l. (let a = h.tile_low l in omega arith);
  tile_high = λ l. (let a = h.tile_high l in omega arith);
  merge_low = λ l. (let a = h.merge_low l in omega arith);
  merge_high = λ l. (let a = h.merge_high l in omega arith);
}

-- a part at or below a merge is the merge itself, or in one half
pub where_is : (n : ℕ) (by : Bool) (k : ℕ) (x y : MergeTree) (s : Site) (i : ℕ) → Has n (Merge by k x y) s i → (i ≡ own n x y s) ⊎ (Has n x (left_site n x y s) i ⊎ Has n y (right_site n x y s) i)
where_is n by k x y s i h =
    elim (cases_lt i n) [
      | inl tile ↦ elim (cases_lt i (s.first_tile + tiles x)) [
        | inl l ↦ (let low = h.tile_low tile in inr (inl (record { tile_low = λ z. omega arith; tile_high = λ z. omega arith; merge_low = λ z. absurd (omega arith); merge_high = λ z. absurd (omega arith) })))
        | inr r ↦ (let high = h.tile_high tile in inr (inr (record { tile_low = λ z. omega arith; tile_high = λ z. omega arith; merge_low = λ z. absurd (omega arith); merge_high = λ z. absurd (omega arith) })))
      ]
      | inr merge ↦ elim (cases_eq i (own n x y s)) [
        | inl level ↦ inl level
        | inr off ↦ (let low = h.merge_low merge in let high = h.merge_high merge in elim (cases_lt i (n + s.first_merge + merges x)) [
          | inl l ↦ inr (inl (record { tile_low = λ z. absurd (omega arith); tile_high = λ z. absurd (omega arith); merge_low = λ z. omega arith; merge_high = λ z. omega arith }))
          | inr r ↦ inr (inr (record { tile_low = λ z. absurd (omega arith); tile_high = λ z. absurd (omega arith); merge_low = λ z. omega arith; merge_high = λ z. omega arith }))
        ])
      ]
    ]

-- what is in a half is found there
pub left-finds : (n : ℕ) (by : Bool) (k : ℕ) (x y : MergeTree) (s : Site) (i : ℕ) → Has n x (left_site n x y s) i → find n (Merge by k x y) s i ≡ find n x (left_site n x y s) i
left-finds n by k x y s i h =
    elim (cases_lt i n) [
      | inl tile ↦ (let high = h.tile_high tile in rw (eq-false i (own n x y s) (λ z. omega arith), lt-true i n tile, lt-true i (s.first_tile + tiles x) high) refl)
      | inr merge ↦ (let high = h.merge_high merge in rw (eq-false i (own n x y s) (λ z. omega arith), lt-false i n merge, lt-true i (n + s.first_merge + merges x) high) refl)
    ]

pub right-finds : (n : ℕ) (by : Bool) (k : ℕ) (x y : MergeTree) (s : Site) (i : ℕ) → Has n y (right_site n x y s) i → find n (Merge by k x y) s i ≡ find n y (right_site n x y s) i
right-finds n by k x y s i h =
    elim (cases_lt i n) [
      | inl tile ↦ (let low = h.tile_low tile in rw (eq-false i (own n x y s) (λ z. omega arith), lt-true i n tile, lt-false i (s.first_tile + tiles x) low) refl)
      | inr merge ↦ (let low : n + (s.first_merge + merges x) ≤ i = h.merge_low merge in let high : i < n + (s.first_merge + merges x) + merges y = h.merge_high merge in
          rw (eq-false i (own n x y s) (λ z. omega arith), lt-false i n merge, lt-false i (n + s.first_merge + merges x) (omega arith)) refl)
    ]

pub find-self : (n : ℕ) (t : MergeTree) (s : Site) → find n t s (part_number n t s) ≡ record { tree = t; site = s }
find-self n Tile s = refl
find-self n (Merge by k x y) s = rw (eq-eqb (own n x y s) (own n x y s) refl) refl

-- a part has its own number
pub Has-number : (n : ℕ) (t : MergeTree) (s : Site) → s.first_tile + tiles t ≤ n → Has n t s (part_number n t s)
Has-number n Tile s h = record { tile_low = λ z. omega arith; tile_high = λ z. omega arith; merge_low = λ z. absurd (omega arith); merge_high = λ z. absurd (omega arith) }
Has-number n (Merge by k x y) s h = record { tile_low = λ z. absurd (omega arith); tile_high = λ z. absurd (omega arith); merge_low = λ z. omega arith; merge_high = λ z. omega arith }

-- q is the part of number i at or below t
pub record IsFound (n : ℕ) (t : MergeTree) (s : Site) (i : ℕ) (q : SitedPart) : Type 0 where
  pub number : part_number n q.tree q.site ≡ i
  pub within : Within t s q.tree q.site
  pub through : (j : ℕ) → Has n q.tree q.site j → find n t s j ≡ find n q.tree q.site j
  pub roomy : tiles q.tree ≤ q.site.room

found-self : (n : ℕ) (t : MergeTree) (s : Site) → tiles t ≤ s.room → IsFound n t s (part_number n t s) (record { tree = t; site = s })
found-self n t s roomy = record { number = refl; within = Within-self t s; through = λ j h. refl; roomy = roomy }

found-left : (n : ℕ) (by : Bool) (k : ℕ) (x y : MergeTree) (s : Site) (i : ℕ) (q : SitedPart) → IsFound n x (left_site n x y s) i q → IsFound n (Merge by k x y) s i q
found-left n by k x y s i q f = record {
  number = f.number;
  within = Within-through (Merge by k x y) s x (left_site n x y s) q.tree q.site (Within-left n by k x y s) f.within;
  through = λ j h. left-finds n by k x y s j (Has-within n x (left_site n x y s) q.tree q.site j f.within h) ∙ f.through j h;
  roomy = f.roomy;
}

found-right : (n : ℕ) (by : Bool) (k : ℕ) (x y : MergeTree) (s : Site) (i : ℕ) (q : SitedPart) → IsFound n y (right_site n x y s) i q → IsFound n (Merge by k x y) s i q
found-right n by k x y s i q f = record {
  number = f.number;
  within = Within-through (Merge by k x y) s y (right_site n x y s) q.tree q.site (Within-right n by k x y s) f.within;
  through = λ j h. right-finds n by k x y s j (Has-within n y (right_site n x y s) q.tree q.site j f.within h) ∙ f.through j h;
  roomy = f.roomy;
}

-- each part is found
pub found : (n : ℕ) (t : MergeTree) (s : Site) (i : ℕ) → s.first_tile + tiles t ≤ n → tiles t ≤ s.room → Has n t s i → IsFound n t s i (find n t s i)
found n Tile s i fits roomy h =
    elim (cases_lt i n) [
      | inl tile ↦ (let same : s.first_tile ≡ i = (let a = h.tile_low tile in let b = h.tile_high tile in omega arith) in
          record { number = same; within = Within-self Tile s; through = λ j g. refl; roomy = roomy })
      | inr merge ↦ absurd (let a = h.merge_low merge in let b = h.merge_high merge in omega arith)
    ]
found n (Merge by k x y) s i fits roomy h =
    let my = tiles-some y in
    elim (where_is n by k x y s i h) [
      | inl level ↦ subst (λ (j : ℕ). IsFound n (Merge by k x y) s j (find n (Merge by k x y) s j)) (sym level)
          (subst (IsFound n (Merge by k x y) s (own n x y s)) (sym (find-self n (Merge by k x y) s)) (found-self n (Merge by k x y) s roomy))
      | inr half ↦ elim half [
        | inl l ↦ subst (IsFound n (Merge by k x y) s i) (sym (left-finds n by k x y s i l))
            (found-left n by k x y s i (find n x (left_site n x y s) i) (found n x (left_site n x y s) i (omega arith) (omega arith) l))
        | inr r ↦ subst (IsFound n (Merge by k x y) s i) (sym (right-finds n by k x y s i r))
            (found-right n by k x y s i (find n y (right_site n x y s) i) (found n y (right_site n x y s) i (omega arith) (omega arith) r))
      ]
    ]

-- the halves of a merge are found under their numbers
pub left-found : (n : ℕ) (t : MergeTree) (s : Site) (i : ℕ) (by : Bool) (k : ℕ) (x y : MergeTree) (s' : Site) → IsFound n t s i (record { tree = Merge by k x y; site = s' }) → s'.first_tile + tiles (Merge by k x y) ≤ n
    → find n t s (part_number n x (left_site n x y s')) ≡ record { tree = x; site = left_site n x y s' }
left-found n t s i by k x y s' f fits =
    let h = Has-number n x (left_site n x y s') (omega arith) in
    f.through (part_number n x (left_site n x y s')) (Has-within n (Merge by k x y) s' x (left_site n x y s') (part_number n x (left_site n x y s')) (Within-left n by k x y s') h)
    ∙ left-finds n by k x y s' (part_number n x (left_site n x y s')) h ∙ find-self n x (left_site n x y s')

pub right-found : (n : ℕ) (t : MergeTree) (s : Site) (i : ℕ) (by : Bool) (k : ℕ) (x y : MergeTree) (s' : Site) → IsFound n t s i (record { tree = Merge by k x y; site = s' }) → s'.first_tile + tiles (Merge by k x y) ≤ n
    → find n t s (part_number n y (right_site n x y s')) ≡ record { tree = y; site = right_site n x y s' }
right-found n t s i by k x y s' f fits =
    let h = Has-number n y (right_site n x y s') (omega arith) in
    f.through (part_number n y (right_site n x y s')) (Has-within n (Merge by k x y) s' y (right_site n x y s') (part_number n y (right_site n x y s')) (Within-right n by k x y s') h)
    ∙ right-finds n by k x y s' (part_number n y (right_site n x y s')) h ∙ find-self n y (right_site n x y s')

-- h is a half of the merge that stands at s
abbrev pub HalfOf : ℕ → MergeTree → Site → SitedPart → Type 0
HalfOf n Tile s h = ⊥
HalfOf n (Merge by k x y) s h = (h ≡ record { tree = x; site = left_site n x y s }) ⊎ (h ≡ record { tree = y; site = right_site n x y s })

-- each part but the last is a half of one
pub record IsHalfOfSome (n : ℕ) (t : MergeTree) (s : Site) (h : SitedPart) : Type 0 where
  pub at : ℕ
  pub has : Has n t s at
  pub half : HalfOf n (find n t s at).tree (find n t s at).site h

half-through : (n : ℕ) (t : MergeTree) (s : Site) (t' : MergeTree) (s' : Site) (h : SitedPart) → Within t s t' s' → ((j : ℕ) → Has n t' s' j → find n t s j ≡ find n t' s' j) → IsHalfOfSome n t' s' h → IsHalfOfSome n t s h
half-through n t s t' s' h w same m = record {
  at = m.at;
  has = Has-within n t s t' s' m.at w m.has;
  half = subst (λ (q : SitedPart). HalfOf n q.tree q.site h) (sym (same m.at m.has)) m.half;
}

pub half_of_some : (n : ℕ) (t : MergeTree) (s : Site) (i : ℕ) → s.first_tile + tiles t ≤ n → Has n t s i → i ≢ part_number n t s → IsHalfOfSome n t s (find n t s i)
half_of_some n Tile s i fits h off =
    elim (cases_lt i n) [
      | inl tile ↦ absurd (off (let a = h.tile_low tile in let b = h.tile_high tile in omega arith))
      | inr merge ↦ absurd (let a = h.merge_low merge in let b = h.merge_high merge in omega arith)
    ]
half_of_some n (Merge by k x y) s i fits h off =
    let my = tiles-some y in
    let itself = find-self n (Merge by k x y) s in
    elim (where_is n by k x y s i h) [
      | inl level ↦ absurd (off level)
      | inr half ↦ elim half [
        | inl l ↦ subst (IsHalfOfSome n (Merge by k x y) s) (sym (left-finds n by k x y s i l)) (elim (cases_eq i (part_number n x (left_site n x y s))) [
          | inl level ↦ record {
            at = own n x y s;
            has = Has-number n (Merge by k x y) s fits;
            half = subst (λ (q : SitedPart). HalfOf n q.tree q.site (find n x (left_site n x y s) i)) (sym itself) (inl (ap (find n x (left_site n x y s)) level ∙ find-self n x (left_site n x y s)));
          }
          | inr apart ↦ half-through n (Merge by k x y) s x (left_site n x y s) (find n x (left_site n x y s) i) (Within-left n by k x y s) (left-finds n by k x y s) (half_of_some n x (left_site n x y s) i (omega arith) l apart)
        ])
        | inr r ↦ subst (IsHalfOfSome n (Merge by k x y) s) (sym (right-finds n by k x y s i r)) (elim (cases_eq i (part_number n y (right_site n x y s))) [
          | inl level ↦ record {
            at = own n x y s;
            has = Has-number n (Merge by k x y) s fits;
            half = subst (λ (q : SitedPart). HalfOf n q.tree q.site (find n y (right_site n x y s) i)) (sym itself) (inr (ap (find n y (right_site n x y s)) level ∙ find-self n y (right_site n x y s)));
          }
          | inr apart ↦ half-through n (Merge by k x y) s y (right_site n x y s) (find n y (right_site n x y s) i) (Within-right n by k x y s) (right-finds n by k x y s) (half_of_some n y (right_site n x y s) i (omega arith) r apart)
        ])
      ]
    ]

-- a part has the room of its first tile
pub first-room : (n : ℕ) (t : MergeTree) (s : Site) → s.first_tile + tiles t ≤ n → (find n t s s.first_tile).site.room ≡ s.room
first-room n Tile s fits = refl
first-room n (Merge by k x y) s fits =
    let mx = tiles-some x in
    let h : Has n x (left_site n x y s) s.first_tile = record { tile_low = λ z. omega arith; tile_high = λ z. omega arith; merge_low = λ z. absurd (omega arith); merge_high = λ z. absurd (omega arith) } in
    ap (λ (q : SitedPart). q.site.room) (left-finds n by k x y s s.first_tile h) ∙ first-room n x (left_site n x y s) (omega arith)

-- the post-order lists the parts at and below one
pub post-has : (n : ℕ) (t : MergeTree) (s : Site) (i : ℕ) → s.first_tile + tiles t ≤ n → IsIn i (post_order n t s) → Has n t s i
post-has n Tile s i fits (inl e) = subst (Has n Tile s) e (Has-number n Tile s fits)
post-has n Tile s i fits (inr none) = absurd none
post-has n (Merge by k x y) s i fits h =
    let my = tiles-some y in
    elim (IsIn-append_back i (post_order n x (left_site n x y s) ++ post_order n y (right_site n x y s)) (own n x y s ∷ []) h) [
      | inl inside ↦ elim (IsIn-append_back i (post_order n x (left_site n x y s)) (post_order n y (right_site n x y s)) inside) [
        | inl l ↦ Has-within n (Merge by k x y) s x (left_site n x y s) i (Within-left n by k x y s) (post-has n x (left_site n x y s) i (omega arith) l)
        | inr r ↦ Has-within n (Merge by k x y) s y (right_site n x y s) i (Within-right n by k x y s) (post-has n y (right_site n x y s) i (omega arith) r)
      ]
      | inr last ↦ elim last [ inl e ↦ subst (Has n (Merge by k x y) s) e (Has-number n (Merge by k x y) s fits) | inr none ↦ absurd none ]
    ]

pub has-post : (n : ℕ) (t : MergeTree) (s : Site) (i : ℕ) → Has n t s i → IsIn i (post_order n t s)
has-post n Tile s i h =
    elim (cases_lt i n) [
      | inl tile ↦ inl (let a = h.tile_low tile in let b = h.tile_high tile in omega arith)
      | inr merge ↦ absurd (let a = h.merge_low merge in let b = h.merge_high merge in omega arith)
    ]
has-post n (Merge by k x y) s i h =
    IsIn-append i (post_order n x (left_site n x y s) ++ post_order n y (right_site n x y s)) (own n x y s ∷ [])
    (elim (where_is n by k x y s i h) [
      | inl level ↦ inr (inl (sym level))
      | inr half ↦ inl (IsIn-append i (post_order n x (left_site n x y s)) (post_order n y (right_site n x y s)) (elim half [ inl l ↦ inl (has-post n x (left_site n x y s) i l) | inr r ↦ inr (has-post n y (right_site n x y s) i r) ]))
    ])

-- no part is in both halves
pub halves-apart : (n : ℕ) (x y : MergeTree) (s : Site) (i : ℕ) → Has n x (left_site n x y s) i → Has n y (right_site n x y s) i → ⊥
halves-apart n x y s i l r =
    elim (cases_lt i n) [
      | inl tile ↦ (let a = l.tile_high tile in let b = r.tile_low tile in omega arith)
      | inr merge ↦ (let a = l.merge_high merge in let b : n + (s.first_merge + merges x) ≤ i = r.merge_low merge in omega arith)
    ]
