-- Joining edges and components add up to the number of vertices.
use Rattle.std.proofs.Common.{◌≡◌, ◌≢◌, ℕ, zero, suc, ◌+◌, ◌<◌, Bool, true, false, ◌⊎◌, inl, inr, refl, sym, ◌∙◌, subst, ap, arith, [], ◌∷◌, ◌++◌, length, length-append}
use Rattle.std.specs.Prelude.{not}
use Rattle.std.proofs.lemmas.Bool.{false_from_ne_true, cases_Bool, cases_order, true≢false}
use Rattle.edge_laws.specs.Edges.{ListedEdge, EdgeList, AreApart, AreWithin, joined, below, joins, is_joining, components, link}
use Rattle.hg_base.specs.Lists.{IsIn}
use Rattle.hg_base.specs.Counting.{count_below, is_least}
use Rattle.edge_laws.proofs.Link.{IsSame, link_cases, link-old, link-over, link-back}
use Rattle.edge_laws.proofs.Walks.{IsSame-joined}
use Rattle.edge_laws.proofs.Members.{IsSameSet, IsIn-below, IsIn-below_kept, IsRising, IsRising-filter, rising-same}
use Rattle.edge_laws.proofs.Sets.{same_test, joined-same, IsIn-joins, IsIn-joins_kept, IsRising-joins}
use Rattle.edge_laws.proofs.Leaving.{link-same}
use Rattle.edge_laws.proofs.Fronts.{rank_found, apart-one, joined-step_with, joined-step_without, joined-first_front}
use Rattle.hg_base.proofs.Counts.{count_below-agree, count_below-all, count_below-drop, LeastBelow, is_least-from, is_least-to, is_least-agree, least_below}
use Rattle.hg_base.proofs.Lists.{nothing-in, IsIn-append, IsIn-append_back}

-- the least member of the class of x
pub least_of : (r : ℕ → ℕ → Bool) → IsSame r → (x : ℕ) → LeastBelow (r x) (suc x)
least_of r same x =
    elim (least_below (r x) (suc x))
    [ inl l ↦ l | inr none' ↦ absurd (true≢false (sym (same.self x) ∙ none' x (omega arith))) ]

-- two classes that become one: the greater of their least members is least no more
link-drop : (r : ℕ → ℕ → Bool) → IsSame r → (u v n : ℕ) (a : LeastBelow (r u) (suc u)) (b : LeastBelow (r v) (suc v)) → v < n → a.at < b.at →
    count_below (is_least (link r u v)) n + 1 ≡ count_below (is_least r) n
link-drop r same u v n a b vn lower =
    let low : b.at < suc v = b.low in
    count_below-drop (is_least r) (is_least (link r u v)) b.at n (omega arith) was_least no_more others
  where
    was_least : is_least r b.at ≡ true
    was_least = is_least-from r b.at (λ y lt. false_from_ne_true (r b.at y) (λ k. true≢false (sym (sym (b.least y lt) ∙ same.on v b.at y b.passes k))))

    no_more : is_least (link r u v) b.at ≡ false
    no_more = false_from_ne_true (is_least (link r u v) b.at) (λ k. true≢false (sym (link-back r u v b.at a.at (same.back v b.at b.passes) a.passes) ∙ is_least-to (link r u v) b.at k a.at lower))

    still : (x y : ℕ) → x ≢ b.at → is_least r x ≡ true → y < x → link r u v x y ≡ true → ⊥
    still x y other k lt j =
        elim (link_cases r u v x y j) [
          | inl old ↦ true≢false (sym old ∙ is_least-to r x k y lt)
          | inr over ↦ elim over [
            | inl p ↦ elim (cases_order a.at x) [
              | inl level ↦ elim (cases_order y b.at) [
                | inl same_y ↦ (absurd (omega arith))
                | inr q ↦ elim q [
                  | inl lowy ↦ true≢false (sym p.1 ∙ b.least y lowy)
                  | inr highy ↦ absurd (omega arith)
                ]
              ]
              | inr q ↦ elim q [
                | inl lowa ↦ true≢false (sym (same.on x u a.at p.0 a.passes) ∙ is_least-to r x k a.at lowa)
                | inr higha ↦ elim (cases_order y b.at) [
                  | inl same_y ↦ absurd (omega arith)
                  | inr q' ↦ elim q' [
                    | inl lowy ↦ true≢false (sym p.1 ∙ b.least y lowy)
                    | inr highy ↦ absurd (omega arith)
                  ]
                ]
              ]
            ]
            | inr p ↦ elim (cases_order b.at x) [
              | inl level ↦ other (sym level)
              | inr q ↦ elim q [
                | inl lowb ↦ true≢false (sym (same.on x v b.at p.0 b.passes) ∙ is_least-to r x k b.at lowb)
                | inr highb ↦ true≢false (sym (same.back x v p.0) ∙ b.least x highb)
              ]
            ]
          ]
        ]

    others : (x : ℕ) → x ≢ b.at → is_least (link r u v) x ≡ is_least r x
    others x other = same_test (is_least (link r u v) x) (is_least r x)
        (λ k. is_least-from r x (λ y lt. false_from_ne_true (r x y) (λ j. true≢false (sym (sym (is_least-to (link r u v) x k y lt) ∙ link-old r u v x y j)))))
        (λ k. is_least-from (link r u v) x (λ y lt. false_from_ne_true (link r u v x y) (λ j. still x y other k lt j)))

-- a link goes both ways
link-flip : (r : ℕ → ℕ → Bool) (u v x y : ℕ) → link r v u x y ≡ link r u v x y
link-flip r u v x y =
    same_test (link r v u x y) (link r u v x y) (turned v u) (turned u v)
  where
    turned : (a b : ℕ) → link r a b x y ≡ true → link r b a x y ≡ true
    turned a b h =
        elim (link_cases r a b x y h) [
          | inl old ↦ link-old r b a x y old
          | inr over ↦ elim over [ inl p ↦ link-back r b a x y p.0 p.1 | inr p ↦ link-over r b a x y p.0 p.1 ]
        ]

-- joining two classes leaves one fewer
pub link-count : (r : ℕ → ℕ → Bool) → IsSame r → (u v n : ℕ) → u < n → v < n → r u v ≡ false →
    count_below (is_least (link r u v)) n + 1 ≡ count_below (is_least r) n
link-count r same u v n un vn apart =
    let a = least_of r same u in
    let b = least_of r same v in
    elim (cases_order a.at b.at) [
      | inl level ↦ absurd (true≢false (sym (same.on u a.at v a.passes (same.back v a.at (subst (λ (m : ℕ). r v m ≡ true) (sym level) b.passes))) ∙ apart))
      | inr other ↦ elim other [
        | inl low ↦ link-drop r same u v n a b vn low
        | inr high ↦ ap (λ (c : ℕ). c + 1) (count_below-agree (is_least (link r u v)) (is_least (link r v u)) n (λ x lt. is_least-agree (link r u v) (link r v u) (link-flip r v u) x))
            ∙ link-drop r same v u n b a un high
      ]
    ]

-- two rising lists, the second above the first, rise together
pub IsRising-append : (s t : EdgeList) → IsRising s → IsRising t → ((e f : ListedEdge) → IsIn e s → IsIn f t → e.rank < f.rank) → IsRising (s ++ t)
IsRising-append [] t hs ht h = ht
IsRising-append (e ∷ s) t hs ht h = (
  λ f i. elim (IsIn-append_back f s t i) as (λ _. e.rank < f.rank) [ inl j ↦ hs.0 f j | inr j ↦ h e f (inl refl) j ],
  IsRising-append s t hs.1 ht (λ f g i j. h f g (inr i) j),
)

-- the joining edges of rank up to a joining edge's: those below, and the edge
pub joins-step_with : (s : EdgeList) → AreApart s → (e : ListedEdge) → IsIn e s → is_joining s e ≡ true →
    below (joins s) (suc e.rank) ≡ below (joins s) e.rank ++ (e ∷ [])
joins-step_with s h e i j =
    rising-same (below (joins s) (suc e.rank)) (below (joins s) e.rank ++ (e ∷ []))
    (IsRising-filter _ (joins s) (IsRising-joins s h))
    (IsRising-append (below (joins s) e.rank) (e ∷ []) (IsRising-filter _ (joins s) (IsRising-joins s h)) (λ f k. absurd k, tt)
    (λ f g kf kg. elim kg as (λ _. f.rank < g.rank) [
      | inl same ↦ subst (λ (x : ListedEdge). f.rank < x.rank) same ((IsIn-below_kept f (joins s) e.rank kf).1)
      | inr never ↦ absurd never
    ]))
    (record { on = on; back = back })
  where
    on : (f : ListedEdge) → IsIn f (below (joins s) (suc e.rank)) → IsIn f (below (joins s) e.rank ++ (e ∷ []))
    on f k =
        let p = IsIn-below_kept f (joins s) (suc e.rank) k in
        IsIn-append f (below (joins s) e.rank) (e ∷ [])
        (elim (cases_order f.rank e.rank) as (λ _. IsIn f (below (joins s) e.rank) ⊎ IsIn f (e ∷ [])) [
          | inl level ↦ inr (inl (apart-one s h e f i (IsIn-joins_kept s f p.0).0 (sym level)))
          | inr other ↦ elim other as (λ _. IsIn f (below (joins s) e.rank) ⊎ IsIn f (e ∷ [])) [
            | inl low ↦ inl (IsIn-below f (joins s) e.rank p.0 low)
            | inr high ↦ absurd (let top : f.rank < suc e.rank = p.1 in omega arith)
          ]
        ])

    back : (f : ListedEdge) → IsIn f (below (joins s) e.rank ++ (e ∷ [])) → IsIn f (below (joins s) (suc e.rank))
    back f k =
        elim (IsIn-append_back f (below (joins s) e.rank) (e ∷ []) k) as (λ _. IsIn f (below (joins s) (suc e.rank))) [
          | inl low ↦ (let p = IsIn-below_kept f (joins s) e.rank low in
              IsIn-below f (joins s) (suc e.rank) p.0 (let top : f.rank < e.rank = p.1 in omega arith))
          | inr last ↦ elim last as (λ _. IsIn f (below (joins s) (suc e.rank))) [
            | inl same ↦ subst (λ (x : ListedEdge). IsIn x (below (joins s) (suc e.rank))) same
                (IsIn-below e (joins s) (suc e.rank) (IsIn-joins s e i j) (omega arith))
            | inr never ↦ absurd never
          ]
        ]

-- no joining edge of rank k: the joining edges below k and below k + 1 are the same
pub joins-step_without : (s : EdgeList) → AreApart s → (k : ℕ) → ((e : ListedEdge) → IsIn e s → is_joining s e ≡ true → e.rank ≡ k → ⊥) →
    below (joins s) (suc k) ≡ below (joins s) k
joins-step_without s h k never =
    rising-same (below (joins s) (suc k)) (below (joins s) k)
    (IsRising-filter _ (joins s) (IsRising-joins s h)) (IsRising-filter _ (joins s) (IsRising-joins s h))
    (record {
      on = λ f i. (let p = IsIn-below_kept f (joins s) (suc k) i in let q = IsIn-joins_kept s f p.0 in
          let other : f.rank ≡ k → ⊥ = never f q.0 q.1 in
          let top : f.rank < suc k = p.1 in
          IsIn-below f (joins s) k p.0 (grind (arith, top, other)));
      back = λ f i. (let p = IsIn-below_kept f (joins s) k i in
          IsIn-below f (joins s) (suc k) p.0 (let top : f.rank < k = p.1 in omega arith));
    })

-- lists that join the same vertices have as many components
pub components-agree : (n : ℕ) (s t : EdgeList) → ((x y : ℕ) → joined s x y ≡ joined t x y) → components n s ≡ components n t
components-agree n s t h = count_below-agree (is_least (joined s)) (is_least (joined t)) n (λ x lt. is_least-agree (joined s) (joined t) h x)

-- the step of the count where e has rank k
front-count_at : (n : ℕ) (s : EdgeList) → AreApart s → AreWithin n s → (k : ℕ) (e : ListedEdge) → IsIn e s → e.rank ≡ k →
    length (below (joins s) k) + components n (below s k) ≡ n → length (below (joins s) (suc k)) + components n (below s (suc k)) ≡ n
front-count_at n s h within k e i r before =
    subst (λ (m : ℕ). length (below (joins s) (suc m)) + components n (below s (suc m)) ≡ n) r
    (step (subst (λ (m : ℕ). length (below (joins s) m) + components n (below s m) ≡ n) (sym r) before))
  where
    linked : (x y : ℕ) → joined (below s (suc e.rank)) x y ≡ link (joined (below s e.rank)) e.u e.v x y
    linked x y = joined-step_with s h e i x y

    step : length (below (joins s) e.rank) + components n (below s e.rank) ≡ n → length (below (joins s) (suc e.rank)) + components n (below s (suc e.rank)) ≡ n
    step now =
        elim (cases_Bool (joined (below s e.rank) e.u e.v)) [
          | inl old ↦ ap (λ (t : EdgeList). length t + components n (below s (suc e.rank)))
              (joins-step_without s h e.rank (λ f j t q. true≢false (sym t ∙ subst (λ (g : ListedEdge). is_joining s g ≡ false) (apart-one s h e f i j (sym q)) (ap not old))))
              ∙ ap (λ (c : ℕ). length (below (joins s) e.rank) + c)
              (components-agree n (below s (suc e.rank)) (below s e.rank)
              (λ x y. linked x y ∙ link-same (joined (below s e.rank)) (IsSame-joined (below s e.rank)) e.u e.v x y old))
              ∙ now
          | inr new ↦ (let more : length (below (joins s) (suc e.rank)) ≡ length (below (joins s) e.rank) + 1 =
              ap length (joins-step_with s h e i (ap not new)) ∙ length-append (below (joins s) e.rank) (e ∷ []) in
              let fewer : components n (below s (suc e.rank)) + 1 ≡ components n (below s e.rank) =
              ap (λ (c : ℕ). c + 1) (count_below-agree (is_least (joined (below s (suc e.rank)))) (is_least (link (joined (below s e.rank)) e.u e.v)) n
              (λ x lt. is_least-agree (joined (below s (suc e.rank))) (link (joined (below s e.rank)) e.u e.v) linked x))
              ∙ link-count (joined (below s e.rank)) (IsSame-joined (below s e.rank)) e.u e.v n (within e i).0 (within e i).1 new in
              omega (arith, more, fewer, now))
        ]

-- joining edges below rank k, and components of the edges below rank k, add up to the vertices
pub front-count : (n : ℕ) (s : EdgeList) → AreApart s → AreWithin n s → (k : ℕ) →
    length (below (joins s) k) + components n (below s k) ≡ n
front-count n s h within zero =
    let none' : below (joins s) 0 ≡ [] = nothing-in (below (joins s) 0) (λ e i. (let low : e.rank < 0 = (IsIn-below_kept e (joins s) 0 i).1 in absurd (omega arith))) in
    let all : components n (below s 0) ≡ n = count_below-all (is_least (joined (below s 0))) n
    (λ x lt. is_least-from (joined (below s 0)) x (λ y low. false_from_ne_true (joined (below s 0) x y) (λ j. (let same : x ≡ y = joined-first_front s x y j in omega arith)))) in
    rw (none', all) (omega arith)
front-count n s h within (suc k) =
    elim (rank_found s k) [
      | inl found ↦ front-count_at n s h within k found.0 found.1.0 found.1.1 (front-count n s h within k)
      | inr never ↦ ap (λ (t : EdgeList). length t + components n (below s (suc k))) (joins-step_without s h k (λ e i j r. never e i r))
          ∙ ap (λ (c : ℕ). length (below (joins s) k) + c) (components-agree n (below s (suc k)) (below s k) (joined-step_without s k never))
          ∙ front-count n s h within k
    ]

-- a rank above all of the list's
pub rank_above : (s : EdgeList) → (k : ℕ) × ((e : ListedEdge) → IsIn e s → e.rank < k)
rank_above [] = (0, λ e i. absurd i)
rank_above (f ∷ s) =
    let rest = rank_above s in (
      suc (f.rank + rest.0),
      λ e i. elim i as (λ _. e.rank < suc (f.rank + rest.0)) [
        | inl same ↦ (let r : f.rank ≡ e.rank = ap (λ (x : ListedEdge). x.rank) same in omega arith)
        | inr later ↦ (let q : e.rank < rest.0 = rest.1 e later in omega arith)
      ],
    )

-- above all ranks, the edges below are all
pub below-all : (s : EdgeList) (k : ℕ) → ((e : ListedEdge) → IsIn e s → e.rank < k) → IsSameSet (below s k) s
below-all s k h = record { on = λ e i. (IsIn-below_kept e s k i).0; back = λ e i. IsIn-below e s k i (h e i) }

-- joining edges and components add up to the vertices
pub joins-count : (n : ℕ) (s : EdgeList) → AreApart s → AreWithin n s → length (joins s) + components n s ≡ n
joins-count n s h within =
    let top = rank_above s in
    let all : below (joins s) top.0 ≡ joins s =
    rising-same (below (joins s) top.0) (joins s) (IsRising-filter _ (joins s) (IsRising-joins s h)) (IsRising-joins s h)
    (below-all (joins s) top.0 (λ e i. top.1 e (IsIn-joins_kept s e i).0)) in
    ap (λ (t : EdgeList). length t + components n s) (sym all)
    ∙ ap (λ (c : ℕ). length (below (joins s) top.0) + c)
    (components-agree n s (below s top.0) (λ x y. sym (joined-same (below s top.0) s x y (below-all s top.0 top.1))))
    ∙ front-count n s h within top.0
