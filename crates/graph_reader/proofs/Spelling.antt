-- What is spelled so is read, and what is read is spelled so.
use Rattle.std.proofs.Common.{◌≡◌, ◌≢◌, ℕ, zero, suc, ◌<◌, ◌≤◌, Bool, true, false, cond, List, [], ◌∷◌, ◌++◌, length, map, refl, sym, ap, subst, ◌∙◌, ◌⊎◌, inl, inr, arith, append_assoc, append-nil}
use Rattle.std.specs.Prelude.{Result, Ok, Err, replicate, nat_lt, nat_eq}
use Rattle.std.specs.List.{flat_map, AllByRecursion}
use Rattle.std.proofs.lemmas.Bool.{ne_eqb, eqb-false}
use Rattle.hg_base.specs.Graph.{WeightedGraph}
use Rattle.hg_base.specs.declared.graph.Edge.{Edge}
use Rattle.hg_base.specs.declared.fault.FaultKind.TheVariants.{UnknownForm, BadNumber, TooLarge, OutOfRange, Loop, NoVertex}
use Rattle.hg_base.specs.declared.fault.InputFault.{InputFault}
use Rattle.input_tokens.specs.declared.token.Token.{Token}
use Rattle.input_tokens.specs.declared.token.Token.TheVariants.{Graph, GraphWithAreas, Number, Other}
use Rattle.input_tokens.specs.Tokens.{PlacedToken, tokens}
use Rattle.input_tokens.specs.Rules.{◌>>=◌, within_limit, number_read, fault}
use Rattle.graph_reader.specs.EdgeList.{next_token, need, first_word, vertices, edges, area, first_end_read, second_end_read, weight_read, edge, several, areas, whole, graph, edge_list}
use Rattle.graph_reader.specs.Spelling.{edge_tokens, area_tokens, graph_tokens, IsEdge, Spells}

abbrev says : PlacedToken → Token
says t = t.token

not-above : (limit n : ℕ) → n ≤ limit → nat_lt limit n ≡ false
not-above limit n h = grind arith

below : (u n : ℕ) → u < n → nat_lt u n ≡ true
below u n h = grind arith

-- the rules give the numbers that are spelled
vertices-says : (n : ℕ) → 1 ≤ n → n ≤ 1048576 → (at : ℕ) → vertices at (Number n) ≡ Ok n
unfolding vertices number_read
vertices-says n some h at = rw (ne_eqb n 0 (λ e. omega arith), not-above 1048576 n h) refl

edges-says : (m : ℕ) → m ≤ 4194304 → (at : ℕ) → edges at (Number m) ≡ Ok m
unfolding edges number_read
edges-says m h at = rw (not-above 4194304 m h) refl

area-says : (a : ℕ) → 1 ≤ a → a ≤ 4096 → (at : ℕ) → area at (Number a) ≡ Ok a
unfolding area number_read
area-says a some h at = rw (ne_eqb a 0 (λ e. omega arith), not-above 4096 a h) refl

first_end-says : (n u : ℕ) → u < n → (at : ℕ) → first_end_read n at (Number u) ≡ Ok u
unfolding first_end_read number_read
first_end-says n u h at = rw (below u n h) refl

second_end-says : (n u v : ℕ) → v < n → u ≢ v → (at : ℕ) → second_end_read n u at (Number v) ≡ Ok v
unfolding second_end_read
second_end-says n u v h apart at = rw (first_end-says n v h at, ne_eqb v u (λ e. apart (sym e))) refl

weight-says : (w : ℕ) → w ≤ 4294967295 → (at : ℕ) → weight_read at (Number w) ≡ Ok w
unfolding weight_read number_read
weight-says w h at = rw (not-above 4294967295 w h) refl

-- a token that is spelled is read
need-says : {A : Type 0} (end : ℕ) (rule : ℕ → Token → Result A InputFault) (x : A) (a : Token) (ts : List PlacedToken) (rest : List Token)
    → map says ts ≡ a ∷ rest → ((at : ℕ) → rule at a ≡ Ok x)
    → (after : List PlacedToken) × (need end rule ts ≡ Ok (x, after)) × (map says after ≡ rest)
need-says end rule x a [] rest e r = cc
need-says end rule x a (t ∷ ts) rest e r =
    let said : t.token ≡ a = cc in
    let left : map says ts ≡ rest = cc in
    (ts, rw (said, r t.from) refl, left)

several-says : {A : Type 0} (say : A → List Token) (P : A → Type 0) (one : List PlacedToken → Result (A × List PlacedToken) InputFault)
    → ((x : A) (ts : List PlacedToken) (rest : List Token) → P x → map says ts ≡ say x ++ rest
    → (after : List PlacedToken) × (one ts ≡ Ok (x, after)) × (map says after ≡ rest))
    → (xs : List A) (ts : List PlacedToken) (rest : List Token) → AllByRecursion P xs → map says ts ≡ flat_map say xs ++ rest
    → (after : List PlacedToken) × (several (length xs) one ts ≡ Ok (xs, after)) × (map says after ≡ rest)
unfolding several
several-says say P one reads [] ts rest p e = (ts, refl, e)
several-says say P one reads (x ∷ xs) ts rest p e =
    let first = reads x ts (flat_map say xs ++ rest) p.0 (e ∙ append_assoc (say x) (flat_map say xs) rest) in
    let others = several-says say P one reads xs first.0 rest p.1 first.2 in
    (others.0, rw (first.1, others.1) refl, others.2)

area-one : (end a : ℕ) (ts : List PlacedToken) (rest : List Token) → (1 ≤ a) × (a ≤ 4096) → map says ts ≡ area_tokens a ++ rest
    → (after : List PlacedToken) × (need end area ts ≡ Ok (a, after)) × (map says after ≡ rest)
area-one end a ts rest p e = need-says end area a (Number a) ts rest e (area-says a p.0 p.1)

edge-one : (n end : ℕ) (x : Edge) (ts : List PlacedToken) (rest : List Token) → IsEdge n x → map says ts ≡ edge_tokens x ++ rest
    → (after : List PlacedToken) × (edge n end ts ≡ Ok (x, after)) × (map says after ≡ rest)
unfolding edge
edge-one n end x ts rest p e =
    let u = need-says end (first_end_read n) x.u (Number x.u) ts (Number x.v ∷ Number x.w ∷ rest) e (first_end-says n x.u p.joins.u) in
    let v = need-says end (second_end_read n x.u) x.v (Number x.v) u.0 (Number x.w ∷ rest) u.2 (second_end-says n x.u x.v p.joins.v p.joins.apart) in
    let w = need-says end weight_read x.w (Number x.w) v.0 rest v.2 (weight-says x.w p.weight) in
    (w.0, rw (u.1, v.1, w.1) refl, w.2)

word-says : (with_areas : Bool) (missing : Result (Bool × List PlacedToken) InputFault) (a : Token) (ts : List PlacedToken) (rest : List Token)
    → map says ts ≡ a ∷ rest → ((at : ℕ) → first_word at a ≡ Ok with_areas)
    → (after : List PlacedToken) × (next_token missing first_word ts ≡ Ok (with_areas, after)) × (map says after ≡ rest)
word-says with_areas missing a [] rest e r = cc
word-says with_areas missing a (t ∷ ts) rest e r =
    let said : t.token ≡ a = cc in
    let left : map says ts ≡ rest = cc in
    (ts, rw (said, r t.from) refl, left)

none-left : (g : WeightedGraph) (ts : List PlacedToken) → map says ts ≡ [] → whole g ts ≡ Ok g
none-left g [] e = refl
none-left g (t ∷ ts) e = cc

-- the tokens that spell a graph are read as it
pub graph-says : (with_areas : Bool) (bytes : List ℕ) (g : WeightedGraph) → Spells with_areas bytes g → edge_list bytes ≡ Ok g
unfolding edge_list graph first_word
graph-says false bytes g s =
    let end = length bytes in
    let w = word-says false (fault UnknownForm end 0) Graph (tokens bytes) (Number g.n ∷ Number (length g.edges) ∷ flat_map edge_tokens g.edges) s.spelling (λ at. refl) in
    let n = need-says end vertices g.n (Number g.n) w.0 (Number (length g.edges) ∷ flat_map edge_tokens g.edges) w.2 (vertices-says g.n s.some_vertex s.vertices) in
    let m = need-says end edges (length g.edges) (Number (length g.edges)) n.0 (flat_map edge_tokens g.edges) n.2 (edges-says (length g.edges) s.edges) in
    let e = several-says edge_tokens (IsEdge g.n) (edge g.n end) (edge-one g.n end) g.edges m.0 [] s.ends (m.2 ∙ sym (append-nil (flat_map edge_tokens g.edges))) in
    rw (w.1, n.1, m.1, e.1, ← s.not_given refl) (none-left g e.0 e.2)
graph-says true bytes g s =
    let end = length bytes in
    let w = word-says true (fault UnknownForm end 0) GraphWithAreas (tokens bytes)
    (Number g.n ∷ Number (length g.edges) ∷ (flat_map area_tokens g.areas ++ flat_map edge_tokens g.edges)) s.spelling (λ at. refl) in
    let n = need-says end vertices g.n (Number g.n) w.0 (Number (length g.edges) ∷ (flat_map area_tokens g.areas ++ flat_map edge_tokens g.edges)) w.2 (vertices-says g.n s.some_vertex s.vertices) in
    let m = need-says end edges (length g.edges) (Number (length g.edges)) n.0 (flat_map area_tokens g.areas ++ flat_map edge_tokens g.edges) n.2 (edges-says (length g.edges) s.edges) in
    let given = s.given refl in
    let a = several-says area_tokens (λ a. (1 ≤ a) × (a ≤ 4096)) (need end area) (area-one end) g.areas m.0 (flat_map edge_tokens g.edges) given.1 m.2 in
    let all = rw given.0 at a.1 in
    let e = several-says edge_tokens (IsEdge g.n) (edge g.n end) (edge-one g.n end) g.edges a.0 [] s.ends (a.2 ∙ sym (append-nil (flat_map edge_tokens g.edges))) in
    rw (w.1, n.1, m.1, all, e.1) (none-left g e.0 e.2)

-- where a chain gives a value, each step gave one
ok-split : {A B : Type 0} (r : Result A InputFault) (f : A → Result B InputFault) (y : B) → (r >>= f) ≡ Ok y → (x : A) × (r ≡ Ok x) × (f x ≡ Ok y)
ok-split (Ok x) f y e = (x, refl, e)
ok-split (Err q) f y e = cc

test-split : {A : Type 0} (b : Bool) (x y z : A) → cond b x y ≡ z → ((b ≡ true) × (x ≡ z)) ⊎ ((b ≡ false) × (y ≡ z))
test-split true x y z e = inl (refl, e)
test-split false x y z e = inr (refl, e)

ok-inj : {A : Type 0} (x y : A) → (let r : Result A InputFault = Ok x in r) ≡ Ok y → x ≡ y
ok-inj x y e = cc

need-ok : {A : Type 0} (end : ℕ) (rule : ℕ → Token → Result A InputFault) (ts : List PlacedToken) (x : A) (after : List PlacedToken)
    → need end rule ts ≡ Ok (x, after) → (t : PlacedToken) × (ts ≡ t ∷ after) × (rule t.from t.token ≡ Ok x)
need-ok end rule [] x after e = cc
need-ok {A} end rule (t ∷ ts) x after e =
    let s = ok-split (rule t.from t.token) (λ (v : A). let r : Result (A × List PlacedToken) InputFault = Ok (v, ts) in r) (x, after) e in
    let same = ok-inj {A = A × List PlacedToken} (s.0, ts) (x, after) s.2 in
    (t, ap (λ (p : A × List PlacedToken). t ∷ p.1) same, s.1 ∙ ap (λ (p : A × List PlacedToken). let r : Result A InputFault = Ok p.0 in r) same)

need-spelled : (ts : List PlacedToken) (t : PlacedToken) (after : List PlacedToken) (a : Token) → ts ≡ t ∷ after → t.token ≡ a → map says ts ≡ a ∷ map says after
need-spelled ts t after a split said = rw (split, said) refl

number-ok : (at : ℕ) (token : Token) (n : ℕ) → number_read at token ≡ Ok n → token ≡ Number n
unfolding number_read
number-ok at (Number k) n e = cc
number-ok at Graph n e = cc
number-ok at GraphWithAreas n e = cc
number-ok at Other n e = cc

at_most-ok : (limit at n m : ℕ) → within_limit limit at n ≡ Ok m → (n ≡ m) × (m ≤ limit)
at_most-ok limit at n m e = elim (test-split (nat_lt limit n) (fault TooLarge at n) (Ok n) (Ok m) e) [
  | inl h ↦ let no : fault TooLarge at n ≡ Ok m = h.1 in cc
  | inr h ↦ let same : n ≡ m = cc in (same, grind (arith, h.0, same))
]

-- a rule's value is the number that its token spells, within the rule's bounds
vertices-ok : (at : ℕ) (token : Token) (n : ℕ) → vertices at token ≡ Ok n → (token ≡ Number n) × (1 ≤ n) × (n ≤ 1048576)
unfolding vertices
vertices-ok at token n e =
    let s = ok-split (number_read at token) (λ k. cond (nat_eq k 0) (fault NoVertex at 0) (within_limit 1048576 at k)) n e in
    elim (test-split (nat_eq s.0 0) (fault NoVertex at 0) (within_limit 1048576 at s.0) (Ok n) s.2) [
      | inl h ↦ let no : fault NoVertex at 0 ≡ Ok n = h.1 in cc
      | inr h ↦
          let small = at_most-ok 1048576 at s.0 n h.1 in
          let some : s.0 ≢ 0 = eqb-false s.0 0 h.0 in
          (number-ok at token s.0 s.1 ∙ ap Number small.0, omega (arith, small.0, some), small.1)
    ]

edges-ok : (at : ℕ) (token : Token) (m : ℕ) → edges at token ≡ Ok m → (token ≡ Number m) × (m ≤ 4194304)
unfolding edges
edges-ok at token m e =
    let s = ok-split (number_read at token) (λ k. within_limit 4194304 at k) m e in
    let small = at_most-ok 4194304 at s.0 m s.2 in
    (number-ok at token s.0 s.1 ∙ ap Number small.0, small.1)

area-ok : (at : ℕ) (token : Token) (a : ℕ) → area at token ≡ Ok a → (token ≡ Number a) × (1 ≤ a) × (a ≤ 4096)
unfolding area
area-ok at token a e =
    let s = ok-split (number_read at token) (λ k. cond (nat_eq k 0) (fault BadNumber at 0) (within_limit 4096 at k)) a e in
    elim (test-split (nat_eq s.0 0) (fault BadNumber at 0) (within_limit 4096 at s.0) (Ok a) s.2) [
      | inl h ↦ let no : fault BadNumber at 0 ≡ Ok a = h.1 in cc
      | inr h ↦
          let small = at_most-ok 4096 at s.0 a h.1 in
          let some : s.0 ≢ 0 = eqb-false s.0 0 h.0 in
          (number-ok at token s.0 s.1 ∙ ap Number small.0, omega (arith, small.0, some), small.1)
    ]

first_end-ok : (n at : ℕ) (token : Token) (u : ℕ) → first_end_read n at token ≡ Ok u → (token ≡ Number u) × (u < n)
unfolding first_end_read
first_end-ok n at token u e =
    let s = ok-split (number_read at token) (λ k. cond (nat_lt k n) (Ok k) (fault OutOfRange at k)) u e in
    elim (test-split (nat_lt s.0 n) (Ok s.0) (fault OutOfRange at s.0) (Ok u) s.2) [
      | inl h ↦ let same : s.0 ≡ u = cc in (number-ok at token s.0 s.1 ∙ ap Number same, grind (arith, h.0, same))
      | inr h ↦ let no : fault OutOfRange at s.0 ≡ Ok u = h.1 in cc
    ]

second_end-ok : (n u at : ℕ) (token : Token) (v : ℕ) → second_end_read n u at token ≡ Ok v → (token ≡ Number v) × (v < n) × (u ≢ v)
unfolding second_end_read
second_end-ok n u at token v e =
    let s = ok-split (first_end_read n at token) (λ k. cond (nat_eq k u) (fault Loop at k) (Ok k)) v e in
    let first = first_end-ok n at token s.0 s.1 in
    elim (test-split (nat_eq s.0 u) (fault Loop at s.0) (Ok s.0) (Ok v) s.2) [
      | inl h ↦ let no : fault Loop at s.0 ≡ Ok v = h.1 in cc
      | inr h ↦
          let same : s.0 ≡ v = cc in
          let apart : s.0 ≢ u = eqb-false s.0 u h.0 in
          (first.0 ∙ ap Number same, omega (arith, first.1, same), λ e. apart (same ∙ sym e))
    ]

weight-ok : (at : ℕ) (token : Token) (w : ℕ) → weight_read at token ≡ Ok w → (token ≡ Number w) × (w ≤ 4294967295)
unfolding weight_read
weight-ok at token w e =
    let s = ok-split (number_read at token) (λ k. within_limit 4294967295 at k) w e in
    let small = at_most-ok 4294967295 at s.0 w s.2 in
    (number-ok at token s.0 s.1 ∙ ap Number small.0, small.1)

area-one-ok : (end : ℕ) (ts : List PlacedToken) (a : ℕ) (after : List PlacedToken) → need end area ts ≡ Ok (a, after)
    → ((1 ≤ a) × (a ≤ 4096)) × (map says ts ≡ area_tokens a ++ map says after)
area-one-ok end ts a after e =
    let t = need-ok end area ts a after e in
    let r = area-ok t.0.from t.0.token a t.2 in
    ((r.1, r.2), rw (t.1, r.0) refl)

abbrev weighed : ℕ → ℕ → ℕ × List PlacedToken → Result (Edge × List PlacedToken) InputFault
weighed u v w = Ok (record { u = u; v = v; w = w.0 }, w.1)

abbrev ended_at : ℕ → ℕ → ℕ × List PlacedToken → Result (Edge × List PlacedToken) InputFault
ended_at end u v = need end weight_read v.1 >>= weighed u v.0

abbrev begun_at : ℕ → ℕ → ℕ × List PlacedToken → Result (Edge × List PlacedToken) InputFault
begun_at n end u = need end (second_end_read n u.0) u.1 >>= ended_at end u.0

edge-one-ok : (n end : ℕ) (ts : List PlacedToken) (x : Edge) (after : List PlacedToken) → edge n end ts ≡ Ok (x, after)
    → IsEdge n x × (map says ts ≡ edge_tokens x ++ map says after)
unfolding edge
edge-one-ok n end ts x after e =
    let u = ok-split (need end (first_end_read n) ts) (begun_at n end) (x, after) e in
    let v = ok-split (need end (second_end_read n u.0.0) u.0.1) (ended_at end u.0.0) (x, after) u.2 in
    let w = ok-split (need end weight_read v.0.1) (weighed u.0.0 v.0.0) (x, after) v.2 in
    let first = need-ok end (first_end_read n) ts u.0.0 u.0.1 u.1 in
    let second = need-ok end (second_end_read n u.0.0) u.0.1 v.0.0 v.0.1 v.1 in
    let third = need-ok end weight_read v.0.1 w.0.0 w.0.1 w.1 in
    let a = first_end-ok n first.0.from first.0.token u.0.0 first.2 in
    let b = second_end-ok n u.0.0 second.0.from second.0.token v.0.0 second.2 in
    let c = weight-ok third.0.from third.0.token w.0.0 third.2 in
    let read : Edge = record { u = u.0.0; v = v.0.0; w = w.0.0 } in
    let P : Edge × List PlacedToken → Type 0 = λ p. IsEdge n p.0 × (map says ts ≡ edge_tokens p.0 ++ map says p.1) in
    subst P (ok-inj {A = Edge × List PlacedToken} (read, w.0.1) (x, after) w.2) (
      record { joins = record { u = a.1; v = b.1; apart = b.2 }; weight = c.1 },
      need-spelled ts first.0 u.0.1 (Number u.0.0) first.1 a.0
          ∙ ap (λ (r : List Token). Number u.0.0 ∷ r) (need-spelled u.0.1 second.0 v.0.1 (Number v.0.0) second.1 b.0
          ∙ ap (λ (r : List Token). Number v.0.0 ∷ r) (need-spelled v.0.1 third.0 w.0.1 (Number w.0.0) third.1 c.0)),
    )

abbrev joined : {A : Type 0} → A → List A × List PlacedToken → Result (List A × List PlacedToken) InputFault
joined x xs = Ok (x ∷ xs.0, xs.1)

abbrev then_more : {A : Type 0} → ℕ → (List PlacedToken → Result (A × List PlacedToken) InputFault) → A × List PlacedToken → Result (List A × List PlacedToken) InputFault
then_more k one x = several k one x.1 >>= joined x.0

several-ok : {A : Type 0} (say : A → List Token) (P : A → Type 0) (one : List PlacedToken → Result (A × List PlacedToken) InputFault)
    → ((ts : List PlacedToken) (x : A) (after : List PlacedToken) → one ts ≡ Ok (x, after) → P x × (map says ts ≡ say x ++ map says after))
    → (k : ℕ) (ts : List PlacedToken) (xs : List A) (after : List PlacedToken) → several k one ts ≡ Ok (xs, after)
    → (length xs ≡ k) × AllByRecursion P xs × (map says ts ≡ flat_map say xs ++ map says after)
unfolding several
several-ok {A} say P one ok zero ts xs after e =
    let Q : List A × List PlacedToken → Type 0 = λ p. (length p.0 ≡ zero) × AllByRecursion P p.0 × (map says ts ≡ flat_map say p.0 ++ map says p.1) in
    subst Q (ok-inj {A = List A × List PlacedToken} ([], ts) (xs, after) e) (refl, tt, refl)
several-ok {A} say P one ok (suc k) ts xs after e =
    let x = ok-split (one ts) (then_more k one) (xs, after) e in
    let os = ok-split (several k one x.0.1) (joined x.0.0) (xs, after) x.2 in
    let Q : List A × List PlacedToken → Type 0 = λ p. (length p.0 ≡ suc k) × AllByRecursion P p.0 × (map says ts ≡ flat_map say p.0 ++ map says p.1) in
    let first = ok ts x.0.0 x.0.1 x.1 in
    let others = several-ok say P one ok k x.0.1 os.0.0 os.0.1 os.1 in
    subst Q (ok-inj {A = List A × List PlacedToken} (x.0.0 ∷ os.0.0, os.0.1) (xs, after) os.2) (
      ap suc others.0,
      (first.0, others.1),
      first.1 ∙ ap (λ (r : List Token). say x.0.0 ++ r) others.2 ∙ sym (append_assoc (say x.0.0) (flat_map say os.0.0) (map says os.0.1)),
    )

whole-ok : (g h : WeightedGraph) (ts : List PlacedToken) → whole g ts ≡ Ok h → (g ≡ h) × (map says ts ≡ [])
whole-ok g h [] e = let same : g ≡ h = cc in (same, refl)
whole-ok g h (t ∷ ts) e = cc

abbrev word_of : Bool → Token
word_of true = GraphWithAreas
word_of false = Graph

first_word-ok : (at : ℕ) (token : Token) (b : Bool) → first_word at token ≡ Ok b → token ≡ word_of b
unfolding first_word
first_word-ok at Graph true e = cc
first_word-ok at Graph false e = refl
first_word-ok at GraphWithAreas true e = refl
first_word-ok at GraphWithAreas false e = cc
first_word-ok at (Number n) b e = cc
first_word-ok at Other b e = cc

word-ok : (end : ℕ) (ts : List PlacedToken) (b : Bool) (after : List PlacedToken) → next_token (fault UnknownForm end 0) first_word ts ≡ Ok (b, after)
    → map says ts ≡ word_of b ∷ map says after
word-ok end [] b after e = cc
word-ok end (t ∷ ts) b after e =
    let s = ok-split (first_word t.from t.token) (λ (v : Bool). let r : Result (Bool × List PlacedToken) InputFault = Ok (v, ts) in r) (b, after) e in
    let same = ok-inj {A = Bool × List PlacedToken} (s.0, ts) (b, after) s.2 in
    ap (λ (a : Token). a ∷ map says ts) (first_word-ok t.from t.token s.0 s.1)
    ∙ ap (λ (p : Bool × List PlacedToken). word_of p.0 ∷ map says p.1) same

abbrev with_list : ℕ → List ℕ → List Edge × List PlacedToken → Result WeightedGraph InputFault
with_list n as_ e = whole (record { n = n; areas = as_; edges = e.0 }) e.1

abbrev with_room : ℕ → ℕ → ℕ → List ℕ × List PlacedToken → Result WeightedGraph InputFault
with_room end n m a = several m (edge n end) a.1 >>= with_list n a.0

abbrev with_edges : ℕ → Bool → ℕ → ℕ × List PlacedToken → Result WeightedGraph InputFault
with_edges end b n m = areas b n end m.1 >>= with_room end n m.0

abbrev with_vertices : ℕ → Bool → ℕ × List PlacedToken → Result WeightedGraph InputFault
with_vertices end b n = need end edges n.1 >>= with_edges end b n.0

abbrev with_word : ℕ → Bool × List PlacedToken → Result WeightedGraph InputFault
with_word end w = need end vertices w.1 >>= with_vertices end w.0

-- the areas, where there are some
record HasAreas (b : Bool) (n : ℕ) (all : List ℕ) (before after : List Token) : Type 0 where
  given : b ≡ true → (length all ≡ n) × AllByRecursion (λ a. (1 ≤ a) × (a ≤ 4096)) all × (before ≡ flat_map area_tokens all ++ after)
  not_given : b ≡ false → (all ≡ replicate n 1) × (before ≡ after)

areas-ok : (b : Bool) (n end : ℕ) (ts : List PlacedToken) (all : List ℕ) (after : List PlacedToken) → areas b n end ts ≡ Ok (all, after)
    → HasAreas b n all (map says ts) (map says after)
areas-ok true n end ts all after e = record {
  given = λ _. several-ok area_tokens (λ a. (1 ≤ a) × (a ≤ 4096)) (need end area) (area-one-ok end) n ts all after e;
  not_given = λ no. cc;
}
areas-ok false n end ts all after e =
    let same = ok-inj {A = List ℕ × List PlacedToken} (replicate n 1, ts) (all, after) e in
    record {
      given = λ no. cc;
      not_given = λ _. (sym (ap (λ (p : List ℕ × List PlacedToken). p.0) same), ap (λ (p : List ℕ × List PlacedToken). map says p.1) same);
    }

spelled-with : (b : Bool) (g : WeightedGraph) (before after : List Token) → HasAreas b g.n g.areas before after → after ≡ flat_map edge_tokens g.edges
    → word_of b ∷ Number g.n ∷ Number (length g.edges) ∷ before ≡ graph_tokens b g
spelled-with true g before after h e = rw ((h.given refl).2, e) refl
spelled-with false g before after h e = rw ((h.not_given refl).1, e) refl

-- a graph that is read is spelled so
pub graph-ok : (bytes : List ℕ) (g : WeightedGraph) → edge_list bytes ≡ Ok g → (with_areas : Bool) × Spells with_areas bytes g
unfolding edge_list graph
graph-ok bytes g e =
    let end = length bytes in
    let w = ok-split (next_token (fault UnknownForm end 0) first_word (tokens bytes)) (with_word end) g e in
    let n = ok-split (need end vertices w.0.1) (with_vertices end w.0.0) g w.2 in
    let m = ok-split (need end edges n.0.1) (with_edges end w.0.0 n.0.0) g n.2 in
    let a = ok-split (areas w.0.0 n.0.0 end m.0.1) (with_room end n.0.0 m.0.0) g m.2 in
    let l = ok-split (several m.0.0 (edge n.0.0 end) a.0.1) (with_list n.0.0 a.0.0) g a.2 in
    let read : WeightedGraph = record { n = n.0.0; areas = a.0.0; edges = l.0.0 } in
    let fin = whole-ok read g l.0.1 l.2 in
    let word = word-ok end (tokens bytes) w.0.0 w.0.1 w.1 in
    let tn = need-ok end vertices w.0.1 n.0.0 n.0.1 n.1 in
    let tm = need-ok end edges n.0.1 m.0.0 m.0.1 m.1 in
    let rn = vertices-ok tn.0.from tn.0.token n.0.0 tn.2 in
    let rm = edges-ok tm.0.from tm.0.token m.0.0 tm.2 in
    let has = areas-ok w.0.0 n.0.0 end m.0.1 a.0.0 a.0.1 a.1 in
    let es = several-ok edge_tokens (IsEdge n.0.0) (edge n.0.0 end) (edge-one-ok n.0.0 end) m.0.0 a.0.1 l.0.0 l.0.1 l.1 in
    let last : map says a.0.1 ≡ flat_map edge_tokens l.0.0 = es.2 ∙ rw fin.1 (append-nil (flat_map edge_tokens l.0.0)) in
    let counted : word_of w.0.0 ∷ Number n.0.0 ∷ Number m.0.0 ∷ map says m.0.1 ≡ graph_tokens w.0.0 read =
    ap (λ (k : ℕ). word_of w.0.0 ∷ Number n.0.0 ∷ Number k ∷ map says m.0.1) (sym es.0) ∙ spelled-with w.0.0 read (map says m.0.1) (map says a.0.1) has last in
    let P : WeightedGraph → Type 0 = λ h. Spells w.0.0 bytes h in (
      w.0.0,
      subst P fin.0 (record {
        some_vertex = rn.1;
        vertices = rn.2;
        edges = omega (arith, es.0, rm.1);
        ends = es.1;
        given = λ b. let h = has.given b in (h.0, h.1);
        not_given = λ b. (has.not_given b).0;
        spelling = word
            ∙ ap (λ (r : List Token). word_of w.0.0 ∷ r) (need-spelled w.0.1 tn.0 n.0.1 (Number n.0.0) tn.1 rn.0
            ∙ ap (λ (r : List Token). Number n.0.0 ∷ r) (need-spelled n.0.1 tm.0 m.0.1 (Number m.0.0) tm.1 rm.0))
            ∙ counted;
      }),
    )
