-- Each fault is the first from the left.
use Rattle.std.proofs.Common.{◌≡◌, ◌≢◌, ℕ, ◌<◌, List, [], ◌∷◌, ◌++◌, length, take, refl, sym, ap, ◌∙◌, ◌⊎◌, inl, inr, arith, append_assoc}
use Rattle.std.specs.Prelude.{Result, Ok, Err, Contains}
use Rattle.std.proofs.lemmas.List.{length-take-le}
use Rattle.std.proofs.lemmas.List.Elements.{Contains-append_cases, Contains-append_right, Contains-append_left, Contains-push, All-contains, All-cons, All-nil}
use Rattle.hg_base.specs.Graph.{WeightedGraph}
use Rattle.hg_base.specs.declared.fault.FaultKind.TheVariants.{UnknownForm, Truncated}
use Rattle.hg_base.specs.declared.fault.InputFault.{InputFault}
use Rattle.input_tokens.specs.Tokens.{PlacedToken, tokens}
use Rattle.graph_reader.specs.EdgeList.{graph, edge_list}
use Rattle.graph_reader.specs.FirstFault.{IsRightBefore, IsFirstWrong, EndsTooEarly}
use Rattle.graph_reader.proofs.LeftToRight.{Fails, ends-graph, graph-nothing}
use Rattle.input_tokens.proofs.CutInputs.{tokens-onward, tokens-cut, token-inside}

same-fault : (x y : InputFault) → (let r : Result WeightedGraph InputFault = Err x in r) ≡ Err y → x ≡ y
same-fault x y e = cc

-- a token of a list parts it in two
split-at : (ts : List PlacedToken) (t : PlacedToken) → Contains ts t → (front : List PlacedToken) × (back : List PlacedToken) × (ts ≡ front ++ t ∷ back)
split-at [] t h = absurd (omega (arith, h.1))
split-at (u ∷ ts) t h = elim (Contains-append_cases (u ∷ []) ts t h) [
  | inl here ↦
      let same = All-contains (λ v. u ≡ v) (u ∷ []) t (All-cons (λ v. u ≡ v) u [] refl (All-nil (λ v. u ≡ v))) here in
      ([], ts, ap (λ (v : PlacedToken). v ∷ ts) same)
  | inr later ↦
      let r = split-at ts t later in
      (u ∷ r.0, r.1, ap (λ (more : List PlacedToken). u ∷ more) r.2)
]

contains-middle : (front : List PlacedToken) (t : PlacedToken) (back : List PlacedToken) → Contains (front ++ t ∷ back) t
contains-middle front t back = Contains-append_right front (t ∷ back) t (Contains-append_left (t ∷ []) back t (Contains-push [] t))

-- why tokens give this fault, of an input with this end
abbrev Why : ℕ → List PlacedToken → InputFault → Type 0
Why end ts f =
    ((ts ≡ []) × (f ≡ record { kind = UnknownForm; at = end; value = 0 }))
    ⊎ (((ts ≢ []) × (f ≡ record { kind = Truncated; at = end; value = 0 }))
    ⊎ ((x : Fails graph ts) × (x.found ≡ f)))

why : (end : ℕ) (ts : List PlacedToken) (f : InputFault) → graph end ts ≡ Err f → Why end ts f
why end [] f e = inl (refl, sym (same-fault (record { kind = UnknownForm; at = end; value = 0 }) f (sym (graph-nothing end) ∙ e)))
why end (t ∷ ts) f e = elim (ends-graph t ts) [
  | inl s ↦ let no : Ok (s end).0 ≡ Err f = sym (s end).1 ∙ e in cc
  | inr (inl x) ↦
      let found : graph end (t ∷ ts) ≡ Err x.found = ap (λ (all : List PlacedToken). graph end all) x.split ∙ x.always end x.back in
      inr (inr (x, same-fault x.found f (sym found ∙ e)))
  | inr (inr s) ↦ inr (inl (λ none. cc, sym (same-fault (record { kind = Truncated; at = end; value = 0 }) f (sym (s end) ∙ e))))
]

why-not : (bytes : List ℕ) (f : InputFault) → edge_list bytes ≡ Err f → Why (length bytes) (tokens bytes) f
unfolding edge_list
why-not bytes f e = why (length bytes) (tokens bytes) f e

-- an input whose tokens begin so has the same fault
fault-of : (ts : List PlacedToken) (x : Fails graph ts) (other : List ℕ) (more : List PlacedToken) → tokens other ≡ x.front ++ x.wrong ∷ more → edge_list other ≡ Err x.found
unfolding edge_list
fault-of ts x other more e = ap (λ (all : List PlacedToken). graph (length other) all) e ∙ x.always (length other) more

-- a fault of the bytes up to a token's end is that they end there, or it is the fault of them all
kept-or-end : (bytes : List ℕ) (t : PlacedToken) (f : InputFault) → Contains (tokens bytes) t → edge_list (take t.to bytes) ≡ Err f
    → (length (take t.to bytes) ≡ t.to) × ((f.at ≡ t.to) ⊎ ((edge_list bytes ≡ Err f) × (f.at < t.to)))
kept-or-end bytes t f h e =
    let s = split-at (tokens bytes) t h in
    let inside = token-inside bytes s.0 t s.1 s.2 in
    let cut = tokens-cut bytes s.0 t s.1 s.2 in
    let long : length (take t.to bytes) ≡ t.to = length-take-le t.to bytes inside.1 in (
      long,
      elim (why-not (take t.to bytes) f e) [
        | inl none ↦ inl (ap (λ (g : InputFault). g.at) none.1 ∙ long)
        | inr (inl missing) ↦ inl (ap (λ (g : InputFault). g.at) missing.1 ∙ long)
        | inr (inr x) ↦
            let here = token-inside (take t.to bytes) x.0.front x.0.wrong x.0.back x.0.split in
            let at : f.at ≡ x.0.wrong.from = ap (λ (g : InputFault). g.at) (sym x.1) ∙ x.0.at in
            let begins : tokens bytes ≡ x.0.front ++ x.0.wrong ∷ (x.0.back ++ s.1) =
            s.2 ∙ sym (append_assoc s.0 (t ∷ []) s.1)
            ∙ ap (λ (ts : List PlacedToken). ts ++ s.1) (sym cut ∙ x.0.split)
            ∙ append_assoc x.0.front (x.0.wrong ∷ x.0.back) s.1
            in
            inr (
              fault-of (tokens (take t.to bytes)) x.0 bytes (x.0.back ++ s.1) begins ∙ ap (λ (g : InputFault). let r : Result WeightedGraph InputFault = Err g in r) x.1,
              omega (arith, here.0, here.1, at, long),
            )
      ],
    )

-- what the bytes up to a token's end have as fault, before that end, is the fault of them all
pub kept : (bytes : List ℕ) (t : PlacedToken) (f : InputFault) → Contains (tokens bytes) t → edge_list (take t.to bytes) ≡ Err f → f.at < t.to → edge_list bytes ≡ Err f
kept bytes t f h e before = elim (kept-or-end bytes t f h e).1 [
  | inl end ↦ absurd (omega (arith, end, before))
  | inr same ↦ same.0
]

right-before : (bytes : List ℕ) (f : InputFault) (place : ℕ) → edge_list bytes ≡ Err f → place ≡ f.at → IsRightBefore place bytes
right-before bytes f place e p t h before g cut =
    let k = kept-or-end bytes t g h cut in
    elim k.1 [
      | inl end ↦ end ∙ sym k.0
      | inr same ↦
          let at : g.at ≡ f.at = ap (λ (x : InputFault). x.at) (same-fault g f (sym same.0 ∙ e)) in
          absurd (omega (arith, at, same.1, before, p))
    ]

-- a fault is one of the first wrong token, or that the bytes end too early
pub first-fault : (bytes : List ℕ) (f : InputFault) → edge_list bytes ≡ Err f → ((t : PlacedToken) × IsFirstWrong bytes t f) ⊎ EndsTooEarly bytes f
first-fault bytes f e = elim (why-not bytes f e) [
  | inl none ↦
      let place = ap (λ (g : InputFault). g.at) none.1 in
      inr (record {
        place = place;
        value = ap (λ (g : InputFault). g.value) none.1;
        right_before = right-before bytes f (length bytes) e (sym place);
        kind = inl (none.0, ap (λ (g : InputFault). g.kind) none.1);
      })
  | inr (inl missing) ↦
      let place = ap (λ (g : InputFault). g.at) missing.1 in
      inr (record {
        place = place;
        value = ap (λ (g : InputFault). g.value) missing.1;
        right_before = right-before bytes f (length bytes) e (sym place);
        kind = inr (missing.0, ap (λ (g : InputFault). g.kind) missing.1);
      })
  | inr (inr x) ↦
      let place : f.at ≡ x.0.wrong.from = ap (λ (g : InputFault). g.at) (sym x.1) ∙ x.0.at in
      let same : (let r : Result WeightedGraph InputFault = Err x.0.found in r) ≡ Err f = ap (λ (g : InputFault). let r : Result WeightedGraph InputFault = Err g in r) x.1 in
      inl (
        x.0.wrong,
        record {
          token = rw x.0.split (contains-middle x.0.front x.0.wrong x.0.back);
          place = place;
          right_before = right-before bytes f x.0.wrong.from e (sym place);
          whatever_follows = λ rest ended.
              let on = tokens-onward bytes x.0.front x.0.wrong x.0.back x.0.split rest ended in
              fault-of (tokens bytes) x.0 (take x.0.wrong.to bytes ++ rest) on.0 on.1 ∙ same;
          not_missing = λ k. x.0.kind (ap (λ (g : InputFault). g.kind) x.1 ∙ k);
        },
      )
]
