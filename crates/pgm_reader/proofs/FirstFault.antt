-- Each fault of a picture is the first from the left.
use Rattle.std.proofs.Common.{◌≡◌, ◌≢◌, ℕ, zero, suc, ◌+◌, ◌*◌, ◌<◌, ◌≤◌, Bool, true, false, List, [], ◌∷◌, ◌++◌, length, take, drop, All, refl, sym, ap, ◌∙◌, subst, ◌⊎◌, inl, inr, arith}
use Rattle.std.specs.Prelude.{Option, Some, None, Result, Ok, Err, nat_lt, nat_le, ◌==◌, if◌then◌else◌}
use Rattle.std.proofs.lemmas.Bool.{cases_Bool}
use Rattle.std.proofs.lemmas.List.{take-append-drop, length-take-le, take_all}
use Rattle.std.proofs.lemmas.List.Elements.{All-tail}
use Rattle.hg_base.specs.declared.fault.FaultKind.TheVariants.{BadNumber, TooLarge, Truncated, Trailing, NoVertex, SampleAboveMax}
use Rattle.hg_base.specs.declared.fault.InputFault.{InputFault}
use Rattle.input_tokens.specs.Tokens.{blanked}
use Rattle.input_tokens.specs.Rules.{◌>>=◌, fault, within_limit, number_read}
use Rattle.input_tokens.proofs.PlacedFaults.{FaultsAt, at-ok, at-fault, at-then, at-either, at-most, IsRule, rule-number}
use Rattle.input_tokens.specs.declared.token.Token.{Token}
use Rattle.pgm_reader.specs.Raster.{Raster}
use Rattle.pgm_reader.specs.Pgm.{CutToken, cut, token_cut_at, gap, width, height, greatest, samples, pixels, from_width, from_height, from_greatest, picture}
use Rattle.pgm_reader.specs.FirstFault.{where_right, right_tokens, greatest_tokens, height_tokens, header, IsBeside, PartsNone, ended_early, IsFirst}
use Rattle.pgm_reader.proofs.Samples.{samples-one, samples-two, judged}
use Rattle.pgm_reader.proofs.Endings.{sample-cut}
use Rattle.pgm_reader.proofs.CutTokens.{with_rest, is-cut}

-- the bytes up to this place have a fault there, and so has the whole where no token is parted
record Finds {A : Type 0} (place : ℕ) (apart : Type 0) (short whole : Result A InputFault) : Type 0 where
  found : InputFault
  here : short ≡ Err found
  below : found.at < place
  kind : found.kind ≢ Truncated
  kept : apart → whole ≡ Err found

-- what the bytes up to this place give, beside what the whole gives: that they end, a fault of the whole, or a value
abbrev Goes : {A : Type 0} → ℕ → Type 0 → Result A InputFault → Result A InputFault → Type 0
Goes {A} place apart short whole = (short ≡ fault Truncated place 0) ⊎ (Finds place apart short whole ⊎ ((x : A) × (short ≡ Ok x)))

goes-map : {A B : Type 0} (place : ℕ) (apart : Type 0) (short whole : Result A InputFault) (f : A → B) → Goes place apart short whole
    → Goes place apart (short >>= λ x. Ok (f x)) (whole >>= λ x. Ok (f x))
goes-map place apart short whole f (inl e) = inl (rw e refl)
goes-map place apart short whole f (inr (inl x)) = inr (inl (record { found = x.found; here = rw x.here refl; below = x.below; kind = x.kind; kept = λ a. rw (x.kept a) refl }))
goes-map place apart short whole f (inr (inr x)) = inr (inr (f x.0, rw x.1 refl))

-- the same under other names
goes-is : {A : Type 0} (place : ℕ) (apart other : Type 0) (short whole first all : Result A InputFault) → first ≡ short → (other → apart × (all ≡ whole))
    → Goes place apart short whole → Goes place other first all
goes-is place apart other short whole first all s w (inl e) = inl (s ∙ e)
goes-is place apart other short whole first all s w (inr (inl x)) =
    inr (inl (record { found = x.found; here = s ∙ x.here; below = x.below; kind = x.kind; kept = λ o. (w o).1 ∙ x.kept (w o).0 }))
goes-is place apart other short whole first all s w (inr (inr x)) = inr (inr (x.0, s ∙ x.1))

judged-goes : (apart : Type 0) (upto end max k place s next : ℕ) (ys rest : List ℕ) → place < upto
    → Goes upto apart (samples upto max k next ys) (samples end max k next (ys ++ rest))
    → Goes upto apart (judged upto max k place s next ys) (judged end max k place s next (ys ++ rest))
judged-goes apart upto end max k place s next ys rest h goes = elim (cases_Bool (nat_lt max s)) [
  | inl e ↦ inr (inl (record { found = record { kind = SampleAboveMax; at = place; value = s }; here = rw e refl; below = h; kind = λ q. cc; kept = λ a. rw e refl }))
  | inr e ↦ rw e (goes-map upto apart (samples upto max k next ys) (samples end max k next (ys ++ rest)) (λ more. s ∷ more) goes)
]

-- no sample is left
none-goes : (apart : Type 0) (upto end max place : ℕ) (ys rest : List ℕ) → place + length ys ≡ upto → Goes upto apart (samples upto max 0 place ys) (samples end max 0 place (ys ++ rest))
unfolding samples
none-goes apart upto end max place [] rest h = inr (inr ([], refl))
none-goes apart upto end max place (b ∷ ys) rest h =
    inr (inl (record { found = record { kind = Trailing; at = place; value = 0 }; here = refl; below = omega (arith, h); kind = λ q. cc; kept = λ a. refl }))

low-missing : (end max k place b : ℕ) → nat_lt max 256 ≡ false → samples end max (suc k) place (b ∷ []) ≡ fault Truncated end 0
unfolding samples
low-missing end max k place b h = rw h refl

one-goes : (apart : Type 0) (upto end max k place : ℕ) (ys rest : List ℕ) → nat_lt max 256 ≡ true → place + length ys ≡ upto
    → Goes upto apart (samples upto max k place ys) (samples end max k place (ys ++ rest))
one-goes apart upto end max zero place ys rest small h = none-goes apart upto end max place ys rest h
one-goes apart upto end max (suc k) place [] rest small h = inl (sample-cut upto max k place)
one-goes apart upto end max (suc k) place (b ∷ ys) rest small h =
    goes-is upto apart apart (judged upto max k place b (place + 1) ys) (judged end max k place b (place + 1) (ys ++ rest)) _ _
    (samples-one upto max k place b ys small) (λ a. (a, samples-one end max k place b (ys ++ rest) small))
    (judged-goes apart upto end max k place b (place + 1) ys rest (omega (arith, h)) (one-goes apart upto end max k (place + 1) ys rest small (omega (arith, h))))

two-goes : (apart : Type 0) (upto end max k place : ℕ) (ys rest : List ℕ) → nat_lt max 256 ≡ false → place + length ys ≡ upto
    → Goes upto apart (samples upto max k place ys) (samples end max k place (ys ++ rest))
two-goes apart upto end max zero place ys rest large h = none-goes apart upto end max place ys rest h
two-goes apart upto end max (suc k) place [] rest large h = inl (sample-cut upto max k place)
two-goes apart upto end max (suc k) place (b ∷ []) rest large h = inl (low-missing upto max k place b large)
two-goes apart upto end max (suc k) place (b ∷ l ∷ ys) rest large h =
    goes-is upto apart apart (judged upto max k place (b * 256 + l) (place + 2) ys) (judged end max k place (b * 256 + l) (place + 2) (ys ++ rest)) _ _
    (samples-two upto max k place b l ys large) (λ a. (a, samples-two end max k place b l (ys ++ rest) large))
    (judged-goes apart upto end max k place (b * 256 + l) (place + 2) ys rest (omega (arith, h)) (two-goes apart upto end max k (place + 2) ys rest large (omega (arith, h))))

samples-goes : (apart : Type 0) (upto end max k place : ℕ) (ys rest : List ℕ) → place + length ys ≡ upto
    → Goes upto apart (samples upto max k place ys) (samples end max k place (ys ++ rest))
samples-goes apart upto end max k place ys rest h = elim (cases_Bool (nat_lt max 256)) [
  | inl small ↦ one-goes apart upto end max k place ys rest small h
  | inr large ↦ two-goes apart upto end max k place ys rest large h
]

pixels-goes : (apart : Type 0) (upto end w h max place : ℕ) (ys rest : List ℕ) → place + length ys ≡ upto
    → Goes upto apart (pixels upto w h max place ys) (pixels end w h max place (ys ++ rest))
unfolding pixels
pixels-goes apart upto end w h max place [] rest e = inl refl
pixels-goes apart upto end w h max place (b ∷ ys) rest e =
    goes-map upto apart (samples upto max (w * h) (place + 1) ys) (samples end max (w * h) (place + 1) (ys ++ rest))
    (λ greys. let r : Raster = record { width = w; height = h; max = max; samples = greys } in r)
    (samples-goes apart upto end max (w * h) (place + 1) ys rest (omega (arith, e)))

rule-width : IsRule width
unfolding width
rule-width at token = at-then at (number_read at token) (λ n. if n == 0 then fault NoVertex at 0 else within_limit 1048576 at n) (rule-number at token)
    (λ n. at-either at (n == 0) (fault NoVertex at 0) (within_limit 1048576 at n) (at-fault NoVertex at 0 (λ e. cc)) (at-most 1048576 at n))

rule-height : (w : ℕ) → IsRule (height w)
unfolding height
rule-height w at token =
    at-then at (number_read at token) (λ n. if n == 0 then fault NoVertex at 0 else (if nat_lt 1048576 (w * n) then fault TooLarge at (w * n) else Ok n)) (rule-number at token)
    (λ n. at-either at (n == 0) (fault NoVertex at 0) (if nat_lt 1048576 (w * n) then fault TooLarge at (w * n) else Ok n) (at-fault NoVertex at 0 (λ e. cc))
    (at-either at (nat_lt 1048576 (w * n)) (fault TooLarge at (w * n)) (Ok n) (at-fault TooLarge at (w * n) (λ e. cc)) (at-ok at n)))

rule-greatest : IsRule greatest
unfolding greatest
rule-greatest at token = at-then at (number_read at token) (λ n. if n == 0 then fault BadNumber at 0 else within_limit 65535 at n) (rule-number at token)
    (λ n. at-either at (n == 0) (fault BadNumber at 0) (within_limit 65535 at n) (at-fault BadNumber at 0 (λ e. cc)) (at-most 65535 at n))

-- what comes after a token that a rule accepts, from this place on, in an input with this end: number, end, place, bytes
abbrev Next : Type 0
Next = ℕ → ℕ → ℕ → List ℕ → Result Raster InputFault

-- what a token and the bytes behind it give
abbrev read_token : (ℕ → Token → Result ℕ InputFault) → Next → ℕ → Option CutToken → Result Raster InputFault
read_token rule next end None = fault Truncated end 0
read_token rule next end (Some t) = rule t.from t.token >>= λ n. next n end t.to t.rest

-- the tokens that are read behind a token: number, place, bytes
abbrev Behind : Type 0
Behind = ℕ → ℕ → List ℕ → List CutToken

abbrev Apart : ℕ → (ℕ → Token → Result ℕ InputFault) → Behind → Option CutToken → Type 0
Apart place rule behind token = All (IsBeside place) (right_tokens rule behind token)

-- what follows a token goes so too
abbrev GoesBehind : ℕ → ℕ → Next → Behind → List ℕ → Type 0
GoesBehind upto end next behind rest =
    (n place : ℕ) (ys : List ℕ) → place + length ys ≡ upto
    → Goes upto (All (IsBeside upto) (behind n place (ys ++ rest))) (next n upto place ys) (next n end place (ys ++ rest))

-- where no token is parted, the token of the whole is the same
same-token : (upto : ℕ) (rule : ℕ → Token → Result ℕ InputFault) (behind : Behind) (t u : CutToken) (more : List ℕ) → t.from < upto → u.from ≡ t.from
    → (u.to ≤ upto → u ≡ with_rest t more) → Apart upto rule behind (Some u) → u ≡ with_rest t more
same-token upto rule behind t u more below from onward apart = elim (apart 0 u (omega arith)) [
  | inl above ↦ absurd (omega (arith, above, from, below))
  | inr ended ↦ onward ended
]

goes-rule : (rule : ℕ → Token → Result ℕ InputFault) (next : Next) (behind : Behind) (upto end : ℕ) (t u : CutToken) (rest : List ℕ) (r : Result ℕ InputFault)
    → rule t.from t.token ≡ r → FaultsAt t.from r → t.from < upto
    → (Apart upto rule behind (Some u) → u ≡ with_rest t (t.rest ++ rest))
    → t.to + length t.rest ≡ upto → GoesBehind upto end next behind rest
    → Goes upto (Apart upto rule behind (Some u)) (read_token rule next upto (Some t)) (read_token rule next end (Some u))
goes-rule rule next behind upto end t u rest (Err f) e faults below same left goes =
    let at = faults f refl in
    inr (inl (record {
      found = f;
      here = rw e refl;
      below = omega (arith, at.0, below);
      kind = at.1;
      kept = λ apart. ap (λ (s : CutToken). read_token rule next end (Some s)) (same apart) ∙ rw e refl;
    }))
goes-rule rule next behind upto end t u rest (Ok n) e faults below same left goes =
    goes-is upto (All (IsBeside upto) (behind n t.to (t.rest ++ rest))) (Apart upto rule behind (Some u))
    (next n upto t.to t.rest) (next n end t.to (t.rest ++ rest)) _ _ (rw e refl)
    (λ apart.
    let is = same apart in
    let beside : All (IsBeside upto) (with_rest t (t.rest ++ rest) ∷ where_right (rule t.from t.token) (λ k. behind k t.to (t.rest ++ rest))) =
    subst (λ (s : CutToken). Apart upto rule behind (Some s)) is apart
    in
    (All-tail (IsBeside upto) (with_rest t (t.rest ++ rest)) (behind n t.to (t.rest ++ rest)) (rw e at beside), ap (λ (s : CutToken). read_token rule next end (Some s)) is ∙ rw e refl))
    (goes n t.to t.rest left)

goes-token : (hash : Bool) (rule : ℕ → Token → Result ℕ InputFault) (next : Next) (behind : Behind) (upto end place : ℕ) (ys rest : List ℕ)
    → IsRule rule → place + length ys ≡ upto → GoesBehind upto end next behind rest
    → Goes upto (Apart upto rule behind (cut hash false place (ys ++ rest)))
    (read_token rule next upto (cut hash false place ys)) (read_token rule next end (cut hash false place (ys ++ rest)))
goes-token hash rule next behind upto end place ys rest is long goes = by-token (cut hash false place ys) refl
  where
    by-token : (o : Option CutToken) → cut hash false place ys ≡ o
        → Goes upto (Apart upto rule behind (cut hash false place (ys ++ rest)))
        (read_token rule next upto (cut hash false place ys)) (read_token rule next end (cut hash false place (ys ++ rest)))
    by-token None e = inl (ap (read_token rule next upto) e)
    by-token (Some t) e =
        let c = is-cut hash place ys t e in
        let u = c.onward rest in
        let below : t.from < upto = omega (arith, c.below, long) in
        rw (e, u.1) (goes-rule rule next behind upto end t u.0 rest (rule t.from t.token) refl (is t.from t.token) below
        (same-token upto rule behind t u.0 (t.rest ++ rest) below u.2 (λ ended. u.3 (omega (arith, ended, long))))
        (omega (arith, c.left, long)) goes)

abbrev behind_height : ℕ → Next
behind_height w h end place bytes = from_greatest end w h (cut false false place bytes)

abbrev behind_width : Next
behind_width w end place bytes = from_height end w (cut true false place bytes)

greatest-is : (w h end : ℕ) (o : Option CutToken) → from_greatest end w h o ≡ read_token greatest (λ max to place rest. pixels to w h max place rest) end o
unfolding from_greatest
greatest-is w h end None = refl
greatest-is w h end (Some t) = refl

height-is : (w end : ℕ) (o : Option CutToken) → from_height end w o ≡ read_token (height w) (behind_height w) end o
unfolding from_height
height-is w end None = refl
height-is w end (Some t) = refl

width-is : (end : ℕ) (o : Option CutToken) → from_width end o ≡ read_token width behind_width end o
unfolding from_width
width-is end None = refl
width-is end (Some t) = refl

goes-behind-height : (upto end w : ℕ) (rest : List ℕ) → GoesBehind upto end (behind_height w) greatest_tokens rest
goes-behind-height upto end w rest h place ys long =
    goes-is upto _ _ _ _ _ _ (greatest-is w h upto _) (λ apart. (apart, greatest-is w h end _))
    (goes-token false greatest (λ max to at more. pixels to w h max at more) (λ max to more. []) upto end place ys rest rule-greatest long
    (λ max at zs e. pixels-goes _ upto end w h max at zs rest e))

goes-behind-width : (upto end : ℕ) (rest : List ℕ) → GoesBehind upto end behind_width height_tokens rest
goes-behind-width upto end rest w place ys long =
    goes-is upto _ _ _ _ _ _ (height-is w upto _) (λ apart. (apart, height-is w end _))
    (goes-token true (height w) (behind_height w) greatest_tokens upto end place ys rest (rule-height w) long (goes-behind-height upto end w rest))

nothing-read : (end : ℕ) → from_width end (cut true false 2 []) ≡ fault Truncated end 0
unfolding from_width cut token_cut_at gap blanked
nothing-read end = refl

goes-picture : (bytes rest : List ℕ) → Goes (length bytes) (PartsNone (length bytes) (bytes ++ rest)) (picture bytes) (picture (bytes ++ rest))
unfolding picture header
goes-picture [] rest = inl (nothing-read 0)
goes-picture (a ∷ []) rest = inl (nothing-read 1)
goes-picture (a ∷ b ∷ ys) rest =
    let end = suc (suc (length ys)) in
    goes-is end _ _ _ _ _ _ (width-is end _) (λ apart. (apart, width-is (suc (suc (length (ys ++ rest)))) _))
    (goes-token true width behind_width height_tokens end (suc (suc (length (ys ++ rest)))) 2 ys rest rule-width (omega arith) (goes-behind-width end (suc (suc (length (ys ++ rest)))) rest))

same-fault : (x y : InputFault) → (let r : Result Raster InputFault = Err x in r) ≡ Err y → x ≡ y
same-fault x y e = cc

-- a fault that isn't that the bytes end is one whatever follows
follows : (bytes rest : List ℕ) (f : InputFault) → picture bytes ≡ Err f → f.kind ≢ Truncated → PartsNone (length bytes) (bytes ++ rest) → picture (bytes ++ rest) ≡ Err f
follows bytes rest f e kind apart = elim (goes-picture bytes rest) [
  | inl ends ↦ absurd (kind (ap (λ (g : InputFault). g.kind) (same-fault f (ended_early (length bytes)) (sym e ∙ ends))))
  | inr (inl x) ↦ x.kept apart ∙ sym x.here ∙ e
  | inr (inr x) ↦ let no : Ok x.0 ≡ Err f = sym x.1 ∙ e in cc
]

-- a fault of a cut is that it ends, or it is the fault of the whole
of-cut : (bytes : List ℕ) (place : ℕ) (g : InputFault) → place ≤ length bytes → PartsNone place bytes → picture (take place bytes) ≡ Err g
    → (g ≡ ended_early place) ⊎ ((picture bytes ≡ Err g) × (g.at < place))
of-cut bytes place g h apart e =
    let long = length-take-le place bytes h in
    let whole = take-append-drop place bytes in
    elim (rw (long, whole) at (goes-picture (take place bytes) (drop place bytes))) [
      | inl ends ↦ inl (same-fault g (ended_early place) (sym e ∙ ends))
      | inr (inl x) ↦
          let same = same-fault x.found g (sym x.here ∙ e) in
          inr (x.kept apart ∙ sym x.here ∙ e, subst (λ (f : InputFault). f.at < place) same x.below)
      | inr (inr x) ↦ let no : Ok x.0 ≡ Err g = sym x.1 ∙ e in cc
    ]

-- what a cut has as fault, before its end, is the fault of the whole
pub kept : (bytes : List ℕ) (place : ℕ) (f : InputFault) → PartsNone place bytes → picture (take place bytes) ≡ Err f → f.at < place → picture bytes ≡ Err f
kept bytes place f apart e before = elim (cases_Bool (nat_le place (length bytes))) [
  | inl within ↦ elim (of-cut bytes place f (grind (arith, within)) apart e) [
    | inl ends ↦ let at : f.at ≡ place = ap (λ (g : InputFault). g.at) ends in absurd (omega (arith, at, before))
    | inr same ↦ same.0
  ]
  | inr past ↦ rw (take_all place bytes (grind (arith, past))) at e
]

-- a fault is that the bytes end, or it is found before
pub first-fault : (bytes : List ℕ) (f : InputFault) → picture bytes ≡ Err f → (f ≡ ended_early (length bytes)) ⊎ IsFirst bytes f
first-fault bytes f e = elim (goes-picture bytes []) [
  | inl ends ↦ inl (same-fault f (ended_early (length bytes)) (sym e ∙ ends))
  | inr (inl x) ↦
      let same = same-fault x.found f (sym x.here ∙ e) in
      let kind : f.kind ≢ Truncated = subst (λ (g : InputFault). g.kind ≢ Truncated) same x.kind in
      inr (record {
        below = subst (λ (g : InputFault). g.at < length bytes) same x.below;
        not_missing = kind;
        whatever_follows = λ rest apart. follows bytes rest f e kind apart;
        of_cuts = λ place g short apart cut_gives. elim (of-cut bytes place g (omega (arith, short)) apart cut_gives) [
          | inl ends ↦ inr ends
          | inr whole ↦ inl (same-fault g f (sym whole.0 ∙ e))
        ];
      })
  | inr (inr x) ↦ let no : Ok x.0 ≡ Err f = sym x.1 ∙ e in cc
]
