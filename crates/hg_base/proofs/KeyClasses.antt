-- Labels by keys, where everything has one: they are the labels of the classes.
use Rattle.std.proofs.Common.{◌≡◌, ℕ, suc, ◌<◌, ◌≤◌, Bool, true, refl, sym, ◌∙◌, ap, arith, List, get_or, map}
use Rattle.std.specs.Prelude.{Option, Some, None, ◌&&◌, ◌==◌}
use Rattle.std.specs.List.{range_with_len}
use Rattle.std.proofs.lemmas.Bool.{cond-true, eq-eqb, eqb-true}
use Rattle.hg_base.specs.Counting.{count_below, is_least}
use Rattle.hg_base.specs.Labels.{Labelling, IsLabelling, least_of, class_label, labelling}
use Rattle.hg_base.specs.Numbering.{is_one_key, has_key, same_key, is_class_head, key_label}
use Rattle.hg_base.proofs.Counts.{count_below-agree}
use Rattle.hg_base.proofs.Leasts.{IsClassing, least_of-most, map-agree, labelling-agree, IsLabelling-of}

-- the numbers below n have the key that f gives
abbrev pub AreKeys : List (Option ℕ) → ℕ → (ℕ → ℕ) → Type 0
AreKeys keys n f = (x : ℕ) → x < n → get_or keys x None ≡ Some (f x)

-- each has a key
has_key-of : (keys : List (Option ℕ)) (n : ℕ) (f : ℕ → ℕ) → AreKeys keys n f → (x : ℕ) → x < n → has_key keys x ≡ true
has_key-of keys n f k x h = rw (k x h) refl

-- heads are the least members
heads-of : (keys : List (Option ℕ)) (n : ℕ) (f : ℕ → ℕ) → AreKeys keys n f → (x : ℕ) → x < n → is_class_head keys x ≡ is_least (same_key keys) x
heads-of keys n f k x h = ap (λ (b : Bool). b && is_least (same_key keys) x) (has_key-of keys n f k x h)

-- one key is one value
pub same_key-from : (keys : List (Option ℕ)) (n : ℕ) (f : ℕ → ℕ) → AreKeys keys n f → (x y : ℕ) → x < n → y < n → f x ≡ f y → same_key keys x y ≡ true
same_key-from keys n f k x y hx hy e = rw (k x hx, k y hy) (eq-eqb (f x) (f y) e)

pub same_key-to : (keys : List (Option ℕ)) (n : ℕ) (f : ℕ → ℕ) → AreKeys keys n f → (x y : ℕ) → x < n → y < n → same_key keys x y ≡ true → f x ≡ f y
same_key-to keys n f k x y hx hy h =
    let e : (f x == f y) ≡ true = sym (ap (λ (o : Option ℕ). is_one_key o (get_or keys y None)) (k x hx) ∙ ap (λ (o : Option ℕ). is_one_key (Some (f x)) o) (k y hy)) ∙ h in
    eqb-true (f x) (f y) e

-- what the labels by keys have to be for a test that says who has one key
pub record AreLabels (n : ℕ) (labels : List ℕ) (count : ℕ) (r : ℕ → ℕ → Bool) : Type 0 where
  pub result : record { labels = labels; count = count } ≡ labelling r n
  pub fit : IsLabelling (labelling r n)

pub labels-by_keys : (keys : List (Option ℕ)) (n : ℕ) (f : ℕ → ℕ) (r : ℕ → ℕ → Bool) → AreKeys keys n f → IsClassing n r → ((x y : ℕ) → x < n → y < n → r x y ≡ same_key keys x y) → 1 ≤ n → n ≤ 1048576 →
    AreLabels n (map (key_label keys) (range_with_len 0 n)) (count_below (is_class_head keys) n) r
labels-by_keys keys n f r k c agree some few = record {
  result =
      let with_labels : List ℕ → Labelling = λ l. record { labels = l; count = count_below (is_class_head keys) n } in
      let with_count : ℕ → Labelling = λ m. record { labels = map (class_label (same_key keys)) (range_with_len 0 n); count = m } in
      ap with_labels (map-agree (key_label keys) (class_label (same_key keys)) 0 n (λ x l h. same_label x (omega arith)))
      ∙ ap with_count (count_below-agree (is_class_head keys) (is_least (same_key keys)) n (heads-of keys n f k))
      ∙ sym (labelling-agree n r (same_key keys) c agree);
  fit = IsLabelling-of n r c some few;
}
  where
    self : (x : ℕ) → x < n → same_key keys x x ≡ true
    self x h = sym (agree x x h h) ∙ c.self x h

    same_label : (x : ℕ) → x < n → key_label keys x ≡ class_label (same_key keys) x
    same_label x h =
        let most = least_of-most (same_key keys) x (self x h) in
        cond-true (has_key keys x) _ _ (has_key-of keys n f k x h)
        ∙ ap (λ (m : ℕ). suc m) (count_below-agree (is_class_head keys) (is_least (same_key keys)) (least_of (same_key keys) x) (λ y l. heads-of keys n f k y (omega arith)))

-- keys that agree with a test make classes of it
pub classing-of_keys : (keys : List (Option ℕ)) (n : ℕ) (f : ℕ → ℕ) (r : ℕ → ℕ → Bool) → AreKeys keys n f → ((x y : ℕ) → x < n → y < n → r x y ≡ same_key keys x y) → IsClassing n r
classing-of_keys keys n f r k agree = record {
  self = λ x h. from x x h h refl;
  back = λ x y hx hy e. from y x hy hx (sym (to x y hx hy e));
  on = λ x y z hx hy hz a b. from x z hx hz (to x y hx hy a ∙ to y z hy hz b);
}
  where
    from : (x y : ℕ) → x < n → y < n → f x ≡ f y → r x y ≡ true
    from x y hx hy e = agree x y hx hy ∙ same_key-from keys n f k x y hx hy e

    to : (x y : ℕ) → x < n → y < n → r x y ≡ true → f x ≡ f y
    to x y hx hy e = same_key-to keys n f k x y hx hy (sym (agree x y hx hy) ∙ e)
