-- What the table asks of an arrival.
use Rattle.std.proofs.Common.{◌≡◌, ◌≢◌, ℕ, ◌+◌, ◌^◌, ◌%◌, ◌<◌, ◌≤◌, ◌⊎◌, inl, inr, refl, sym, ◌∙◌, subst, ap, arith, List, [], ◌∷◌, ◌++◌, length}
use Rattle.std.proofs.lemmas.Bool.{cases_eq}
use Rattle.std.proofs.lemmas.List.{length-set}
use Rattle.std.proofs.lemmas.Option.{same_Some}
use Rattle.std.proofs.Math.Nat.{mod-eq_of_lt}
use Rattle.std.specs.Prelude.{Option, Some, None, slice_set, slice_index}
use mathlib.Core.Option.{some, none}
use mathlib.Core.Option as maybe
use lib.ListN.{get_elem?}
use Rattle.atomic_table.specs.Table.{State, Act, takes, gives, chain, Valid, stepped, Allows, carried_after}
use Rattle.atomic_table.proofs.Lists.{set_else}
use Rattle.tile_plan.specs.Plan.{TilePlan, tile_count, part_count, root, parent, sibling}
use Rattle.border_climb.specs.Stands.{PartState}
use Rattle.merge_board.specs.Fits.{Fits}
use Rattle.merge_board.specs.Board.{IsPart, IsFormed, IsSpent, IsInOrder, IsBoard, Keeps, word_of, door, missed_share, toll}
use Rattle.merge_board.specs.Seats.{idle, with_merge}
use Rattle.merge_board.specs.Steps.{Arrives, ArrivesWith, AreBelow, last_of}
use Rattle.merge_board.specs.declared.view.View.{View}
use Rattle.merge_board.proofs.Doors.{some_plan, door_some, door_inner, door_root, parent_inner, parent_merge, parent_later, sibling_part, sibling_door, sibling_toll, toll_two}
use Rattle.merge_board.proofs.Changes.{IsChange}
use Rattle.merge_board.proofs.Calm.{spent_slot}
use Rattle.merge_board.proofs.FirstArrival.{first_arrives}
use Rattle.merge_board.proofs.SecondArrival as second
use Rattle.merge_board.proofs.Sums.{total_set, changed_words, changed_list, within_list}
use Rattle.merge_board.proofs.Seen.{most_seen_set}

abbrev pub Board : Type 0
Board = State (Option PartState) View

abbrev pub Homes : Type 0
Homes = List (maybe.Option (Option PartState))

-- a part arrives from a state whose slots are hs, where the rule holds
module _ (p : TilePlan) (workers id i : ℕ) (v : View) (y : PartState) (s : Board) (hs : Homes) (board : IsBoard p workers s) (order : IsInOrder p workers (slice_index s.words) (get_elem? hs) (get_elem? s.views))
    (long : length hs ≡ part_count p) (shows : get_elem? s.views id ≡ some v) (hand : v.hand ≡ Some i) (fits : Fits p i y) where
  abbrev pub n : ℕ
  n = slice_index s.words (door p i)

  part : IsPart p i
  part = (order.in_hand id i v shows hand).0

  new_word : (n + toll p i) % 2 ^ 64 ≡ n + toll p i
  new_word = let a : n ≤ 3 = order.range i part in let b = toll_two p board.plan i part in mod-eq_of_lt (omega arith)

  door_low : door p i < length s.words
  door_low = let l = board.words in elim (cases_eq i (root p)) [
    | inl same ↦ (let a = door_root p board.plan (some_plan p board.plan) in let b : door p i ≡ tile_count p = subst (λ (x : ℕ). door p x ≡ tile_count p) (sym same) a in omega arith)
    | inr ne ↦ (let a = door_inner p board.plan i part ne in omega arith)
  ]

  words : IsChange (slice_index s.words) (slice_index (slice_set s.words (door p i) ((n + toll p i) % 2 ^ 64))) (door p i) (n + toll p i)
  words = let c = changed_words s.words (door p i) ((n + toll p i) % 2 ^ 64) door_low in record { here = c.here ∙ new_word; others = c.others }

  same_draws : slice_index (slice_set s.words (door p i) ((n + toll p i) % 2 ^ 64)) 0 ≡ slice_index s.words 0
  same_draws = words.others 0 (let a = door_some p board.plan i part in λ e. omega arith)

  there : id < length s.views
  there = within_list s.views id v shows

  -- the state after it, with slots hs' and view u
  abbrev pub after : Homes → View → Board
  after hs' u = record { words = slice_set s.words (door p i) ((n + toll p i) % 2 ^ 64); homes = hs'; views = slice_set s.views id u }

  kept : (hs' : Homes) (u : View) → length hs' ≡ part_count p → u.share ≡ v.share → missed_share u ≡ missed_share v → u.seen ≡ v.seen
      → IsInOrder p workers (slice_index (slice_set s.words (door p i) ((n + toll p i) % 2 ^ 64))) (get_elem? hs') (get_elem? (slice_set s.views id u)) → IsBoard p workers (after hs' u)
  kept hs' u l share missed seen o = record {
    plan = board.plan;
    some_worker = board.some_worker;
    few_workers = board.few_workers;
    words = length-set s.words (door p i) ((n + toll p i) % 2 ^ 64) ∙ board.words;
    slots = l;
    order = o;
    shares = (let t = total_set (λ x. x.share) s.views id v u shows in let q = board.shares in omega arith);
    draws = (let t = total_set missed_share s.views id v u shows in let m = most_seen_set s.views id v u shows (omega arith) in let q = board.draws in let d = same_draws in omega arith);
  }

  pub first_kept : n ≡ 0 → IsBoard p workers (after (slice_set hs i (some (Some y))) (idle v n))
  first_kept z = kept (slice_set hs i (some (Some y))) (idle v n) (length-set hs i (some (Some y)) ∙ long) refl refl refl
      (first_arrives p workers (slice_index s.words) (slice_index (slice_set s.words (door p i) ((n + toll p i) % 2 ^ 64))) (get_elem? hs) (get_elem? (slice_set hs i (some (Some y)))) (get_elem? s.views) (get_elem? (slice_set s.views id (idle v n)))
      board.plan order id i n v y shows hand z (record { here = words.here ∙ (omega arith); others = words.others }) (changed_list hs i (some (Some y)) (let l = long in let a = part in omega arith)) (changed_list s.views id (idle v n) there) fits)

  pub inner : n ≢ 0 → i ≢ root p
  inner found_some e = found_some (second.root_zero p workers (slice_index s.words) (get_elem? hs) (get_elem? s.views) board.plan order id i v shows hand e)

  pub sibling_slot : n ≢ 0 → (z : PartState) × (Keeps (get_elem? hs) (sibling p i) z × Fits p (sibling p i) z)
  sibling_slot found_some = second.sibling_slot p workers (slice_index s.words) (get_elem? hs) (get_elem? s.views) board.plan order id i v shows hand (inner found_some) found_some

  sibling_lower : n ≢ 0 → sibling p i < parent p i
  sibling_lower found_some = let a = parent_later p board.plan (sibling p i) (sibling_part p board.plan i part (inner found_some)) in let b = sibling_door p board.plan i part (inner found_some) in
      let c = parent_merge p board.plan i part in let d = parent_merge p board.plan (sibling p i) (sibling_part p board.plan i part (inner found_some)) in omega arith

  pub parent_slot : n ≢ 0 → get_elem? (slice_set hs (sibling p i) none) (parent p i) ≡ some (some None)
  parent_slot found_some = set_else hs (sibling p i) (parent p i) none (let l = sibling_lower found_some in λ e. omega arith)
      ∙ second.parent_slot p workers (slice_index s.words) (get_elem? hs) (get_elem? s.views) board.plan order id i v shows hand (inner found_some)

  pub found_toll : n ≢ 0 → n ≡ toll p (sibling p i)
  found_toll found_some = sym (ap (slice_index s.words) (sibling_door p board.plan i part (inner found_some))) ∙ second.sibling_home p workers (slice_index s.words) (get_elem? hs) (get_elem? s.views) board.plan order id i v shows hand (inner found_some) found_some

  pub second_kept : n ≢ 0 → IsBoard p workers (after (slice_set (slice_set hs (sibling p i) none) (parent p i) none) (with_merge v (parent p i) n))
  second_kept found_some = kept (slice_set (slice_set hs (sibling p i) none) (parent p i) none) (with_merge v (parent p i) n)
      (length-set (slice_set hs (sibling p i) none) (parent p i) none ∙ long') refl refl refl
      (second.second_arrives p workers (slice_index s.words) (slice_index (slice_set s.words (door p i) ((n + toll p i) % 2 ^ 64))) (get_elem? hs) (get_elem? (slice_set hs (sibling p i) none)) (get_elem? (slice_set (slice_set hs (sibling p i) none) (parent p i) none))
      (get_elem? s.views) (get_elem? (slice_set s.views id (with_merge v (parent p i) n))) board.plan order id i n v shows hand (inner found_some) found_some
      (record { here = words.here ∙ three; others = words.others })
      (changed_list hs (sibling p i) none (let a = sibling_part p board.plan i part (inner found_some) in let l = long in omega arith))
      (changed_list (slice_set hs (sibling p i) none) (parent p i) none (let a = parent_inner p board.plan i part (inner found_some) in let l = long' in omega arith))
      (changed_list s.views id (with_merge v (parent p i) n) there))
    where
      long' : length (slice_set hs (sibling p i) none) ≡ part_count p
      long' = length-set hs (sibling p i) none ∙ long

      three : n + toll p i ≡ 3
      three = let a = found_toll found_some in let b = sibling_toll p board.plan i part (inner found_some) in omega arith

-- an arrival of a part whose slot is the last that the seat holds, behind those of its halves
module _ (p : TilePlan) (workers id slots i : ℕ) (v : View) (y : PartState) (hand : v.hand ≡ Some i) (known : v.plan ≡ p) (fits : Fits p i y) where
  abbrev Asked : List (ℕ × Option PartState) → Type 0
  Asked held = Allows (IsBoard p workers) slots id (v, held) (door p i) (λ z. (z + toll p i) % 2 ^ 64) (λ n after. Arrives (v, held) n after)

  told : (held : List (ℕ × Option PartState)) (n : ℕ) (u : View) (after : List (ℕ × Option PartState)) → ArrivesWith i (v, held) n (u, after) → Arrives (v, held) n (u, after)
  told held n u after h j e = subst (λ (k : ℕ). ArrivesWith k (v, held) n (u, after)) (same_Some i j (sym hand ∙ e)) h

  told_first : (held : List (ℕ × Option PartState)) (n : ℕ) → n ≡ 0 → Arrives (v, held) n (idle v n, [])
  told_first held n z = told held n (idle v n) [] (record { root_zero = λ e. z; waits = λ e. (refl, refl); both = λ ne. absurd (ne z) })

  told_second : (held : List (ℕ × Option PartState)) (m : ℕ) (z : PartState) → m ≢ 0 → i ≢ root p → m ≡ toll p (sibling p i) → Fits p (sibling p i) z
      → Arrives (v, held) m (with_merge v (parent p i) m, (parent p i, None) ∷ (sibling p i, Some z) ∷ (i, last_of held) ∷ [])
  told_second held m z found_some is_inner weighs fits_z = told held m (with_merge v (parent p i) m) ((parent p i, None) ∷ (sibling p i, Some z) ∷ (i, last_of held) ∷ []) (record {
    root_zero = λ e. absurd (is_inner (e ∙ ap (λ (q : TilePlan). root q) known));
    waits = λ found_none. absurd (found_some found_none);
    both = λ ne. (
      subst (λ (q : TilePlan). m ≡ toll q (sibling q i)) (sym known) weighs,
      (
        ap (λ (q : TilePlan). with_merge v (parent q i) m) (sym known),
        (
          z,
          (
            subst (λ (q : TilePlan). Fits q (sibling q i) z) (sym known) fits_z,
            ap (λ (q : TilePlan). (parent q i, None) ∷ (sibling q i, Some z) ∷ (i, last_of held) ∷ []) (sym known),
          ),
        ),
      ),
    );
  })

  pub may_arrive : (below : List (ℕ × Option PartState)) → AreBelow p i below → Asked (below ++ (i, Some y) ∷ [])
  may_arrive [] tile s b long shows small = by (cases_eq (slice_index s.words (door p i)) 0)
    where
      by : (slice_index s.words (door p i) ≡ 0) ⊎ (slice_index s.words (door p i) ≢ 0) → (u : View) × (a : Act (Option PartState)) × Valid s.homes ((i, Some y) ∷ []) a
          × IsBoard p workers (stepped s (door p i) ((slice_index s.words (door p i) + toll p i) % 2 ^ 64) id ((i, Some y) ∷ []) u a) × Arrives (v, (i, Some y) ∷ []) (slice_index s.words (door p i)) (u, carried_after ((i, Some y) ∷ []) a)
      by (inl z) = (idle v (slice_index s.words (door p i)), gives, tt, first_kept p workers id i v y s s.homes b b.order b.slots shows hand fits z, told_first ((i, Some y) ∷ []) (slice_index s.words (door p i)) z)
      by (inr found_some) = (
        with_merge v (parent p i) (slice_index s.words (door p i)),
        chain (takes (sibling p i) (Some sib.0)) (takes (parent p i) None),
        (sib.1.0, parent_slot p workers id i v y s s.homes b b.order b.slots shows hand fits found_some),
        second_kept p workers id i v y s s.homes b b.order b.slots shows hand fits found_some,
        told_second ((i, Some y) ∷ []) (slice_index s.words (door p i)) sib.0 found_some (inner p workers id i v y s s.homes b b.order b.slots shows hand fits found_some) (found_toll p workers id i v y s s.homes b b.order b.slots shows hand fits found_some) sib.1.1,
      )
        where
          sib : (z : PartState) × (Keeps (get_elem? s.homes) (sibling p i) z × Fits p (sibling p i) z)
          sib = sibling_slot p workers id i v y s s.homes b b.order b.slots shows hand fits found_some
  may_arrive (x ∷ []) impossible s b long shows small = absurd impossible
  may_arrive (x ∷ x' ∷ []) halves s b long shows small = by (cases_eq (slice_index s.words (door p i)) 0)
    where
      hs_long : length (slice_set (slice_set s.homes x.0 (some x.1)) x'.0 (some x'.1)) ≡ part_count p
      hs_long = length-set (slice_set s.homes x.0 (some x.1)) x'.0 (some x'.1) ∙ length-set s.homes x.0 (some x.1) ∙ b.slots

      formed : IsFormed p (slice_index s.words) i
      formed = (b.order.in_hand id i v shows hand).1.0

      word_three : slice_index s.words (word_of p i) ≡ 3
      word_three = of_formed formed
        where
          of_formed : IsFormed p (slice_index s.words) i → slice_index s.words (word_of p i) ≡ 3
          of_formed (inl f) = absurd (let low = halves.0 in let a = f.0 in omega arith)
          of_formed (inr f) = f.1

      spent : (a : ℕ) → parent p a ≡ i → IsSpent p (slice_index s.words) a
      spent a e = ap (λ (m : ℕ). slice_index s.words (word_of p m)) e ∙ word_three

      order : IsInOrder p workers (slice_index s.words) (get_elem? (slice_set (slice_set s.homes x.0 (some x.1)) x'.0 (some x'.1))) (get_elem? s.views)
      order = spent_slot p workers (slice_index s.words) (get_elem? (slice_set s.homes x.0 (some x.1))) (get_elem? (slice_set (slice_set s.homes x.0 (some x.1)) x'.0 (some x'.1))) (get_elem? s.views) b.plan
          (spent_slot p workers (slice_index s.words) (get_elem? s.homes) (get_elem? (slice_set s.homes x.0 (some x.1))) (get_elem? s.views) b.plan b.order x.0 (some (some x.1)) halves.1.first (spent x.0 halves.1.first_parent)
          (changed_list s.homes x.0 (some x.1) (let l = b.slots in let q = halves.1.first in omega arith)))
          x'.0 (some (some x'.1)) halves.1.second (spent x'.0 halves.1.second_parent)
          (changed_list (slice_set s.homes x.0 (some x.1)) x'.0 (some x'.1) (let l = length-set s.homes x.0 (some x.1) ∙ b.slots in let q = halves.1.second in omega arith))

      by : (slice_index s.words (door p i) ≡ 0) ⊎ (slice_index s.words (door p i) ≢ 0) → (u : View) × (a : Act (Option PartState)) × Valid s.homes (x ∷ x' ∷ (i, Some y) ∷ []) a
          × IsBoard p workers (stepped s (door p i) ((slice_index s.words (door p i) + toll p i) % 2 ^ 64) id (x ∷ x' ∷ (i, Some y) ∷ []) u a) × Arrives (v, x ∷ x' ∷ (i, Some y) ∷ []) (slice_index s.words (door p i)) (u, carried_after (x ∷ x' ∷ (i, Some y) ∷ []) a)
      by (inl z) = (idle v (slice_index s.words (door p i)), chain gives (chain gives gives), (tt, (tt, tt)), first_kept p workers id i v y s (slice_set (slice_set s.homes x.0 (some x.1)) x'.0 (some x'.1)) b order hs_long shows hand fits z, told_first (x ∷ x' ∷ (i, Some y) ∷ []) (slice_index s.words (door p i)) z)
      by (inr found_some) = (
        with_merge v (parent p i) (slice_index s.words (door p i)),
        chain gives (chain gives (chain (takes (sibling p i) (Some sib.0)) (takes (parent p i) None))),
        (tt, (tt, (sib.1.0, parent_slot p workers id i v y s (slice_set (slice_set s.homes x.0 (some x.1)) x'.0 (some x'.1)) b order hs_long shows hand fits found_some))),
        second_kept p workers id i v y s (slice_set (slice_set s.homes x.0 (some x.1)) x'.0 (some x'.1)) b order hs_long shows hand fits found_some,
        told_second (x ∷ x' ∷ (i, Some y) ∷ []) (slice_index s.words (door p i)) sib.0 found_some (inner p workers id i v y s (slice_set (slice_set s.homes x.0 (some x.1)) x'.0 (some x'.1)) b order hs_long shows hand fits found_some)
            (found_toll p workers id i v y s (slice_set (slice_set s.homes x.0 (some x.1)) x'.0 (some x'.1)) b order hs_long shows hand fits found_some) sib.1.1,
      )
        where
          sib : (z : PartState) × (Keeps (get_elem? (slice_set (slice_set s.homes x.0 (some x.1)) x'.0 (some x'.1))) (sibling p i) z × Fits p (sibling p i) z)
          sib = sibling_slot p workers id i v y s (slice_set (slice_set s.homes x.0 (some x.1)) x'.0 (some x'.1)) b order hs_long shows hand fits found_some
  may_arrive (x ∷ x' ∷ x'' ∷ xs) impossible s b long shows small = absurd impossible
