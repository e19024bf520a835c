-- The board: what its words say of the parts of a plan, and the rule that holds between any two steps.
-- Word 0 counts the draws. Each merge has a word, and one more word, after those, belongs to the root's arrival.
use Rattle.std.specs.Prelude.{◌≡◌, ◌≢◌, ℕ, ◌+◌, ◌-◌, ◌<◌, ◌≤◌, ◌⊎◌, List, [], ◌∷◌, length, max, slice_index, Option, Some, None, true, if◌then◌else◌}
use mathlib.Core.Option.{some}
use mathlib.Core.Option as maybe
use lib.ListN.{get_elem?}
use Rattle.atomic_table.specs.Table.{State}
use Rattle.border_climb.specs.Stands.{PartState}
use Rattle.tile_plan.specs.Plan.{TilePlan, IsPlan, tile_count, part_count, root, parent, side}
use Rattle.tile_plan.specs.declared.site.Side.{Side}
use Rattle.tile_plan.specs.declared.site.Side.TheVariants as sides
use Rattle.merge_board.specs.Fits.{Fits, Opened}
use Rattle.merge_board.specs.declared.view.View.{View}

-- the words, what each slot has if it is at home, and the views of the seats
abbrev pub Words : Type 0
Words = ℕ → ℕ

abbrev pub Slots : Type 0
Slots = ℕ → maybe.Option (maybe.Option (Option PartState))

abbrev pub Views : Type 0
Views = ℕ → maybe.Option View

-- the word of a merge, and of what is beyond the root
abbrev pub word_of : TilePlan → ℕ → ℕ
word_of p m = m + 1 - tile_count p

-- the word to which a part's arrival adds its toll: that of the merge above it
abbrev pub door : TilePlan → ℕ → ℕ
door p i = word_of p (parent p i)

-- what the arrival of a half adds: 1 for a left half, 2 for a right one, so that the word of a merge tells which of its
-- halves have arrived
abbrev pub toll_of : Side → ℕ
toll_of sides.Left = 1
toll_of sides.Right = 2

-- what a part's arrival adds to the word of its door
abbrev pub toll : TilePlan → ℕ → ℕ
toll p i = toll_of (side p i)

-- the part is one of the plan
abbrev pub IsPart : TilePlan → ℕ → Type 0
IsPart p i = i < part_count p

-- the tile was drawn, or both halves of the merge have arrived
abbrev pub IsFormed : TilePlan → Words → ℕ → Type 0
IsFormed p w i = ((i < tile_count p) × (i < w 0)) ⊎ ((tile_count p ≤ i) × (w (word_of p i) ≡ 3))

-- the part has arrived and its sibling has not, or it is the root and has arrived
abbrev pub IsAtHome : TilePlan → Words → ℕ → Type 0
IsAtHome p w i = w (door p i) ≡ toll p i

-- the part and its sibling have arrived: the merge above it is formed
abbrev pub IsSpent : TilePlan → Words → ℕ → Type 0
IsSpent p w i = w (door p i) ≡ 3

abbrev pub HasArrived : TilePlan → Words → ℕ → Type 0
HasArrived p w i = IsAtHome p w i ⊎ IsSpent p w i

-- the part is not formed yet
abbrev pub IsUnborn : TilePlan → Words → ℕ → Type 0
IsUnborn p w i = IsFormed p w i → ⊥

-- the part is formed and has not arrived
abbrev pub IsInHand : TilePlan → Words → ℕ → Type 0
IsInHand p w i = IsFormed p w i × (HasArrived p w i → ⊥)

-- the slot is at home with this part, or with none
abbrev pub Keeps : Slots → ℕ → PartState → Type 0
Keeps slots i part = slots i ≡ some (some (Some part))

abbrev pub IsEmpty : Slots → ℕ → Type 0
IsEmpty slots i = slots i ≡ some (some None)

-- seat k's view is v
abbrev pub Shows : Views → ℕ → View → Type 0
Shows views k v = views k ≡ some v

-- What the words, slots and views of a board keep to.
pub record IsInOrder (p : TilePlan) (workers : ℕ) (w : Words) (slots : Slots) (views : Views) : Type 0 where
  -- a merge's word is from 0 to 3, the root's arrival is 0 or 1, and what has arrived is formed
  pub range : (i : ℕ) → IsPart p i → w (door p i) ≤ 3
  pub root_range : w (door p (root p)) ≤ 1
  pub formed : (i : ℕ) → IsPart p i → HasArrived p w i → IsFormed p w i
  -- each part in hand is in exactly one seat's hand, and what is in a seat's hand is a part in hand
  pub in_hand : (k i : ℕ) (v : View) → Shows views k v → v.hand ≡ Some i → IsPart p i × IsInHand p w i
  pub held : (i : ℕ) → IsPart p i → IsInHand p w i → (k : ℕ) × ((v : View) × (Shows views k v × (v.hand ≡ Some i)))
  pub once : (k l i : ℕ) (u v : View) → Shows views k u → Shows views l v → u.hand ≡ Some i → v.hand ≡ Some i → k ≡ l
  -- who missed has no part, and all tiles are drawn; a view that is left over has no part and has seen no draw
  pub missed : (k : ℕ) (v : View) → Shows views k v → v.missed ≡ true → (v.hand ≡ None) × (tile_count p ≤ w 0)
  pub left_over : (k : ℕ) (v : View) → Shows views k v → v.share ≡ 0 → (v.hand ≡ None) × (v.seen ≡ 0)
  -- each seat knows the board's plan and number of workers, and of draws no more than there were
  pub plan : (k : ℕ) (v : View) → Shows views k v → 1 ≤ v.share → (v.plan ≡ p) × (v.workers ≡ workers)
  pub seen : (k : ℕ) (v : View) → Shows views k v → (v.seen ≤ w 0) × (v.seen ≤ tile_count p)
  -- the slots of parts that are unborn or at home are at home
  pub tiles : (t : ℕ) → t < tile_count p → w 0 ≤ t → (part : PartState) × (Keeps slots t part × Opened p t part)
  pub merges : (m : ℕ) → tile_count p ≤ m → IsPart p m → w (word_of p m) ≢ 3 → IsEmpty slots m
  pub homes : (i : ℕ) → IsPart p i → IsAtHome p w i → (part : PartState) × (Keeps slots i part × Fits p i part)

-- the sum of a number of each view
abbrev pub total : (View → ℕ) → List View → ℕ
total f [] = 0
total f (v ∷ vs) = f v + total f vs

-- the share of a view that missed
abbrev pub missed_share : View → ℕ
missed_share v = if v.missed then v.share else 0

-- the most draws that one view has seen
abbrev pub most_seen : List View → ℕ
most_seen [] = 0
most_seen (v ∷ vs) = max v.seen (most_seen vs)

-- The rule of the board of a plan with so many workers. No more draws were made than one view has seen and those that
-- missed.
pub record IsBoard (p : TilePlan) (workers : ℕ) (s : State (Option PartState) View) : Type 0 where
  pub plan : IsPlan p
  pub some_worker : 1 ≤ workers
  pub few_workers : workers ≤ 64
  pub words : length s.words ≡ tile_count p + 1
  pub slots : length s.homes ≡ part_count p
  pub order : IsInOrder p workers (slice_index s.words) (get_elem? s.homes) (get_elem? s.views)
  pub shares : total (λ v. v.share) s.views ≡ workers
  pub draws : slice_index s.words 0 ≤ most_seen s.views + total missed_share s.views

-- exactly one seat has the part in its hand
pub record IsHeldOnce (s : State (Option PartState) View) (i : ℕ) : Type 0 where
  pub seat : ℕ
  pub view : View
  pub shows : Shows (get_elem? s.views) seat view
  pub hand : view.hand ≡ Some i
  pub alone : (k : ℕ) (v : View) → Shows (get_elem? s.views) k v → v.hand ≡ Some i → k ≡ seat

-- The state of a part: unborn; in exactly one seat's hand; at home, where its slot has the part that fits; or spent.
pub data IsStatus (p : TilePlan) (s : State (Option PartState) View) (i : ℕ) : Type 0 where
  Unborn : IsUnborn p (slice_index s.words) i → (HasArrived p (slice_index s.words) i → ⊥) → IsStatus p s i
  InHand : IsInHand p (slice_index s.words) i → IsHeldOnce s i → IsStatus p s i
  AtHome : IsAtHome p (slice_index s.words) i → (part : PartState) → Keeps (get_elem? s.homes) i part → Fits p i part → IsStatus p s i
  Spent : IsSpent p (slice_index s.words) i → IsStatus p s i

-- The part has one state: no two of unborn, in hand, at home and spent hold of it.
pub record HasOneState (p : TilePlan) (w : Words) (i : ℕ) : Type 0 where
  pub unborn : IsUnborn p w i → IsInHand p w i ⊎ HasArrived p w i → ⊥
  pub in_hand : IsInHand p w i → HasArrived p w i → ⊥
  pub at_home : IsAtHome p w i → IsSpent p w i → ⊥
