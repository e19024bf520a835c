-- The slots and the seats of a board that is set up.
use Rattle.std.proofs.Common.{◌≡◌, ℕ, zero, suc, ◌+◌, ◌-◌, ◌<◌, ◌≤◌, refl, sym, ◌∙◌, subst, ap, arith, List, [], ◌∷◌, ◌++◌, map, length}
use Rattle.std.specs.Prelude.{Option, Some, None, All, reverse, replicate}
use Rattle.std.specs.List.{range_with_len}
use Rattle.std.proofs.lemmas.List.{append_assoc, length-append, length-map, length-replicate, length-reverse, map-id, reverse-append}
use Rattle.std.proofs.lemmas.List.Elements.{All-map}
use Rattle.std.proofs.lemmas.List.FromFn.{length-range_with_len, map-range_with_len_more}
use mathlib.Core.Option.{some}
use lib.ListN.{get_elem?}
use borrow.Author.Count.{below_more}
use Rattle.atomic_table.proofs.Lists.{at_longer, at_last}
use Rattle.border_climb.specs.Stands.{PartState}
use Rattle.tile_plan.specs.Plan.{TilePlan, tile_count}
use Rattle.merge_board.specs.Fits.{Opened}
use Rattle.merge_board.specs.Opening.{AreOpened, AreOpenedTiles}
use Rattle.merge_board.specs.Steps.{AreTurns}
use Rattle.merge_board.specs.Seats.{SeatState, BoardState, IsSeatOf, IsReady, AreAllSeats, first_view, fresh_seat, fresh_seats, split_left, split_right}

abbrev Slots : Type 0
Slots = List (Option PartState)

-- before the first tile
pub no_tiles : (p : TilePlan) (slots : Slots) → slots ≡ [] → AreOpenedTiles p 0 slots
no_tiles p slots e = record { count = ap length e; each = λ t h. absurd (omega arith) }

-- one more tile's slot
pub more_tiles : (p : TilePlan) (t : ℕ) (slots more : Slots) (part : PartState) → AreOpenedTiles p t slots → Opened p t part → more ≡ slots ++ Some part ∷ [] → AreOpenedTiles p (t + 1) more
more_tiles p t slots more part old opened e = subst (λ (l : Slots). AreOpenedTiles p (t + 1) l) (sym e) (record {
  count = length-append slots (Some part ∷ []) ∙ ap (λ (n : ℕ). n + 1) old.count;
  each = below_more (λ (i : ℕ). (x : PartState) × ((get_elem? (slots ++ Some part ∷ []) i ≡ some (Some x)) × Opened p i x)) t
      (λ i h. (let a = old.each i h in (a.0, (at_longer slots (Some part ∷ []) i (Some a.0) a.1.0, a.1.1))))
      (part, (at_last slots (Some part) t old.count, opened));
})

-- the slot of a merge
abbrev empty : Option PartState
empty = None

-- what stands behind a list is empty
at_empty : (n m : ℕ) → m < n → get_elem? (replicate n empty) m ≡ some empty
at_empty zero m h = absurd (omega arith)
at_empty (suc n) zero h = refl
at_empty (suc n) (suc m) h = at_empty n m (omega arith)

behind : (slots : Slots) (n m : ℕ) → length slots ≤ m → m < length slots + n → get_elem? (slots ++ replicate n empty) m ≡ some empty
behind [] n m low high = at_empty n m (omega arith)
behind (x ∷ xs) n zero low high = absurd (omega arith)
behind (x ∷ xs) n (suc m) low high = behind xs n m (omega arith) (omega arith)

-- all slots: the tiles', and an empty one for each merge
pub all_slots : (p : TilePlan) (slots all : Slots) (merges : ℕ) → 1 ≤ tile_count p → merges ≡ tile_count p - 1 → AreOpenedTiles p (tile_count p) slots → all ≡ slots ++ replicate merges None → AreOpened p all
all_slots p slots all merges some_tile count tiles e = subst (λ (l : Slots). AreOpened p l) (sym e) (record {
  count = (let a = length-append slots (replicate merges empty) in let b = length-replicate merges empty in let c = tiles.count in omega arith);
  tiles = λ t h. (let a = tiles.each t h in (a.0, (at_longer slots (replicate merges empty) t (Some a.0) a.1.0, a.1.1)));
  merges = λ m low high. (let c = tiles.count in behind slots merges m (omega arith) (omega arith));
})

-- a seat that is idle may hold no slot
pub no_turns : (p : TilePlan) (hand : Option ℕ) (held : List (ℕ × Option PartState)) → hand ≡ None → held ≡ [] → AreTurns p hand held
no_turns p hand held e h = subst (λ (x : Option ℕ). AreTurns p x held) (sym e) h

-- the numbers from the greatest down
down_more : (n : ℕ) → reverse (range_with_len 0 (n + 1)) ≡ n ∷ reverse (range_with_len 0 n)
down_more n =
    let up : range_with_len 0 (n + 1) ≡ range_with_len 0 n ++ n ∷ [] = sym (map-id (range_with_len 0 (n + 1))) ∙ map-range_with_len_more (λ (x : ℕ). x) 0 n n (omega arith) ∙ ap (λ (l : List ℕ). l ++ n ∷ []) (map-id (range_with_len 0 n)) in
    ap (λ (l : List ℕ). reverse l) up ∙ reverse-append (range_with_len 0 n) (n ∷ [])

-- the seats of the first n numbers, the least number last
abbrev pub seats_down : BoardState → ℕ → List SeatState
seats_down b n = map (fresh_seat b) (reverse (range_with_len 0 n))

pub seats_more : (b : BoardState) (n : ℕ) → seats_down b (n + 1) ≡ fresh_seat b n ∷ seats_down b n
seats_more b n = ap (λ (l : List ℕ). map (fresh_seat b) l) (down_more n)

seats_count : (b : BoardState) (n : ℕ) → length (seats_down b n) ≡ n
seats_count b n = length-map (reverse (range_with_len 0 n)) (fresh_seat b) ∙ length-reverse (range_with_len 0 n) ∙ length-range_with_len 0 n

numbers_of : (b : BoardState) (ns : List ℕ) → map (λ (seat : SeatState). seat.view.number) (map (fresh_seat b) ns) ≡ ns
numbers_of b [] = refl
numbers_of b (n ∷ ns) = ap (λ (l : List ℕ). n ∷ l) (numbers_of b ns)

-- the first seat while it stands for so many workers
abbrev pub first_seat : BoardState → ℕ → SeatState
first_seat b share = record { table = b.table; view = record (first_view b.plan b.workers) { share = share } }

-- after the first seat was split it stands for one worker fewer
pub first_left : (b : BoardState) (share : ℕ) (first left : SeatState) → first ≡ first_seat b share → left ≡ record { table = first.table; view = split_left first.view } → left ≡ first_seat b (share - 1)
first_left b share first left f l = l ∙ ap (λ (s : SeatState). record { table = s.table; view = split_left s.view }) f

-- what was split off it is the next of all seats
pub next_dealt : (b : BoardState) (share : ℕ) (seats more : List SeatState) (first new : SeatState) → 1 ≤ share → first ≡ first_seat b share → new ≡ record { table = first.table; view = split_right first.view } → more ≡ seats ++ new ∷ []
    → seats ++ seats_down b share ≡ fresh_seats b → more ++ seats_down b (share - 1) ≡ fresh_seats b
next_dealt b share seats more first new low f n m e =
    let dealt : new ≡ fresh_seat b (share - 1) = n ∙ ap (λ (s : SeatState). record { table = s.table; view = split_right s.view }) f in
    let again : share - 1 + 1 ≡ share = omega arith in
    ap (λ (l : List SeatState). l ++ seats_down b (share - 1)) (m ∙ ap (λ (s : SeatState). seats ++ s ∷ []) dealt) ∙ append_assoc seats (fresh_seat b (share - 1) ∷ []) (seats_down b (share - 1))
    ∙ ap (λ (l : List SeatState). seats ++ l) (sym (seats_more b (share - 1)) ∙ ap (λ (k : ℕ). seats_down b k) again) ∙ e

-- what holds of each new seat holds of all
pub all_fresh : (P : SeatState → Type 0) (b : BoardState) → ((n : ℕ) → P (fresh_seat b n)) → All P (fresh_seats b)
all_fresh P b each = All-map P (fresh_seat b) (reverse (range_with_len 0 b.workers)) (λ k d h. each _)

pub fresh_all : (b : BoardState) → AreAllSeats (fresh_seats b) b
fresh_all b = record { count = seats_count b b.workers; each = all_fresh (λ seat. IsSeatOf seat b) b (λ n. record { table = refl; plan = refl; workers = refl }) }

pub fresh_ready : (b : BoardState) → All IsReady (fresh_seats b)
fresh_ready b = all_fresh IsReady b (λ n. (refl, refl))

pub fresh_numbers : (b : BoardState) → map (λ (seat : SeatState). seat.view.number) (fresh_seats b) ≡ reverse (range_with_len 0 b.workers)
fresh_numbers b = numbers_of b (reverse (range_with_len 0 b.workers))

pub fresh_unseen : (b : BoardState) → All (λ seat. seat.view.seen ≡ 0) (fresh_seats b)
fresh_unseen b = all_fresh (λ seat. seat.view.seen ≡ 0) b (λ n. refl)
