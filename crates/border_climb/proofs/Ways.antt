-- The way up: what a climb meets, step by step.
use Rattle.std.proofs.Common.{◌≡◌, ℕ, zero, ◌<◌, ◌≤◌, ◌-◌, ◌^◌, inl, inr, refl, sym, ◌∙◌, subst, ap, arith, cond, Bool, ◌==◌}
use Rattle.std.specs.Prelude.{Option, Some, None, IfSome, IfNone}
use Rattle.std.proofs.lemmas.Bool.{cases_Bool, eqb-true}
use Rattle.node_region.specs.Pool.{CellPool, IsCovered, IsUsed, cell_at, leaf_of, turn_of, finger_of, hinted_cell}
use Rattle.node_region.specs.declared.cell.Cell.{Cell}
use Rattle.node_region.specs.declared.cell.Hint.{Hint}
use Rattle.border_climb.specs.declared.climbing.Met.{Met}
use Rattle.border_climb.specs.declared.climbing.Seen.{Seen}
use Rattle.border_climb.specs.Stands.{IsMet}
use Rattle.border_climb.specs.Notes.{IsSound, IsClimbable, IsNoted}
use Rattle.border_climb.specs.Climbs.{EndsClimb, IsBelow, IsNamed, IsRead, IsSeen, IsFurther, IsReached, IsClimbed, IsStart, IsClimbBegun, IsTopCell}
use Rattle.border_climb.proofs.Pools.{SameLinks, links-back, live-same, met-same, rank-same, met-on, met-join, met-rises, one-cell, used-from, some-map, sound-climbable}

-- what a note means that is found
pub named-found : (pool : CellPool) (mark : Option Hint) (h : Hint) (c : Cell) → mark ≡ Some h → hinted_cell pool h ≡ Some c → h.turn < 2 ^ 32 - 1 → IsNamed pool mark (record { id = h.cell; rank = c.rank })
named-found pool mark h c is found fresh =
    elim (cases_Bool (turn_of pool h.cell == h.turn)) [
      | inl same ↦ record {
        hint = h;
        is = is;
        id = refl;
        rank = refl;
        live = record { cell = c; is = subst (λ (b : Bool). cond b (cell_at pool h.cell) None ≡ Some c) same found; turn = eqb-true (turn_of pool h.cell) h.turn same; fresh = fresh };
      }
      | inr other ↦ absurd (never (subst (λ (b : Bool). cond b (cell_at pool h.cell) None ≡ Some c) other found))
    ]
  where
    never : None ≡ Some c → ⊥
    never h' = cc

-- what stands above a cell has a cell
pub up-used : (pool : CellPool) (l : ℕ) → IsClimbable pool l → (i : ℕ) (c : Cell) → cell_at pool i ≡ Some c → l ≤ c.rank → IfSome c.up (IsUsed pool)
up-used pool l k i c is low = go c.up refl
  where
    go : (o : Option ℕ) → c.up ≡ o → IfSome o (IsUsed pool)
    go None eq = tt
    go (Some j) eq = let n = k.ups i j c is low eq in used-from pool j n.0 n.1.0

-- the cell above is further up
pub further-above : (pool : CellPool) (here : Met) → IsClimbable pool here.rank → (c : Cell) → cell_at pool here.id ≡ Some c → c.rank ≡ here.rank → (r : ℕ) (next : Met) → IsBelow pool c.up r next → IsFurther pool here next
further-above pool here k c is level r next b =
    let n = k.ups here.id next.id c is (omega arith) b.leads in
    let same : n.0 ≡ b.seat.cell = one-cell pool next.id n.0 b.seat.cell n.1.0 b.seat.is in
    let higher : c.rank < b.seat.cell.rank = subst (λ (y : Cell). c.rank < y.rank) same n.1.1 in
    let at : b.seat.cell.rank ≡ next.rank = b.seat.has in
    record {
      seat = record { cell = c; is = is; has = level };
      links = zero;
      met = subst (λ (o : Option ℕ). IsMet pool zero o next.id) (sym b.leads) refl;
      next_seat = b.seat;
      up = omega arith;
    }

-- the noted cell is further up
pub further-noted : (pool : CellPool) (here : Seen) → IsSeen pool here → IsClimbable pool here.met.rank → (next : Met) → IsNamed pool here.entry.hint next → IsFurther pool here.met next
further-noted pool here s k next n =
    let level : here.entry.cell.rank ≡ here.met.rank = s.rank in
    let way = s.note n.hint n.is n.live in
    let met : IsMet pool way.0 here.entry.cell.up next.id = subst (λ (j : ℕ). IsMet pool way.0 here.entry.cell.up j) n.id way.1 in
    let next_is : cell_at pool next.id ≡ Some n.live.cell = ap (λ (j : ℕ). cell_at pool j) (sym n.id) ∙ n.live.is in
    let rises = met-rises pool here.met.rank k way.0 here.met.id here.entry.cell s.cell (omega arith) here.entry.cell.up refl next.id met in
    let same : rises.0 ≡ n.live.cell = one-cell pool next.id rises.0 n.live.cell rises.1.0 next_is in
    let higher : here.entry.cell.rank < n.live.cell.rank = subst (λ (y : Cell). here.entry.cell.rank < y.rank) same rises.1.1 in
    let there : n.live.cell.rank ≡ next.rank = n.rank in
    record {
      seat = record { cell = here.entry.cell; is = s.cell; has = s.rank };
      links = way.0;
      met = met;
      next_seat = record { cell = n.live.cell; is = next_is; has = n.rank };
      up = omega arith;
    }

-- what was read where one can climb has a note that leads up
pub seen-read : (pool : CellPool) (seen : Seen) → IsClimbable pool seen.met.rank → IsRead pool seen → IsSeen pool seen
seen-read pool seen k r =
    let level : seen.entry.cell.rank ≡ seen.met.rank = r.rank in
    record {
      cell = r.kept.cell;
      rank = r.rank;
      turn = r.kept.turn;
      note = λ h is live. k.hints seen.met.id seen.entry.cell h r.kept.cell (omega arith) (r.kept.hint ∙ is) live;
    }

pub seen-same : (p q : CellPool) → SameLinks p q → (seen : Seen) → IsSeen p seen → IsSeen q seen
seen-same p q s seen e = record {
  cell = s.cells seen.met.id ∙ e.cell;
  rank = e.rank;
  turn = s.turns seen.met.id ∙ e.turn;
  note = λ h is live. (let way = e.note h is (live-same q p (links-back p q s) h live) in (way.0, met-same p q s way.0 seen.entry.cell.up h.cell way.1));
}

pub further-same : (p q : CellPool) → SameLinks p q → (here next : Met) → IsFurther p here next → IsFurther q here next
further-same p q s here next f = record {
  seat = rank-same p q s here.id here.rank f.seat;
  links = f.links;
  met = met-same p q s f.links f.seat.cell.up next.id f.met;
  next_seat = rank-same p q s next.id next.rank f.next_seat;
  up = f.up;
}

-- two ways up, one after the other
pub further-on : (pool : CellPool) (low here next : Met) → IsFurther pool low here → IsFurther pool here next → IsFurther pool low next
further-on pool low here next a b =
    let n = met-on pool a.links a.seat.cell.up here.id b.seat.cell a.met b.seat.is b.links next.id b.met in
    let x : low.rank < here.rank = a.up in let y : here.rank < next.rank = b.up in
    record { seat = a.seat; links = n.0; met = n.1; next_seat = b.next_seat; up = omega arith }

pub reached-on : (pool : CellPool) (start here next : Met) → IsReached pool start here → IsFurther pool here next → IsReached pool start next
reached-on pool start here next a b =
    let n = met-on pool a.links (Some start.id) here.id b.seat.cell a.met b.seat.is b.links next.id b.met in
    let x : start.rank ≤ here.rank = a.from in let y : here.rank < next.rank = b.up in
    record { links = n.0; met = n.1; seat = b.next_seat; from = omega arith }

pub ends-same : (p q : CellPool) → SameLinks p q → (o : Option ℕ) (r : ℕ) → EndsClimb p o r → EndsClimb q o r
ends-same p q s o r e j eq = let m = e j eq in (m.0, (s.cells j ∙ m.1.0, m.1.1))

-- a link to a cell of rank r or more leads to none below r
pub ends-above : (pool : CellPool) (link : Option ℕ) (i r : ℕ) (c : Cell) → link ≡ Some i → cell_at pool i ≡ Some c → r ≤ c.rank → EndsClimb pool link r
ends-above pool link i r c leads is high j there =
    let one : Some i ≡ Some j = sym leads ∙ there in
    let same : i ≡ j = cc in
    (c, (subst (λ (k : ℕ). cell_at pool k ≡ Some c) same is, high))

-- a climb to rank r: where it is, and which cell waits for a note
pub record IsClimbing (old new : CellPool) (start : Met) (here : Seen) (r : ℕ) (waiting : Option Met) : Type 0 where
  pub noted : IsNoted old new start.rank
  pub reached : IsReached old start here.met
  pub seen : IsSeen old here
  pub low : here.met.rank < r
  pub waits : IfSome waiting (λ w. (start.rank ≤ w.rank) × IsFurther old w here.met)

-- which cell waits then leads to the next
pub waiting-further : (old new : CellPool) (start : Met) (here : Seen) (r : ℕ) (waiting : Option Met) (next : Met) → IsClimbing old new start here r waiting → IsFurther old here.met next →
    IfSome waiting (λ low. (start.rank ≤ low.rank) × IsFurther old low next)
waiting-further old new start here r waiting next k f = some-map _ _ waiting (λ low w. (w.0, further-on old low here.met next w.1 f)) k.waits

-- where a climb from a place begins, from what is noted there
pub starts-noted : (pool : CellPool) (place r : ℕ) → IsSound pool → IsCovered pool place → (mark : Option Hint) → mark ≡ finger_of pool place → (met : Met) → IsNamed pool mark met → met.rank < r → IsStart pool place r met
starts-noted pool place r s cov mark at met n low =
    let way = s.fingers place n.hint cov (sym at ∙ n.is) n.live in
    record {
      links = way.0;
      met = subst (λ (j : ℕ). IsMet pool way.0 (leaf_of pool place) j) n.id way.1;
      seat = record { cell = n.live.cell; is = ap (λ (j : ℕ). cell_at pool j) (sym n.id) ∙ n.live.is; has = n.rank };
      low = low;
    }

-- or at the first cell
pub starts-first : (pool : CellPool) (place r : ℕ) (met : Met) → IsBelow pool (leaf_of pool place) r met → IsStart pool place r met
starts-first pool place r met b = record {
  links = zero;
  met = subst (λ (o : Option ℕ). IsMet pool zero o met.id) (sym b.leads) refl;
  seat = b.seat;
  low = b.low;
}

-- where a climb begins at the first cell, if there is one below r
pub begun-below : (pool : CellPool) (place r : ℕ) (link : Option ℕ) → link ≡ leaf_of pool place → (next : Option Seen) → IsSound pool
    → IfSome next (λ s. IsBelow pool link r s.met) → IfSome next (IsRead pool) → IfNone next (EndsClimb pool link r) → IsClimbBegun pool place r next
begun-below pool place r link is None s below read none = subst (λ (o : Option ℕ). EndsClimb pool o r) is none
begun-below pool place r link is (Some next) s below read none =
    (starts-first pool place r next.met (subst (λ (o : Option ℕ). IsBelow pool o r next.met) is below), seen-read pool next (sound-climbable pool s next.met.rank) read)

-- where a climb begins, whatever else was noted since
pub begun-same : (p q : CellPool) → SameLinks p q → (place r : ℕ) (begun : Option Seen) → IsClimbBegun p place r begun → IsClimbBegun q place r begun
begun-same p q s place r None ends = subst (λ (o : Option ℕ). EndsClimb q o r) (sym (s.leafs place)) (ends-same p q s (leaf_of p place) r ends)
begun-same p q s place r (Some start) begun = (
  record {
    links = begun.0.links;
    met = subst (λ (o : Option ℕ). IsMet q begun.0.links o start.met.id) (sym (s.leafs place)) (met-same p q s begun.0.links (leaf_of p place) start.met.id begun.0.met);
    seat = rank-same p q s start.met.id start.met.rank begun.0.seat;
    low = begun.0.low;
  },
  seen-same p q s start begun.1,
)

-- the climb from there ends at the last cell below r above the place
pub top-climbed : (pool : CellPool) (place r : ℕ) (start last : Met) → IsStart pool place r start → IsClimbed pool start r last → IsTopCell pool place r last.id
top-climbed pool place r start last s c =
    let way = met-join pool s.links (leaf_of pool place) start.id s.met c.reached.links last.id c.reached.met in
    let level : c.reached.seat.cell.rank ≡ last.rank = c.reached.seat.has in
    let low : last.rank < r = c.low in
    record { links = way.0; met = way.1; cell = c.reached.seat.cell; is = c.reached.seat.is; low = omega arith; last = c.last }
