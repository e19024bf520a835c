-- What the writes of a merge leave: links, cells given back, and the notes.
use Rattle.std.proofs.Common.{◌≡◌, ◌≢◌, ℕ, suc, ◌+◌, ◌-◌, ◌<◌, ◌≤◌, inl, inr, refl, sym, ◌∙◌, subst, ap, arith, List, set, length, nat_le}
use Rattle.std.specs.Prelude.{Option, Some, None}
use Rattle.std.specs.Option.{option_map_or}
use Rattle.std.proofs.lemmas.Bool.{cases_Bool, cases_eq, leb-true}
use Rattle.std.proofs.lemmas.List.{length-set}
use Rattle.edge_laws.specs.Edges.{ListedEdge, EdgeList, next}
use Rattle.edge_laws.proofs.Firsts.{IsBefore}
use Rattle.edge_laws.proofs.Ends.{needed}
use Rattle.node_region.specs.Pool.{CellPool, entry, cell_at, turn_of, with_given_back}
use Rattle.node_region.specs.declared.cell.Cell.{Cell}
use Rattle.node_region.proofs.Entries.{entry-set_same, entry-set_other}
use Rattle.border_climb.specs.declared.climbing.Met.{Met}
use Rattle.border_climb.specs.declared.climbing.Seen.{Seen}
use Rattle.border_climb.specs.declared.given.Given.TheVariants as answers
use Rattle.border_climb.specs.Linked.{HasRank, Points}
use Rattle.border_climb.specs.Notes.{IsNoted}
use Rattle.border_climb.specs.Splicing.{IsRelinked, IsDropped, IsSeam, IsMerged, KeepsRange, rank_of}
use Rattle.border_climb.specs.Climbs.{IsRead, IsClimbed, with_up}
use Rattle.border_climb.proofs.Linked.{chain-met}
use Rattle.border_climb.proofs.Merging.{relinked-cases, relinked-ranks, merging-turned, run-along}
use Rattle.border_climb.proofs.Closing.{apart-merging, close-single, close-both}
use Rattle.border_climb.proofs.Pools.{links-noted, met-same, one-cell, seat-rank, used-covered}
use Rattle.border_climb.proofs.Seams.{SameNotes, seam-next, seam-linked, seam-noted, noted-fewer}

-- another number has what it had
pub entry-other : {X : Type 0} (first : ℕ) (xs : List (Option X)) (id : ℕ) (y : Option X) (j : ℕ) → first ≤ id → j ≢ id → entry first (set xs (id - first) y) j ≡ entry first xs j
entry-other first xs id y j low other =
    elim (cases_Bool (nat_le first j)) [
      | inl from ↦ entry-set_other first xs id j y low (leb-true first j from) other
      | inr below ↦ rw below refl
    ]

pub relinked-with : (p : CellPool) (id : ℕ) (up : Option ℕ) (c : Cell) → cell_at p id ≡ Some c → IsRelinked p (with_up p 0 (Some id) up) id up
relinked-with p id up c is =
    let cov = used-covered p id c is in
    let y : Option Cell = Some (record { rank = option_map_or (λ b. b.rank) (cell_at p id) 0; up = up }) in
    record {
      kept = record {
        covered = λ x h. (
          h.0,
          (let long : length (set p.cells (id - p.first) (Some (record { rank = option_map_or (λ b. b.rank) (cell_at p id) 0; up = up }))) ≡ length p.cells = length-set p.cells (id - p.first) (Some (record { rank = option_map_or (λ b. b.rank) (cell_at p id) 0; up = up })) in
              let top : x < p.first + length (set p.cells (id - p.first) (Some (record { rank = option_map_or (λ b. b.rank) (cell_at p id) 0; up = up }))) = h.1 in omega arith),
        );
        leafs = λ x. refl;
      };
      at = λ b eq. entry-set_same p.first p.cells id (Some (record { rank = option_map_or (λ c. c.rank) (cell_at p id) 0; up = up })) cov.0 cov.1
          ∙ ap (λ (o : Option Cell). Some (record { rank = option_map_or (λ c. c.rank) o 0; up = up })) eq;
      others = λ j other. entry-other p.first p.cells id (Some (record { rank = option_map_or (λ c. c.rank) (cell_at p id) 0; up = up })) j cov.0 other;
    }

-- a link is written
pub relinked-written : (p q : CellPool) (id : ℕ) (up : Option ℕ) (c : Cell) → cell_at p id ≡ Some c → q ≡ with_up p 0 (Some id) up → IsRelinked p q id up
relinked-written p q id up c is eq = subst (λ (w : CellPool). IsRelinked p w id up) (sym eq) (relinked-with p id up c is)

pub notes-relinked : (p q : CellPool) (id : ℕ) (up : Option ℕ) (c : Cell) → cell_at p id ≡ Some c → q ≡ with_up p 0 (Some id) up → SameNotes p q
notes-relinked p q id up c is eq =
    let r = relinked-written p q id up c is eq in
    record {
      hints = λ i. ap (λ (w : CellPool). entry w.first w.hints i) eq;
      fingers = λ i. ap (λ (w : CellPool). entry w.first w.fingers i) eq;
      turns = λ i. ap (λ (w : CellPool). turn_of w i) eq;
      covered = r.kept.covered;
      ranks = λ i b at. elim (relinked-cases p q id up r c is i b at) [
        | inl here ↦ record { cell = c; is = ap (λ (j : ℕ). cell_at p j) here.0 ∙ is; has = sym here.1.0 }
        | inr off ↦ record { cell = b; is = off.1; has = refl }
      ];
    }

dropped-with : (p : CellPool) (id : ℕ) (c : Cell) → cell_at p id ≡ Some c → IsDropped p (with_given_back p id) id
dropped-with p id c is =
    let cov = used-covered p id c is in
    record {
      kept = record {
        covered = λ x h. (
          h.0,
          (let long : length (set p.cells (id - p.first) None) ≡ length p.cells = length-set p.cells (id - p.first) None in
              let top : x < p.first + length (set p.cells (id - p.first) None) = h.1 in omega arith),
        );
        leafs = λ x. refl;
      };
      at = entry-set_same p.first p.cells id None cov.0 cov.1;
      others = λ j other. entry-other p.first p.cells id None j cov.0 other;
    }

-- a cell is given back
pub dropped-written : (p q : CellPool) (id : ℕ) (c : Cell) → cell_at p id ≡ Some c → q ≡ with_given_back p id → IsDropped p q id
dropped-written p q id c is eq = subst (λ (w : CellPool). IsDropped p w id) (sym eq) (dropped-with p id c is)

pub notes-dropped : (p q : CellPool) (id : ℕ) (c : Cell) → cell_at p id ≡ Some c → q ≡ with_given_back p id → SameNotes p q
notes-dropped p q id c is eq =
    let d = dropped-written p q id c is eq in
    record {
      hints = λ i. ap (λ (w : CellPool). entry w.first w.hints i) eq;
      fingers = λ i. ap (λ (w : CellPool). entry w.first w.fingers i) eq;
      turns = λ i. ap (λ (w : CellPool). turn_of w i) eq;
      covered = d.kept.covered;
      ranks = λ i b at. elim (cases_eq i id) [
        | inl same ↦ absurd (none b (sym d.at ∙ ap (λ (j : ℕ). cell_at q j) (sym same) ∙ at))
        | inr other ↦ record { cell = b; is = sym (d.others i other) ∙ at; has = refl }
      ];
    }
  where
    none : (b : Cell) → None ≡ Some b → ⊥
    none b h = cc

-- what was read has the rank that was met
pub read-seat : (pool : CellPool) (seen : Seen) → IsRead pool seen → HasRank pool seen.met.id seen.met.rank
read-seat pool seen r = record { cell = seen.entry.cell; is = r.kept.cell; has = r.rank }

-- one step of the merge, as the code does it
pub record IsAdvance (old mid new : CellPool) (t : ℕ) (low high top : Met) (c : Cell) : Type 0 where
  pub low_seat : HasRank old low.id low.rank
  pub high_seat : HasRank old high.id high.rank
  pub lower : low.rank < high.rank
  pub climbed : IsClimbed old low high.rank top
  pub noted : IsNoted old mid low.rank
  pub is : cell_at mid top.id ≡ Some c
  pub written : new ≡ with_up mid 0 (Some t) (Some low.id)

-- what comes next on the other chain comes after a rank below the higher cell's
before-high : (pool : CellPool) (id r : ℕ) (w : Option ListedEdge) → Points pool (Some id) w → (n : ℕ) → HasRank pool id r → n < r → IsBefore w n
before-high pool id r None p n h lt = tt
before-high pool id r (Some f) p n h lt =
    let level : h.cell.rank ≡ f.rank = seat-rank pool id f.rank h.cell p h.is in
    let has : h.cell.rank ≡ r = h.has in
    omega arith

pub advanced : (old mid new : CellPool) (t : ℕ) (low high top : Met) (c : Cell) → IsAdvance old mid new t low high top c → (e : ListedEdge) (s : EdgeList) → IsSeam old e s t (Some low.id) (Some high.id) →
    IsSeam new e s top.id c.up (Some high.id)
advanced old mid new t low high top c k e s m =
    let n = seam-next old e s t low.id (Some high.id) m.merging k.low_seat.cell k.low_seat.is in
    let above : m.merging.edge.rank < k.low_seat.cell.rank = n.1.2 in
    let low_is : k.low_seat.cell.rank ≡ low.rank = k.low_seat.has in
    let same = links-noted old mid low.rank k.noted in
    let held : IsSeam mid e s t (Some low.id) (Some high.id) = seam-noted old mid e s t (Some low.id) (Some high.id) m low.rank (omega arith) k.noted in
    let there : cell_at mid top.id ≡ Some k.climbed.reached.seat.cell = same.cells top.id ∙ k.climbed.reached.seat.is in
    let f = chain-met mid s held.merging.cell.apart.1 (suc held.merging.edge.rank) (seam-linked mid e s t (Some low.id) (Some high.id) held.merging) k.climbed.reached.links held.merging.a (suc held.merging.edge.rank)
    (Some low.id) (next s held.merging.a (suc held.merging.edge.rank)) (omega arith) refl held.merging.first_link top.id
    (met-same old mid same k.climbed.reached.links (Some low.id) top.id k.climbed.reached.met) k.climbed.reached.seat.cell there in
    let from : suc held.merging.edge.rank ≤ f.0.rank = f.1.1.0 in
    let level : k.climbed.reached.seat.cell.rank ≡ f.0.rank = f.1.1.1 in
    let has : k.climbed.reached.seat.cell.rank ≡ top.rank = k.climbed.reached.seat.has in
    let less : top.rank < high.rank = k.climbed.low in
    let one : c ≡ k.climbed.reached.seat.cell = one-cell mid top.id c k.climbed.reached.seat.cell k.is there in
    let c_level : c.rank ≡ f.0.rank = ap (λ (y : Cell). y.rank) one ∙ f.1.1.1 in
    let high_there : HasRank mid high.id high.rank = record { cell = k.high_seat.cell; is = same.cells high.id ∙ k.high_seat.is; has = k.high_seat.has } in
    record {
      merging = run-along mid new e s t low.id (Some high.id) held.merging (relinked-written mid new t (Some low.id) held.merging.cell.seat.cell held.merging.cell.seat.is k.written)
          f.0 f.1.0 from (before-high mid high.id high.rank (next s held.merging.b (suc held.merging.edge.rank)) held.merging.second_link f.0.rank high_there (omega arith))
          top.id c k.is c_level;
      noted = noted-fewer mid new (notes-relinked mid new t (Some low.id) held.merging.cell.seat.cell held.merging.cell.seat.is k.written) s held.noted;
    }

-- the rank of a seat
pub seat-rank_of : (pool : CellPool) (id r : ℕ) → HasRank pool id r → rank_of pool id ≡ r
seat-rank_of pool id r h = ap (λ (o : Option Cell). option_map_or (λ c. c.rank) o 0) h.is ∙ h.has

pub advanced-rises : (old mid new : CellPool) (t : ℕ) (low high top : Met) (c : Cell) → IsAdvance old mid new t low high top c → (e : ListedEdge) (s : EdgeList) → IsSeam old e s t (Some low.id) (Some high.id) →
    (rank_of old t < rank_of new top.id) × (rank_of new top.id ≡ top.rank)
advanced-rises old mid new t low high top c k e s m =
    let n = seam-next old e s t low.id (Some high.id) m.merging k.low_seat.cell k.low_seat.is in
    let above : m.merging.edge.rank < k.low_seat.cell.rank = n.1.2 in
    let low_is : k.low_seat.cell.rank ≡ low.rank = k.low_seat.has in
    let from : low.rank ≤ top.rank = k.climbed.reached.from in
    let at : rank_of old t ≡ m.merging.edge.rank = seat-rank_of old t m.merging.edge.rank m.merging.cell.seat in
    let same = links-noted old mid low.rank k.noted in
    let held = seam-noted old mid e s t (Some low.id) (Some high.id) m low.rank (omega arith) k.noted in
    let there : HasRank mid top.id top.rank = record { cell = k.climbed.reached.seat.cell; is = same.cells top.id ∙ k.climbed.reached.seat.is; has = k.climbed.reached.seat.has } in
    let to : rank_of new top.id ≡ top.rank = seat-rank_of new top.id top.rank
    (relinked-ranks mid new t (Some low.id) (relinked-written mid new t (Some low.id) held.merging.cell.seat.cell held.merging.cell.seat.is k.written) top.id top.rank there) in
    (omega arith, to)

-- the chains come to one cell
pub replaced : (old mid new : CellPool) (e : ListedEdge) (s : EdgeList) (t i : ℕ) (c : Cell) → IsSeam old e s t (Some i) (Some i) → cell_at old i ≡ Some c → mid ≡ with_up old 0 (Some t) c.up → new ≡ with_given_back mid i →
    IsMerged new e s (answers.Replaced c.rank)
replaced old mid new e s t i c m is eq eq' =
    let link = relinked-written old mid t c.up m.merging.cell.seat.cell m.merging.cell.seat.is eq in
    let there = relinked-ranks old mid t c.up link i c.rank (record { cell = c; is = is; has = refl }) in
    let drop = dropped-written mid new i there.cell there.is eq' in
    let done = close-both old mid new e s t i c m.merging is link drop in
    record {
      links = done.0;
      noted = noted-fewer mid new (notes-dropped mid new i there.cell there.is eq') s
          (noted-fewer old mid (notes-relinked old mid t c.up m.merging.cell.seat.cell m.merging.cell.seat.is eq) s m.noted);
      told = (needed e s m.merging.a m.merging.b (suc m.merging.edge.rank) (apart-merging old e s t (Some i) (Some i) m.merging), done.1);
    }

-- the second chain has ended
pub finished : (old new : CellPool) (e : ListedEdge) (s : EdgeList) (t : ℕ) (first : Option ℕ) → IsSeam old e s t first None → new ≡ with_up old 0 (Some t) first → IsMerged new e s answers.Joined
finished old new e s t first m eq =
    let done = close-single old new e s t first m.merging (relinked-written old new t first m.merging.cell.seat.cell m.merging.cell.seat.is eq) in
    record {
      links = done.0;
      noted = noted-fewer old new (notes-relinked old new t first m.merging.cell.seat.cell m.merging.cell.seat.is eq) s m.noted;
      told = (needed e s m.merging.a m.merging.b (suc m.merging.edge.rank) (apart-merging old e s t first None m.merging), done.1);
    }

pub seam-turned : (pool : CellPool) (e : ListedEdge) (s : EdgeList) (t : ℕ) (first second : Option ℕ) → IsSeam pool e s t first second → IsSeam pool e s t second first
seam-turned pool e s t first second m = record { merging = merging-turned pool e s t first second m.merging; noted = m.noted }

-- the same, where the links are told by other names
pub seam-at : (pool : CellPool) (e : ListedEdge) (s : EdgeList) (t : ℕ) (f g h k : Option ℕ) → IsSeam pool e s t f g → f ≡ h → g ≡ k → IsSeam pool e s t h k
seam-at pool e s t f g h k m p q = subst (λ (o : Option ℕ). IsSeam pool e s t o k) p (subst (λ (o : Option ℕ). IsSeam pool e s t f o) q m)

pub range-on : (p q w : CellPool) → KeepsRange p q → KeepsRange q w → KeepsRange p w
range-on p q w a b = record { first = b.first ∙ a.first; count = b.count ∙ a.count; chunks = b.chunks ∙ a.chunks; room = b.room ∙ a.room }
