-- Small facts on the slots that a seat holds.
use Rattle.std.proofs.Common.{◌≡◌, ℕ, ◌<◌, sym, ◌∙◌, subst, ap, List, [], ◌∷◌, ◌++◌}
use Rattle.std.specs.Prelude.{Option, Some, None}
use Rattle.atomic_table.specs.Table.{rest, turned}
use Rattle.tile_plan.specs.Plan.{TilePlan, tile_count, parent, sibling}
use Rattle.border_climb.specs.Stands.{PartState}
use Rattle.merge_board.specs.Steps.{Hold, Draws, AreTurns, AreBelow, ArrivesWith, last_of}

-- a list with this head has it before its rest
pub before_rest : (xs ys : List (ℕ × Option PartState)) (x : ℕ × Option PartState) → xs ≡ x ∷ ys → xs ≡ x ∷ rest xs
before_rest xs ys x e = e ∙ ap (λ (zs : List (ℕ × Option PartState)). x ∷ rest zs) (sym e)

-- after a draw that found a tile, its slot is the one that is held
pub slot_drawn : (me after : Hold) (n : ℕ) → Draws me n after → n < tile_count me.0.plan → (old : Option PartState) × (after.1 ≡ (n, old) ∷ rest after.1)
slot_drawn me after n d more = let h = d.hit more in (Some h.1.0, before_rest after.1 me.1 (n, Some h.1.0) h.1.1.1)

-- an idle seat holds no slot
pub idle_turns : (p : TilePlan) (hand : Option ℕ) (held : List (ℕ × Option PartState)) → hand ≡ None → AreTurns p hand held → held ≡ []
idle_turns p hand held e t = subst (λ (h : Option ℕ). AreTurns p h held) e t

-- what an arrival tells hangs on the last slot alone
pub arrives_alone : (i : ℕ) (x : Option PartState) (below : List (ℕ × Option PartState)) (me after : Hold) (n : ℕ) → AreBelow me.0.plan i below → me.1 ≡ below ++ (i, x) ∷ [] → ArrivesWith i me n after
    → ArrivesWith i (me.0, (i, x) ∷ []) n after
arrives_alone i x below me after n b e h = record { root_zero = h.root_zero; waits = h.waits; both = λ ne. (let t = h.both ne in (t.0, (t.1.0, (t.1.1.0, (t.1.1.1.0, t.1.1.1.1 ∙ ap (λ (o : Option PartState). (parent me.0.plan i, None) ∷ (sibling me.0.plan i, Some t.1.1.0) ∷ (i, o) ∷ []) (last below b e)))))) }
  where
    last : (below : List (ℕ × Option PartState)) → AreBelow me.0.plan i below → me.1 ≡ below ++ (i, x) ∷ [] → last_of me.1 ≡ x
    last [] b e = ap last_of e
    last (a ∷ []) b e = absurd b
    last (a ∷ c ∷ []) b e = ap last_of e
    last (a ∷ c ∷ d ∷ ds) b e = absurd b

-- after a turn the second slot is the first
pub turned_before : (held after : List (ℕ × Option PartState)) (a b x : ℕ × Option PartState) → held ≡ a ∷ b ∷ x ∷ [] → after ≡ turned held → after ≡ b ∷ x ∷ a ∷ []
turned_before held after a b x e t = t ∙ ap turned e

-- a slot that is first, under another name of its number
pub slot_first : (held after : List (ℕ × Option PartState)) (k l : ℕ) (x : Option PartState) → held ≡ (k, x) ∷ after → k ≡ l → held ≡ (l, x) ∷ rest held
slot_first held after k l x e s = before_rest held after (l, x) (e ∙ ap (λ (j : ℕ). (j, x) ∷ after) s)
