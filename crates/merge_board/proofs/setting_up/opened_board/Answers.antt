use Rattle.std.proofs.Common.{◌≡◌, ◌+◌, ap, sym, subst, ◌∙◌, List, ℕ, length, replicate}
use Rattle.std.proofs.lemmas.List.{length-replicate}
use Rattle.atomic_table.specs.Table.{opening}
use Rattle.tile_plan.specs.Plan.{TilePlan, IsPlan, tile_count, part_count}
use Rattle.merge_board.specs.Board.{IsBoard}
use Rattle.merge_board.specs.Opening.{AreOpened}
use Rattle.merge_board.specs.Seats.{first_view}
use Rattle.merge_board.specs.declared.view.Key.{Key}
use Rattle.merge_board.proofs.Opening.{opens_board}
use Rattle.merge_board.proofs.setting_up.opened_board.Goals as goal

pub new-requires : goal.new-requires
new-requires c =
    let p = c.args.plan.now in
    let known : p ≡ c.of.result.value = sym c.of.ensures in
    let words : replicate (tile_count p + 1) 0 ≡ c.as_slice.result.now = sym (c.as_slice.ensures.value ∙ c.in_ok-words.ensures ∙ ap (λ (n : ℕ). replicate (n + 1) 0) c.tiles.ensures.value) in
    subst (λ (q : TilePlan). IsBoard q c.args.workers (opening c.as_slice.result.now c.in_ok-slots.slots.items (first_view q c.args.workers))) known
    (subst (λ (l : List ℕ). IsBoard p c.args.workers (opening l c.in_ok-slots.slots.items (first_view p c.args.workers))) words
    (opens_board p c.args.workers c.in_ok-slots.slots.items c.tiles.ensures.plan c.requires.some c.requires.few c.in_ok-slots.ensures))

pub invariant_of-result : goal.invariant_of-result
invariant_of-result c =
    let p = c.args.plan.now in
    let words : length c.as_slice.result.now ≡ tile_count p + 1 = ap (λ (l : List ℕ). length l) (c.as_slice.ensures.value ∙ c.in_ok-words.ensures ∙ ap (λ (n : ℕ). replicate (n + 1) 0) c.tiles.ensures.value) ∙ length-replicate (tile_count p + 1) 0 in
    let opened : AreOpened p c.in_ok-slots.slots.items = c.in_ok-slots.ensures in
    let key = c.in-Ok.ensures.ok.5 in
    let known : c.in-Ok.table.shared.key.plan.value ≡ p = ap (λ (k : Key). k.plan.value) key ∙ c.of.ensures in
    record {
      plan = subst (λ (q : TilePlan). IsPlan q) (sym known) c.tiles.ensures.plan;
      words = c.in-Ok.ensures.ok.0 ∙ words ∙ ap (λ (q : TilePlan). tile_count q + 1) (sym known);
      slots = c.in-Ok.ensures.ok.1 ∙ opened.count ∙ ap (λ (q : TilePlan). part_count q) (sym known);
      workers = sym (ap (λ (k : Key). k.workers) key);
      some_worker = c.requires.some;
      few_workers = c.requires.few;
    }
