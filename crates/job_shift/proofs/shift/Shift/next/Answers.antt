use Rattle.std.proofs.Common.{rules, ◌≡◌, ◌<◌, ◌≤◌, false, sym, ◌∙◌, subst, ap, arith, List, ℕ, ◌∷◌, ◌++◌, [], length, vec_len, vec_capacity}
use Rattle.std.specs.Prelude.{All}
use Rattle.job_shift.specs.Hands.{with_job}
use Rattle.job_shift.specs.declared.view.HandView.{HandView}
use Rattle.job_shift.specs.declared.view.Pair.{Pair}
use Rattle.job_shift.specs.Times.{jobs}
use Rattle.job_shift.proofs.Stepping.{may_step}
use Rattle.job_shift.proofs.Drawing.{misses, gets, has_room, jobs-with_job, own_after, below_after}
use Rattle.job_shift.proofs.shift.Shift.next.Goals as goal

pub fetch_add-found-requires : goal.fetch_add-found-requires
fetch_add-found-requires c =
    let fresh : c.hand.inside.token.me.0.missed ≡ false = search rules in
    let count : c.hand.inside.token.me.0.count ≡ c.self.inside.table.shared.key.count = search rules in
    let workers : c.hand.inside.token.me.0.workers ≡ c.self.inside.table.shared.key.workers = search rules in (
      search rules,
      (let w = c.self.invariant.words in omega arith),
      may_step c.self.inside.table.shared.key.count c.self.inside.table.shared.key.workers c.hand.inside.token.id c.self.inside.table.shared.table_id.slots c.hand.inside.token.me
          fresh c.hand.invariant.share count workers,
    )

pub returns-then-from-found-clause-none : goal.returns-then-from-found-clause-none
returns-then-from-found-clause-none c =
    let known : c.args.hand.now.view ≡ c.hand.inside.token.me.0 = search rules in
    let count : c.hand.inside.token.me.0.count ≡ c.self.inside.table.shared.key.count = search rules in
    misses c.args.hand.now.view c.hand.inside.token.me c.fetch_add-found.new.seat.me c.fetch_add-found.result known c.fetch_add-found.ensures.2 (let f = c.from.ensures in let i = c.self.invariant.count in let t = c.if-from-found.true in omega arith)

pub push_reserved-requires : goal.push_reserved-requires
push_reserved-requires c =
    let count : c.hand.inside.token.me.0.count ≡ c.self.inside.table.shared.key.count = search rules in
    let low : c.fetch_add-found.result < c.hand.inside.token.me.0.count = (let f = c.from.ensures in let i = c.self.invariant.count in let t = c.if-from-found.false in omega arith) in
    let len : length c.hand.inside.handed.items ≡ vec_len c.hand.inside.handed = search rules in
    let room : length c.hand.inside.handed.items < vec_capacity c.hand.inside.handed = has_room c.hand.inside.token.me c.fetch_add-found.new.seat.me c.fetch_add-found.result _ c.hand.inside.handed.items c.fetch_add-found.ensures.2 low c.hand.invariant.handed c.hand.invariant.room in omega arith

pub invariant_of-hand-2 : goal.invariant_of-hand-2
invariant_of-hand-2 c =
    let me = c.hand.inside.token.me in
    let n = c.fetch_add-found.result in
    let count : me.0.count ≡ c.self.inside.table.shared.key.count = search rules in
    let low : n < me.0.count = (let f = c.from.ensures in let i = c.self.invariant.count in let t = c.if-from-found.false in omega arith) in
    let after : with_job me.0 n ≡ c.fetch_add-found.new.seat.me.0 = sym (c.fetch_add-found.ensures.2.hit low) in
    record {
      number = c.hand.invariant.number ∙ ap (λ (v : HandView). v.number) after;
      missed = c.hand.invariant.missed ∙ ap (λ (v : HandView). v.missed) after;
      handed = c.push_reserved.ensures.items ∙ ap (λ (l : List ℕ). l ++ n ∷ []) c.hand.invariant.handed ∙ sym (jobs-with_job me.0 n) ∙ ap (λ (v : HandView). jobs v) after;
      own = subst (λ (v : HandView). All (λ (p : Pair). p.hand ≡ v.number) v.pairs) after (own_after me.0 n c.hand.invariant.own);
      below = subst (λ (v : HandView). All (λ m. m < v.count) (jobs v)) after (below_after me.0 n low c.hand.invariant.below);
      room = (let r = c.hand.invariant.room in let k = c.push_reserved.ensures.capacity in let e = ap (λ (v : HandView). v.count) after in omega arith);
      share = (let r = c.hand.invariant.share in let e = ap (λ (v : HandView). v.share) after in omega arith);
      slots = c.fetch_add-found.ensures.2.slots ∙ c.hand.invariant.slots;
    }

pub returns-clause-some : goal.returns-clause-some
returns-clause-some c =
    let known : c.args.hand.now.view ≡ c.hand.inside.token.me.0 = search rules in
    let count : c.hand.inside.token.me.0.count ≡ c.self.inside.table.shared.key.count = search rules in
    gets c.args.hand.now.view c.hand.inside.token.me c.fetch_add-found.new.seat.me c.fetch_add-found.result known c.fetch_add-found.ensures.2 (let f = c.from.ensures in let i = c.self.invariant.count in let t = c.if-from-found.false in omega arith)
