use Rattle.std.proofs.Common.{◌≡◌, ◌<◌, ◌∙◌, ◌++◌, [], ◌∷◌, sym, length, append_assoc, arith}
use Rattle.hg_base.proofs.Lines.{first_number, later_number, longer-append, prefix-of_line, on_err}
use Rattle.hg_base.proofs.text.push_line.Goals as goal
use Rattle.hg_base.proofs.text.push_line.Goals.{then-place-gt0+in_ok-push, else-place-gt0}

pub loop-place-preserved : goal.loop-place-preserved
loop-place-preserved c =
    let lt : c.loop-place.place < length c.args.numbers.now = omega arith in
    elim c.if-place-gt0.branch [
      | then-place-gt0+in_ok-push w ↦ record {
        whole =
            rw (c.in_ok-push_number.ensures.all, w.text-is, w.in_ok-push.ensures.items)
            (later_number c.loop-place.text.items _ _ c.loop-place.place lt w.if-place-gt0.true c.loop-place.invariant.whole);
        longer =
            rw (c.in_ok-push_number.ensures.all, w.text-is, w.in_ok-push.ensures.items)
            (longer-append _ _ _ (longer-append _ _ _ c.loop-place.invariant.longer));
      }
      | else-place-gt0 w ↦
          let z : c.loop-place.place ≡ 0 = omega arith in record {
            whole =
                rw (c.in_ok-push_number.ensures.all, w.text-is)
                (first_number c.loop-place.text.items _ _ c.loop-place.place lt z c.loop-place.invariant.whole);
            longer = rw (c.in_ok-push_number.ensures.all, w.text-is) (longer-append _ _ _ c.loop-place.invariant.longer);
          }
    ]

-- the text is that of the loop's start
pub returns-in_err-push-clause-prefix : goal.returns-in_err-push-clause-prefix
returns-in_err-push-clause-prefix c =
    on_err c.from_residual.result
    (rw c.in_err-push.ensures.items
    (prefix-of_line c.args.text.now.items c.loop-place.text.items _ _ c.loop-place.invariant.whole c.loop-place.invariant.longer))

-- the text is that of the loop's start, or a space stands behind it
pub returns-in_err-push_number-clause-prefix : goal.returns-in_err-push_number-clause-prefix
returns-in_err-push_number-clause-prefix c =
    let lt : c.loop-place.place < length c.args.numbers.now = omega arith in
    on_err c.from_residual-in_err-push_number.result
    (elim c.if-place-gt0.branch [
      | then-place-gt0+in_ok-push w ↦
          rw (c.in_err-push_number.ensures.stays, w.text-is, w.in_ok-push.ensures.items)
          (prefix-of_line c.args.text.now.items _ _ _
          (sym (append_assoc (c.loop-place.text.items ++ 32 ∷ []) _ _) ∙ later_number c.loop-place.text.items _ _ c.loop-place.place lt w.if-place-gt0.true c.loop-place.invariant.whole)
          (longer-append _ _ _ c.loop-place.invariant.longer))
      | else-place-gt0 w ↦
          rw (c.in_err-push_number.ensures.stays, w.text-is)
          (prefix-of_line c.args.text.now.items c.loop-place.text.items _ _ c.loop-place.invariant.whole c.loop-place.invariant.longer)
    ])

-- the line feed is left
pub returns-in_err-push-2-clause-prefix : goal.returns-in_err-push-2-clause-prefix
returns-in_err-push-2-clause-prefix c =
    on_err c.from_residual-in_err-push-2.result
    (rw c.in_err-push-2.ensures.items
    (prefix-of_line c.args.text.now.items c.loop-place.text.items _ _ c.loop-place.invariant.whole c.loop-place.invariant.longer))
