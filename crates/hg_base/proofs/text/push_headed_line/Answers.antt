use Rattle.std.proofs.Common.{◌≡◌, ◌++◌, [], ◌∷◌, Some, subst, append_assoc, le_refl}
use Rattle.std.proofs.lemmas.Result.{on_err_weaker}
use Rattle.hg_base.specs.Outside.{AppendsPrefix}
use Rattle.hg_base.specs.Text.{line, headed_line}
use Rattle.hg_base.proofs.Lines.{longer-append, prefix-of_line, prefix-behind, on_err}
use Rattle.hg_base.proofs.text.push_headed_line.Goals as goal

-- the word stands
pub returns-in_err-push-clause-prefix : goal.returns-in_err-push-clause-prefix
returns-in_err-push-clause-prefix c =
    let old = c.args.text.now.items in
    let word = c.args.word.now in
    on_err c.from_residual-in_err-push.result
    (rw (c.in_err-push.ensures.items, c.in_ok-extend_from_slice.ensures.items, c.as_bytes.ensures.value)
    (prefix-of_line old (old ++ word) (32 ∷ line c.args.numbers.now) (headed_line word c.args.numbers.now) (append_assoc old word _) (longer-append old old word (le_refl _))))

-- the word, a space and a prefix of the line stand
pub returns-clause-prefix : goal.returns-clause-prefix
returns-clause-prefix c =
    let old = c.args.text.now.items in
    let word = c.args.word.now in
    let numbers = c.args.numbers.now in
    let begun : c.push.new.self.items ≡ old ++ (word ++ 32 ∷ []) =
    rw (c.in_ok-push.ensures.items, c.in_ok-extend_from_slice.ensures.items, c.as_bytes.ensures.value) (append_assoc old word (32 ∷ [])) in
    on_err_weaker c.push_line.result
    (λ (h : AppendsPrefix (Some c.push.new.self.items) (Some c.push_line.new.text.items) (line numbers)).
    subst (AppendsPrefix (Some old) (Some c.push_line.new.text.items)) (append_assoc word (32 ∷ []) (line numbers))
    (prefix-behind old c.push.new.self.items c.push_line.new.text.items (word ++ 32 ∷ []) (line numbers) begun h))
    c.push_line.ensures.prefix
