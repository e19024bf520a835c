-- The passes that keep the numbers that pass a test.
use Rattle.std.proofs.Common.{◌≡◌, ℕ, zero, suc, ◌+◌, ◌<◌, ◌≤◌, Bool, true, false, cond, refl, sym, ◌∙◌, ap, arith, List, [], ◌∷◌, ◌++◌, append-nil}
use Rattle.std.specs.Prelude.{filter}
use Rattle.std.specs.List.{range_with_len}
use Rattle.hg_base.proofs.Passing.{passing-suc}

pub filter_more : (p : ℕ → Bool) (e : ℕ) (items new : List ℕ) → items ≡ filter p (range_with_len 0 e) → p e ≡ true → new ≡ items ++ e ∷ [] → new ≡ filter p (range_with_len 0 (e + 1))
filter_more p e items new so_far passes pushed =
    let next : e + 1 ≡ suc e = omega arith in
    pushed ∙ ap (λ (xs : List ℕ). xs ++ e ∷ []) so_far ∙ ap (λ (b : Bool). filter p (range_with_len 0 e) ++ cond b (e ∷ []) []) (sym passes) ∙ sym (passing-suc p e) ∙ ap (λ (k : ℕ). filter p (range_with_len 0 k)) (sym next)

pub filter_same : (p : ℕ → Bool) (e : ℕ) (items : List ℕ) → items ≡ filter p (range_with_len 0 e) → p e ≡ false → items ≡ filter p (range_with_len 0 (e + 1))
filter_same p e items so_far fails =
    let next : e + 1 ≡ suc e = omega arith in
    so_far ∙ sym (append-nil (filter p (range_with_len 0 e))) ∙ ap (λ (b : Bool). filter p (range_with_len 0 e) ++ cond b (e ∷ []) []) (sym fails) ∙ sym (passing-suc p e) ∙ ap (λ (k : ℕ). filter p (range_with_len 0 k)) (sym next)

-- tests that agree keep the same
pub filter_agree-range : (p q : ℕ → Bool) (a k : ℕ) → ((e : ℕ) → a ≤ e → e < a + k → p e ≡ q e) → filter p (range_with_len a k) ≡ filter q (range_with_len a k)
filter_agree-range p q a zero agree = refl
filter_agree-range p q a (suc k) agree =
    let rest = filter_agree-range p q (a + 1) k (λ e low high. agree e (omega arith) (omega arith)) in
    ap (λ (b : Bool). cond b (a ∷ filter p (range_with_len (a + 1) k)) (filter p (range_with_len (a + 1) k))) (agree a (omega arith) (omega arith))
    ∙ ap (λ (xs : List ℕ). cond (q a) (a ∷ xs) xs) rest
