-- Lemmas on reads and writes of the outside.
use Rattle.std.proofs.Common.{◌≡◌, ℕ, ◌+◌, ◌-◌, List, ◌++◌, Option, length, take, drop, sym, ap, ◌∙◌, subst, take-append-drop}
use Rattle.std.proofs.Math.Seq.{take-add}
use Rattle.std.proofs.lemmas.List.{take_rest, drop-drop}
use Rattle.std.proofs.KnownBytes.{Appends-trans}
use Rattle.std.specs.Io.KnownBytes.{Appends}

-- a sink that took the first `at` bytes, and then n of the rest, took the first at + n
pub Appends-more : (first middle last : Option (List ℕ)) (bytes : List ℕ) (at n : ℕ)
    → Appends first middle (take at bytes) → Appends middle last (take n (take (length bytes - at) (drop at bytes))) → Appends first last (take (at + n) bytes)
Appends-more first middle last bytes at n before here =
    let joined : take at bytes ++ take n (take (length bytes - at) (drop at bytes)) ≡ take (at + n) bytes =
    ap (λ rest. take at bytes ++ take n rest) (take_rest bytes at) ∙ sym (take-add at n bytes) in
    subst (Appends first last) joined (Appends-trans first middle last _ _ before here)

-- what was left is what a read moved, and then the rest
pub moved-rest : (bytes seen into : List ℕ) (at n : ℕ) → seen ≡ bytes → take n into ≡ take n (take (length seen - at) (drop at seen)) → drop at bytes ≡ take n into ++ drop (at + n) bytes
moved-rest bytes seen into at n same e =
    let front : take n into ≡ take n (drop at bytes) = e ∙ ap (take n) (take_rest seen at) ∙ ap (λ bs. take n (drop at bs)) same in
    rw front (sym (take-append-drop n (drop at bytes)) ∙ ap (λ rest. take n (drop at bytes) ++ rest) (drop-drop n at bytes))
