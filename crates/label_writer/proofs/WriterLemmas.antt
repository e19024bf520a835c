-- Samples that are written one by one.
use Rattle.std.proofs.Common.{◌≡◌, ℕ, ◌+◌, List, [], ◌∷◌, ◌++◌, Some, take, sym, ◌∙◌, ap}
use Rattle.std.specs.Prelude.{slice_get}
use Rattle.std.specs.List.{flat_map}
use Rattle.std.proofs.lemmas.List.{flat_map_more, take_more}
use Rattle.std.proofs.lemmas.Option.{get_or_from_slice_get, slice_get_within}

-- one more sample, of the next label
pub next_sample : (f : ℕ → List ℕ) (labels head bytes new : List ℕ) (v label : ℕ) → bytes ≡ head ++ flat_map f (take v labels) → slice_get labels v ≡ Some label → new ≡ bytes ++ f label →
    new ≡ head ++ flat_map f (take (v + 1) labels)
next_sample f labels head bytes new v label so_far at pushed =
    let next : take (v + 1) labels ≡ take v labels ++ label ∷ [] =
    take_more labels v 0 (slice_get_within labels v label at) ∙ ap (λ (k : ℕ). take v labels ++ k ∷ []) (get_or_from_slice_get labels v label 0 at) in
    pushed
    ∙ ap (λ (b : List ℕ). b ++ f label) so_far
    ∙ flat_map_more f head (take v labels) label
    ∙ ap (λ (xs : List ℕ). head ++ flat_map f xs) (sym next)
