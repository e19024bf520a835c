-- How a picture begins.
use Rattle.std.proofs.Common.{◌≡◌, ℕ, ◌<◌, true, false, List, [], length, drop, get_or, refl, arith}
use Rattle.std.specs.Prelude.{codes, nat_eq}
use Rattle.std.specs.List.{starts_with}
use Rattle.std.proofs.lemmas.List.{drop_more, drop_all}
use Rattle.pgm_reader.specs.Pgm.{is_picture, ends_token}

-- the two bytes and nothing more
pub form-alone : (first : List ℕ) → starts_with nat_eq first (codes "P5") ≡ true → length first ≡ 2 → is_picture first ≡ true
unfolding is_picture
form-alone first begins two =
    let end : drop 2 first ≡ [] = drop_all 2 first (omega (arith, two)) in
    rw (begins, end) refl

-- the two bytes and another one
pub form-more : (first : List ℕ) → starts_with nat_eq first (codes "P5") ≡ true → 2 < length first → is_picture first ≡ ends_token true (get_or first 2 0)
unfolding is_picture
form-more first begins more = rw (begins, drop_more first 2 0 more) refl

-- other bytes
pub form-other : (first : List ℕ) → starts_with nat_eq first (codes "P5") ≡ false → is_picture first ≡ false
unfolding is_picture
form-other first begins = rw begins refl
