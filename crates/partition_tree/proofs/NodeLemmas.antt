-- Passes over the nodes in order of number.
use Rattle.std.proofs.Common.{◌≡◌, ℕ, zero, suc, ◌+◌, ◌≤◌, Bool, true, false, cond, List, [], ◌∷◌, ◌++◌, ◌∙◌, ap, arith, add-one, append_assoc, append-nil}
use Rattle.std.specs.Prelude.{count_by}
use Rattle.hg_base.specs.Text.{line}
use Rattle.tree_laws.specs.Tree.{ParentTree, parent, altitude}
use Rattle.partition_tree.specs.Report.{node_line}
use Rattle.std.specs.List.{range_with_len, flat_map}
use Rattle.std.proofs.lemmas.List.Sums.{sum_by-append, count_by-le-length}
use Rattle.std.proofs.lemmas.List.Concat.{flat_map-append}
use Rattle.std.proofs.lemmas.List.FromFn.{length-range_with_len}

-- one more number at the end of a range
pub range_with_len-suc : (a n : ℕ) → range_with_len a (suc n) ≡ range_with_len a n ++ (a + n) ∷ []
range_with_len-suc a zero = let z : a ≡ a + 0 = omega arith in ap (λ x. x ∷ []) z
range_with_len-suc a (suc n) = let z : (a + 1) + n ≡ a + suc n = omega arith in ap (λ r. a ∷ r) (range_with_len-suc (a + 1) n ∙ ap (λ x. range_with_len (a + 1) n ++ x ∷ []) z)

pub range_more : (n : ℕ) → range_with_len 0 (n + 1) ≡ range_with_len 0 n ++ n ∷ []
range_more n = rw add-one (let z : 0 + n ≡ n = omega arith in range_with_len-suc 0 n ∙ ap (λ x. range_with_len 0 n ++ x ∷ []) z)

-- the count goes on at the next number
pub count_more : (p : ℕ → Bool) (n : ℕ) → count_by p (range_with_len 0 (n + 1)) ≡ count_by p (range_with_len 0 n) + cond (p n) 1 0
count_more p n = omega (arith, ap (count_by p) (range_more n), sum_by-append (λ x. cond (p x) 1 0) (range_with_len 0 n) (n ∷ []))

-- and that is one more where the number passes the test, and else none
pub count_more_yes : (p : ℕ → Bool) (n r : ℕ) → r ≡ count_by p (range_with_len 0 n) → p n ≡ true → r + 1 ≡ count_by p (range_with_len 0 (n + 1))
count_more_yes p n r e h = let one : cond {A = ℕ} (p n) 1 0 ≡ 1 = rw h in omega (arith, one, count_more p n)

pub count_more_no : (p : ℕ → Bool) (n r : ℕ) → r ≡ count_by p (range_with_len 0 n) → p n ≡ false → r ≡ count_by p (range_with_len 0 (n + 1))
count_more_no p n r e h = let none : cond {A = ℕ} (p n) 1 0 ≡ 0 = rw h in omega (arith, none, count_more p n)

-- no more numbers are counted than there are
pub count_fits : (p : ℕ → Bool) (n : ℕ) → count_by p (range_with_len 0 n) ≤ n
count_fits p n = omega (arith, count_by-le-length p (range_with_len 0 n), length-range_with_len 0 n)

-- the last piece is that of the last number
pub last_piece : (f : ℕ → List ℕ) (n : ℕ) → flat_map f (range_with_len 0 n) ++ f n ≡ flat_map f (range_with_len 0 (n + 1))
last_piece f n =
    let split : flat_map f (range_with_len 0 (n + 1)) ≡ flat_map f (range_with_len 0 n) ++ flat_map f (n ∷ []) = ap (flat_map f) (range_more n) ∙ flat_map-append f (range_with_len 0 n) (n ∷ []) in
    let one : flat_map f (n ∷ []) ≡ f n = append-nil (f n) in
    cc

-- the text goes on with the piece of the next number
pub pieces_more : (f : ℕ → List ℕ) (head : List ℕ) (n : ℕ) → (head ++ flat_map f (range_with_len 0 n)) ++ f n ≡ head ++ flat_map f (range_with_len 0 (n + 1))
pieces_more f head n =
    append_assoc head (flat_map f (range_with_len 0 n)) (f n) ∙ ap (λ r. head ++ r) (last_piece f n)

-- a node's line is written
pub line_more : (tree : ParentTree) (head text new : List ℕ) (i a b d : ℕ) → text ≡ head ++ flat_map (node_line tree) (range_with_len 0 i) → new ≡ text ++ line (a ∷ b ∷ d ∷ []) → a ≡ i → b ≡ parent tree i → d ≡ altitude tree i → new ≡ head ++ flat_map (node_line tree) (range_with_len 0 (i + 1))
line_more tree head text new i a b d so_far pushed number above high =
    let more = pieces_more (node_line tree) head i in
    cc
