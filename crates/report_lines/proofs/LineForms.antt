-- Lines that are made from the end to the front, and lists of lines.
use Rattle.std.proofs.Common.{◌≡◌, ℕ, zero, suc, ◌+◌, ◌-◌, ◌<◌, ◌≤◌, List, [], ◌∷◌, ◌++◌, length, get_or, drop, set, refl, sym, ap, ◌∙◌, arith, add-one, append_assoc, append-nil, drop-cons, length-append}
use Rattle.std.specs.Prelude.{decimal, Some}
use Rattle.std.specs.List.{flat_map}
use Rattle.std.proofs.lemmas.List.{drop-set}
use Rattle.std.proofs.Math.ListN.{drop_of_length-le}
use Rattle.std.proofs.Math.Seq.{take-append_seam}
use Rattle.hg_base.specs.Outside.{AppendsPrefix}
use Rattle.hg_base.specs.Text.{line, headed_line}
use Rattle.report_lines.specs.Lines.{lines_from, spaced}

-- a line is its numbers with a space before each, but for the first space
pub spaced_line : (n : ℕ) (ns : List ℕ) → decimal n ++ spaced ns ≡ line (n ∷ ns)
spaced_line n [] = refl
spaced_line n (m ∷ ms) = ap (λ (rest : List ℕ). decimal n ++ (32 ∷ rest)) (spaced_line m ms)

-- a line, without the space in front
pub line_from : (bytes ns : List ℕ) (start : ℕ) → 0 < length ns → drop start bytes ≡ spaced ns → drop (start + 1) bytes ≡ line ns
line_from bytes [] start some e = absurd (omega arith)
line_from bytes (n ∷ ns) start some e = rw add-one (later bytes start e)
  where
    later : (bytes : List ℕ) (start : ℕ) → drop start bytes ≡ 32 ∷ (decimal n ++ spaced ns) → drop (suc start) bytes ≡ line (n ∷ ns)
    later [] zero e = cc
    later [] (suc k) e = cc
    later (b ∷ bs) zero e = let t : bs ≡ decimal n ++ spaced ns = cc in t ∙ spaced_line n ns
    later (b ∷ bs) (suc k) e = later bs k e

-- a line with a word, which the first space parts from its numbers
pub headed_from : (word ns : List ℕ) → 0 < length ns → word ++ spaced ns ≡ headed_line word ns
headed_from word [] some = absurd (omega arith)
headed_from word (n ∷ ns) some = ap (λ (rest : List ℕ). word ++ (32 ∷ rest)) (spaced_line n ns)

-- one more number in front, k, and a space before it, at i
pub number_before : (bytes new ns : List ℕ) (start at left i k : ℕ) → i + 1 ≡ at → k + 1 ≡ left → left ≤ length ns → at ≤ length new → drop start bytes ≡ spaced (drop left ns)
    → drop at new ≡ decimal (get_or ns k 0) ++ drop start bytes → drop i (set new i 32) ≡ spaced (drop k ns)
number_before bytes new ns start at left i k next other within fits so_far written =
    let low : i < length new = omega arith in
    let here : k < length ns = omega arith in
    let behind : drop (i + 1) new ≡ decimal (get_or ns k 0) ++ spaced (drop left ns) = ap (λ (m : ℕ). drop m new) next ∙ written ∙ ap (λ (rest : List ℕ). decimal (get_or ns k 0) ++ rest) so_far in
    let more : suc k ≡ left = omega arith in
    let front : drop k ns ≡ get_or ns k 0 ∷ drop left ns = drop-cons ns k 0 here ∙ ap (λ (m : ℕ). get_or ns k 0 ∷ drop m ns) more in
    drop-set new i 32 low ∙ ap (λ (rest : List ℕ). 32 ∷ rest) behind ∙ ap spaced (sym front)

-- the line feed at the end
pub last_byte : (bytes ns : List ℕ) → length bytes ≡ 127 → drop 126 (set bytes 126 10) ≡ spaced (drop (length ns) ns)
last_byte bytes ns long =
    let within : 126 < length bytes = omega arith in
    let same : 127 ≡ length bytes = sym long in
    let none : drop 127 bytes ≡ [] = ap (λ (k : ℕ). drop k bytes) same ∙ drop_of_length-le bytes (omega arith) in
    drop-set bytes 126 10 within ∙ ap (λ (rest : List ℕ). 10 ∷ rest) none ∙ ap spaced (sym (drop_of_length-le ns (omega arith)))

-- the lines of two ranges, the second where the first one ends
pub lines_join : (f : ℕ → List ℕ) (a m n : ℕ) → lines_from f a m ++ lines_from f (a + m) n ≡ lines_from f a (m + n)
lines_join f a zero n =
    let z : a + 0 ≡ a = omega arith in
    let same : n ≡ 0 + n = omega arith in
    ap (λ (k : ℕ). lines_from f k n) z ∙ ap (λ (k : ℕ). lines_from f a k) same
lines_join f a (suc m) n =
    let z : a + suc m ≡ (a + 1) + m = omega arith in
    let same : suc (m + n) ≡ suc m + n = omega arith in
    append_assoc (f a) (lines_from f (a + 1) m) (lines_from f (a + suc m) n)
    ∙ ap (λ (k : ℕ). f a ++ (lines_from f (a + 1) m ++ lines_from f k n)) z
    ∙ ap (λ (rest : List ℕ). f a ++ rest) (lines_join f (a + 1) m n)
    ∙ ap (λ (k : ℕ). lines_from f a k) same

-- one more line
pub one_line_more : (f : ℕ → List ℕ) (text : List ℕ) (a i : ℕ) → a ≤ i → (text ++ lines_from f a (i - a)) ++ f i ≡ text ++ lines_from f a (i + 1 - a)
one_line_more f text a i low =
    let place : a + (i - a) ≡ i = omega arith in
    let more : (i - a) + 1 ≡ i + 1 - a = omega arith in
    append_assoc text (lines_from f a (i - a)) (f i)
    ∙ ap (λ (rest : List ℕ). text ++ rest)
    (ap (λ (last : List ℕ). lines_from f a (i - a) ++ last) (sym (append-nil (f i)))
    ∙ ap (λ (k : ℕ). lines_from f a (i - a) ++ lines_from f k 1) (sym place)
    ∙ lines_join f a (i - a) 1
    ∙ ap (λ (k : ℕ). lines_from f a k) more)

-- a word and its numbers, behind a text
pub headed_text : (old worded new word ns bytes : List ℕ) (start : ℕ) → 0 < length ns → worded ≡ old ++ word → drop start bytes ≡ spaced ns → new ≡ worded ++ drop start bytes → new ≡ old ++ headed_line word ns
headed_text old worded new word ns bytes start some first made second =
    second
    ∙ ap (λ (text : List ℕ). text ++ drop start bytes) first
    ∙ append_assoc old word (drop start bytes)
    ∙ ap (λ (rest : List ℕ). old ++ (word ++ rest)) made
    ∙ ap (λ (rest : List ℕ). old ++ rest) (headed_from word ns some)

-- the word alone is appended
pub word_appended : (old new word ns : List ℕ) → new ≡ old ++ word → AppendsPrefix (Some old) (Some new) (headed_line word ns)
word_appended old new word ns worded = (length word, omega (arith, length-append word (32 ∷ line ns)), worded ∙ ap (λ (text : List ℕ). old ++ text) (sym (take-append_seam word (32 ∷ line ns))))

-- the lines of the elements of a list, from an index on
lines_from_index : (f : ℕ → List ℕ) (xs : List ℕ) (a n : ℕ) → a + n ≡ length xs → lines_from (λ i. f (get_or xs i 0)) a n ≡ flat_map f (drop a xs)
lines_from_index f xs a zero all = let none : drop a xs ≡ [] = drop_of_length-le xs (omega arith) in ap (flat_map f) (sym none)
lines_from_index f xs a (suc n) all =
    let within : a < length xs = omega arith in
    let next : drop (a + 1) xs ≡ drop (suc a) xs = rw add-one in
    ap (λ (rest : List ℕ). f (get_or xs a 0) ++ rest) (lines_from_index f xs (a + 1) n (omega arith) ∙ ap (flat_map f) next) ∙ ap (flat_map f) (sym (drop-cons xs a 0 within))

-- the lines of the elements of a list
pub lines_of_list : (f : ℕ → List ℕ) (xs : List ℕ) → lines_from (λ i. f (get_or xs i 0)) 0 (length xs) ≡ flat_map f xs
lines_of_list f xs = lines_from_index f xs 0 (length xs) (omega arith)
