-- Counting numbers below a bound, the least members of classes, and functions that are one to one.
use Rattle.std.specs.Prelude.{◌≡◌, ◌==◌, ℕ, zero, suc, ◌+◌, ◌<◌, Bool, if◌then◌else◌}

-- how many numbers below n pass the test
abbrev pub count_below : (ℕ → Bool) → ℕ → ℕ
count_below p zero = 0
count_below p (suc n) = count_below p n + (if p n then 1 else 0)

-- no lesser number is the same as x by the test
abbrev pub is_least : (ℕ → ℕ → Bool) → ℕ → Bool
is_least r x = count_below (r x) x == 0

-- no two numbers below n have one value
abbrev pub IsOneToOne : ℕ → (ℕ → ℕ) → Type 0
IsOneToOne n f = (x y : ℕ) → x < n → y < n → f x ≡ f y → x ≡ y
