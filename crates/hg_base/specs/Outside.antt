-- The outside of a run: what a read or a write did to a count of faults, and what sources and sinks in memory are.
use Rattle.std.specs.Prelude.{◌≡◌, ℕ, ◌+◌, ◌-◌, ◌^◌, ◌<◌, ◌≤◌, ◌⊎◌, min, List, length, take, Option, Result, MatchResult, Contains}
use Rattle.std.specs.Io.KnownBytes.{Appends}

-- a count rose, or it stands at the end of its type, where it can't rise
abbrev pub Rose : ℕ → ℕ → Type 0
Rose before after = (before < after) ⊎ ((before ≡ 2 ^ 64 - 1) × (after ≡ 2 ^ 64 - 1))

-- a call that went well left the count of faults as it was, and one that failed made it rise
abbrev pub HasCause : {T E : Type 0} → ℕ → ℕ → Result T E → Type 0
HasCause before after r = MatchResult r (λ _. after ≡ before) (λ _. Rose before after)

-- known bytes grew by some of the first of `bytes`: by none of them, by all, or by any number between
abbrev pub AppendsPrefix : Option (List ℕ) → Option (List ℕ) → List ℕ → Type 0
AppendsPrefix old new bytes = (n : ℕ) × (n ≤ length bytes) × Appends old new (take n bytes)

-- one more, or the same at the end of the type
abbrev pub raised : ℕ → ℕ
raised count = min (count + 1) (2 ^ 64 - 1)

-- the calls of a source or a sink in memory: the numbers of those that are to fail, how many were made, and how many failed
pub record CallCount : Type 0 where
  pub fails : List ℕ
  pub made : ℕ
  pub faults : ℕ

-- no call was made yet; those with these numbers, from 1, are to fail
abbrev pub first_calls : List ℕ → CallCount
first_calls fails = record { fails = fails; made = 0; faults = 0 }

-- the next call is one of those that are to fail
abbrev pub NextFails : CallCount → Type 0
NextFails calls = Contains calls.fails (raised calls.made)

-- after one more call that went well
abbrev pub served : CallCount → CallCount
served calls = record calls { made = raised calls.made }

-- after one more call that failed
abbrev pub failed : CallCount → CallCount
failed calls = record calls { made = raised calls.made; faults = raised calls.faults }

-- a source in memory: the bytes that are left, how many a read gives at most, and its calls
pub record Supply : Type 0 where
  pub left : List ℕ
  pub largest : ℕ
  pub calls : CallCount

-- a sink in memory: the bytes that it took, how many it takes in all and in one write, and its calls
pub record Store : Type 0 where
  pub content : List ℕ
  pub room : ℕ
  pub largest : ℕ
  pub calls : CallCount

-- a reader or a writer of std, and how many of its calls failed
pub record Counted (X : Type 0) : Type 0 where
  pub inner : X
  pub faults : ℕ
