-- Texts at the places of their jobs.
use Rattle.std.specs.Prelude.{ℕ, List, map, Vec}
use Rattle.std.specs.declared.alloc.Global.{Global}

-- the bytes of each text
abbrev pub bytes_of_texts : List (Vec ℕ Global) → List (List ℕ)
bytes_of_texts texts = map (λ (t : Vec ℕ Global). t.items) texts
