-- Keys: the weight and the number of an edge in one number.
use Rattle.std.specs.Prelude.{ℕ, ◌/◌, ◌%◌, ◌^◌}
use Rattle.edge_order.specs.declared.key.Key.{Key}

-- the weight and the number that a key holds
abbrev pub unpacked : Key → ℕ × ℕ
unpacked k = (k.packed / 2 ^ 32, k.packed % 2 ^ 32)
