-- Energies and their sums are small.
use Rattle.std.proofs.Common.{◌≡◌, ℕ, ◌+◌, ◌*◌, ◌<◌, ◌≤◌, ◌^◌, sym, subst, ap, arith, List, [], ◌∷◌, ◌++◌, length, get_or, take, map, All, inl, inr}
use Rattle.std.specs.List.{range_with_len}
use Rattle.std.proofs.lemmas.Bool.{cases_lt}
use Rattle.std.proofs.lemmas.List.{get_or_past}
use Rattle.std.proofs.lemmas.List.FromFn.{length-map-range_with_len, get_or-map-range_with_len, map-range_with_len_more}
use Rattle.std.proofs.lemmas.List.Sums.{sum_by-le, sum_by_more}
use Rattle.std.proofs.lemmas.Nat.{mul-le}
use Rattle.std.proofs.Math.Nat.{mul-le-mul_right}
use Rattle.tree_laws.specs.Tree.{ParentTree, altitude}
use Rattle.hg_base.proofs.Passing.{length-passing, count_below-most}
use Rattle.partition_tree.specs.TreeLists.{nodes, IsWellFormed}
use Rattle.energy_cut.specs.Cuts.{IsCut, cut_energy}
use Rattle.energy_cut.specs.Energies.{node_energy, energies_of}
use Rattle.energy_cut.proofs.ListMembers.{has, rising-passing}
use Rattle.energy_cut.proofs.HighestKeepers.{value, cut-within}

-- a bound of all values bounds what stands past the end too
pub value-most : (xs : List ℕ) (b i : ℕ) → All (λ x. x ≤ b) xs → value xs i ≤ b
value-most xs b i all = elim (cases_lt i (length xs)) [
  | inl low ↦ all i 0 low
  | inr past ↦ let none' : value xs i ≡ 0 = get_or_past xs i 0 past in omega arith
]

pub value-below : (xs : List ℕ) → All (λ x. x < 2 ^ 65) xs → (i : ℕ) → value xs i < 2 ^ 65
value-below xs all i = elim (cases_lt i (length xs)) [
  | inl low ↦ all i 0 low
  | inr past ↦ let none' : value xs i ≡ 0 = get_or_past xs i 0 past in omega arith
]

-- an area times an altitude
pub size-small : (a k : ℕ) → a ≤ 2 ^ 32 → k < 2 ^ 32 → a * k ≤ 18446744069414584320
size-small a k few low =
    let product : a * k ≤ 4294967296 * 4294967295 = mul-le a k 4294967296 4294967295 few (omega arith) in
    omega arith

-- the energy of a node
pub energy-small : (t : ParentTree) (areas : List ℕ) (penalty i : ℕ) → All (λ a. a ≤ 2 ^ 32) areas → altitude t i < 2 ^ 32 → penalty < 2 ^ 64 → node_energy t areas penalty i < 2 ^ 65
energy-small t areas penalty i small low fits =
    let size : value areas i * altitude t i ≤ 18446744069414584320 = size-small (value areas i) (altitude t i) (value-most areas (2 ^ 32) i small) low in
    omega arith

pub energies-fit : (t : ParentTree) (areas : List ℕ) (penalty : ℕ) → All (λ a. a ≤ 2 ^ 32) areas → ((i : ℕ) → i < nodes t → altitude t i < 2 ^ 32) → penalty < 2 ^ 64 → All (λ e. e < 2 ^ 65) (energies_of t areas penalty)
energies-fit t areas penalty small low fits k d h =
    let in_tree : k < nodes t = (let long = length-map-range_with_len (node_energy t areas penalty) 0 (nodes t) in omega arith) in
    subst (λ (e : ℕ). e < 2 ^ 65) (sym (get_or-map-range_with_len (node_energy t areas penalty) 0 (nodes t) k k d in_tree (omega arith)))
    (energy-small t areas penalty k small (low k in_tree) fits)

-- the energies of so many nodes
pub few-fit : (energies : List ℕ) (c : List ℕ) → length c ≤ 2097151 → All (λ e. e < 2 ^ 65) energies → cut_energy energies c < 2 ^ 86
few-fit energies c few small =
    let bound : cut_energy energies c ≤ length c * 36893488147419103231 =
    sum_by-le (value energies) 36893488147419103231 c (λ k d h. (let one = value-below energies small (get_or c k d) in omega arith)) in
    let more : length c * 36893488147419103231 ≤ 2097151 * 36893488147419103231 = mul-le-mul_right 36893488147419103231 few in
    omega arith

-- those of a cut
pub cut-fits : (t : ParentTree) (energies c : List ℕ) → IsWellFormed t → All (λ e. e < 2 ^ 65) energies → IsCut t c → cut_energy energies c < 2 ^ 86
cut-fits t energies c f small k =
    let same = ap (λ (xs : List ℕ). length xs) (rising-passing (length t.parents) c k.rising (cut-within t f c k)) in
    let counted = length-passing (has c) (length t.parents) in
    let most = count_below-most (has c) (length t.parents) in
    let all : length t.parents ≤ 2097151 = f.small in
    few-fit energies c (omega arith) small

-- one more energy
pub sum_more : (energies c : List ℕ) (i sum : ℕ) → i < length c → sum ≡ cut_energy energies (take i c) → sum + value energies (value c i) ≡ cut_energy energies (take (i + 1) c)
sum_more energies c i sum h so_far = let more = sum_by_more (value energies) c i 0 h in omega arith
