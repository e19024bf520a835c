-- The regions of a cut of a tree, and the cut of least energy with its regions.
use Rattle.std.specs.Prelude.{ℕ, Bool, ◌&&◌, List}
use Rattle.std.specs.List.{list_any}
use Rattle.hg_base.specs.Labels.{Labelling, labelling}
use Rattle.tree_laws.specs.Tree.{ParentTree}
use Rattle.tree_laws.specs.Levels.{is_above}
use Rattle.energy_cut.specs.Cuts.{cut_energy, least_cut_of}

-- a node of the cut is above both leaves
abbrev pub in_one_region : ParentTree → List ℕ → ℕ → ℕ → Bool
in_one_region t c x y = list_any (λ i. is_above t i x && is_above t i y) c

-- a cut as contracts see it: its nodes, rising, the labels of the vertices by region, and its energy
pub record RegionCut : Type 0 where
  pub nodes : List ℕ
  pub labels : Labelling
  pub sum : ℕ

-- a cut with its regions, labelled by least vertex, and its energy
abbrev pub region_cut : ParentTree → List ℕ → List ℕ → RegionCut
region_cut t energies c = record { nodes = c; labels = labelling (in_one_region t c) t.leaves; sum = cut_energy energies c }

-- the least cut of a tree for these energies, with its regions and its energy
abbrev pub energy_cut_of : ParentTree → List ℕ → RegionCut
energy_cut_of t energies = region_cut t energies (least_cut_of t energies)
