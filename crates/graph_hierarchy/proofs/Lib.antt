pub mod HierarchyLemmas
pub mod RootLemmas
