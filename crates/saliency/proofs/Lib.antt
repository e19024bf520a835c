pub mod TopLemmas
pub mod KeyLemmas
pub mod ValueLemmas
pub mod RootLemmas
