pub mod ItemLemmas
pub mod ValueLemmas
