pub mod NormLemmas
pub mod ItemLemmas
pub mod ValueLemmas
