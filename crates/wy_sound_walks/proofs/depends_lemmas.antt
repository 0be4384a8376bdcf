pub mod MadeLemmas
pub mod TypeLemmas
pub mod ValueLemmas
pub mod NamedLemmas
pub mod WalkLemmas
pub mod BeginLemmas
pub mod BlockLemmas
