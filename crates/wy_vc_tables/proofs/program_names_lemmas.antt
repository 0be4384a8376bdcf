-- what numbers name
pub mod DescribedLemmas
