pub mod RankLemmas
pub mod SizeLemmas
pub mod FallLemmas
pub mod PartLemmas
