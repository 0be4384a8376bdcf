-- more variables in scope
pub mod MoveLemmas
-- an order of declared types
pub mod RankLemmas
pub mod SharedLemmas
