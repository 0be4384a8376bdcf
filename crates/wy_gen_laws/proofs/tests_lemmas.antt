-- one node of a type
pub mod StructureLemmas
pub mod ItemLemmas
pub mod FieldLemmas
-- declared types
pub mod ClauseLemmas
pub mod NameLemmas
pub mod AskedLemmas
pub mod RoutineLemmas
-- programs
pub mod TestLemmas
