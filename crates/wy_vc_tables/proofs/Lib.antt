-- what record types stand for
pub mod SeenLemmas
-- the names that types and expressions mention
pub mod MentionLemmas
-- what numbers of expressions leave the same
pub mod NumberedLemmas
-- what is told of entries is told of named types
pub mod EntryLemmas
-- the tables are those of the program
pub mod TableLemmas
pub mod program_names_lemmas
pub mod sizes_lemmas
