-- refusals are want of memory or not
pub mod MemoryLemmas
-- one core, or one refusal before it
pub mod CoreLemmas
-- one program, or one refusal behind its core
pub mod ProgramLemmas
-- one core
pub mod OneLemmas
-- and no refusal
pub mod ApartLemmas
pub mod texts_lemmas
