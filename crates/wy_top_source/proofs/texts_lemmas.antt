-- texts of what was read
pub mod TextLemmas
-- layouts that are read again
pub mod AgainLemmas
