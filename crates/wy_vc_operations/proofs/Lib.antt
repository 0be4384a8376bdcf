-- lists of terms that grow
pub mod GrowingLemmas
-- terms of variables
pub mod SlotLemmas
