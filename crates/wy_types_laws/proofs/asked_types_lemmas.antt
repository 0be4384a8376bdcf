-- the names of records through tables and back
pub mod TableLemmas
-- a name that is longer than given ones
pub mod FreshLemmas
-- values for what a narrow question reaches
pub mod KnownLemmas
-- an item of some array in a part
pub mod ItemLemmas
-- fields of values
pub mod FieldLemmas
-- a value in one type and not in another
pub mod ShownLemmas
