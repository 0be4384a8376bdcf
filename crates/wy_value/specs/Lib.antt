-- data, values, and the table of shapes
pub mod Datum
pub mod Seen
pub mod Values
pub mod Shapes
-- argument texts: their grammar, and what reading them promises
pub mod Characters
pub mod Numbers
pub mod Grammar
pub mod ArgumentText
pub mod Shown
-- the readers, which functions inside owe each other
pub mod Reading
-- passed on to the crates above
pub use Rattle.wy_data.specs as wy_data
pub use Rattle.wy_reading.specs.wy_items as wy_items
