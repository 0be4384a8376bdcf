-- what public contracts cite
pub mod SortKept
