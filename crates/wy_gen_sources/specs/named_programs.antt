-- what public contracts cite
pub mod NamedPrograms
