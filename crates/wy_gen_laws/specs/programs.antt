-- what public contracts cite
pub mod Programs
