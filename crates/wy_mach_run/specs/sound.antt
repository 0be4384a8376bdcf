-- what public contracts cite
pub mod Results
pub mod Runs
