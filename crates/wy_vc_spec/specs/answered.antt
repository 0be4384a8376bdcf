-- what public contracts cite
pub mod Answered
