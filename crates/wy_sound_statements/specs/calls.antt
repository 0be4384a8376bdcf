-- what public contracts cite
pub mod CallLaws
pub mod PrintLaws
