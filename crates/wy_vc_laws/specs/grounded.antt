-- what public contracts cite
pub mod Grounds
-- what lemmas speak of
pub mod Uses
