-- what public contracts cite
pub mod EachFact
-- what public contracts cite
pub mod Grammar
pub mod Faults
-- what public contracts cite
pub mod Writable
-- what public contracts cite
pub mod RealExamples
