-- what the functions owe
pub mod PutLemmas
pub mod SeenLemmas
pub mod WalkLemmas
-- events in order, and what a path of uses is
pub mod EventLemmas
mod CalmLemmas
-- what may be without a value
mod MarkLemmas
mod FlowLemmas
mod LoopLemmas
mod TellsLemmas
-- the least place of a use
mod LeastLemmas
mod UseLemmas
pub mod BadLemmas
mod FaultLemmas
-- the answer
pub mod ProgramLemmas
