-- one walk behind another
pub mod MoveLemmas
-- paths and ends, as terms grow
pub mod EndLemmas
-- statements one after the other
pub mod FlowLemmas
-- statements that hold no others
pub mod SimpleLemmas
-- the sides of a branch
pub mod BranchLemmas
-- the head and the end of a loop
pub mod HeadLemmas
-- the forms of statements
pub mod FormLemmas
-- statements by their forms
pub mod CycleLemmas
-- what is known where contracts and bodies begin
pub mod EntryLemmas
-- what types and contracts owe
pub mod OwingLemmas
-- what bodies owe
pub mod BodyLemmas
-- one declaration after the other
pub mod DeclarationLemmas
-- numbers among numbers, and terms among terms
pub mod AmongLemmas
-- how many different terms there are
pub mod CountLemmas
-- the list
pub mod SharedLemmas
-- tests of named types
pub mod TestedLemmas
-- hypotheses that stand
pub mod StandingLemmas
-- marks of numbers
pub mod MarkLemmas
-- which named types are mentioned
pub mod MentionedLemmas
-- what tests of named types stand for
pub mod MeaningLemmas
-- goals with what their tests stand for
pub mod ToldLemmas
-- how many different terms there are
pub mod DifferentLemmas
-- the terms that were seen
pub mod SeenLemmas
-- numbers among flow types
pub mod NumberLemmas
-- the list of a program
pub mod ConditionLemmas
