-- what a printed text is read as
pub mod RoundTrip
-- trees with their places aside
pub mod Bare
-- what a printed statement is read as
pub mod StatementRound
-- trees with their places aside
pub mod BareStmt
-- what the text of a program spells
pub mod ReadAgain
-- programs with their places aside
pub mod BareProgram
