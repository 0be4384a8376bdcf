-- the text of a program, which the public contract cites
pub mod ProgramText
pub mod StmtText
pub mod ExprText
pub mod TypeText
-- what texts are made of
pub mod Levels
pub mod Pieces
