-- the code of tests of types, of operands, of expressions, of statements, and of programs
pub mod TypeTests
pub mod Operands
pub mod Expressions
pub mod Straight
pub mod Statements
pub mod Programs
pub mod Examples
-- what its numbers name
pub mod Ranges
pub mod Fields
