-- which values are large
pub mod Large
-- when a register is live at a place of code
pub mod Alive
-- code that keeps nothing dead, whatever it holds
pub mod Safe
-- what is asked of expressions and statements
pub mod Fitting
-- the law on programs
pub mod Dead
