pub mod Ends
pub mod EndingOperations
pub mod EndingExpressions
pub mod EndingTests
pub mod Uses
pub mod Levels
pub mod Answers
