-- parts of types, each in a list
pub mod Parts
