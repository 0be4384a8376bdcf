-- by topic
pub mod Equations
pub mod Choices
pub mod Options
pub mod Numbers
pub mod Lists
