-- the head of a loop
pub mod Heads
