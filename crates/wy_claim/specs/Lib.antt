-- what contracts see of a counter and its seats, and what holds in every schedule
pub mod Claimed
pub mod Schedule
pub mod Seats
pub mod Moments
-- how functions inside keep it
pub mod Steps
pub mod Inside
