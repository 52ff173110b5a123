-- The laws that belong to no one function.
mod Tests
mod Counting
mod Climbing
mod Stepping
