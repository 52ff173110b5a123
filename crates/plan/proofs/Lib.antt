-- The laws that belong to no one function.
pub mod Tests
pub mod Beginnings
mod Downward
pub mod Whole
pub mod Links
