-- The bench cases, and four errors that look right.
pub mod Bench
pub mod Errors
