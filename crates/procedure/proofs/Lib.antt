-- The laws that belong to no one function: for whoever stands above the file, and, where they are not `pub`, for the proofs of this
-- crate.
pub mod Counting
pub mod Deciding
pub mod Empties
pub mod Limits
pub mod Nodes
mod Openings
pub mod Orders
mod Records
pub mod Standing
