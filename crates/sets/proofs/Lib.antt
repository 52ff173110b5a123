-- The laws that belong to no one function: `Tables` for whoever reads the sets, the others for the proofs of this crate.
mod Clashing
mod Joining
mod Leaves
mod Lowest
mod Passing
mod Standing
pub mod Tables
