-- The laws that belong to no one function: those of parts, blocks and items for whoever walks over a procedure, the others for the proofs
-- of this crate.
pub mod Answers
pub mod Blocks
mod Bytes
mod Eats
mod Parts
pub mod Puts
mod Stays
mod Walks
