-- The laws that belong to no one function: `Readiness` and `ReachedBytes` for whoever is lent a state, the others for the proofs of this crate.
mod Listed
pub mod Readiness
pub mod ReachedBytes
mod RightCounts
mod Stands
mod StateBytes
