-- What stands here is no promise: models and notions that contracts of other crates and the proofs cite.
pub mod Places
pub mod Spots
pub mod Ways
pub mod Near
pub mod Counts
pub mod Runs
pub mod Conflicts
