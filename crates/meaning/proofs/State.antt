-- The state that a run reaches, its bytes, and how the run goes on from there.
pub mod Stays
pub mod States
pub mod Continue
pub mod Runs
pub mod StateBytes
