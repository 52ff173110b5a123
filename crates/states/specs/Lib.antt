-- What the contracts of a state cite.
pub mod Standing
pub mod StateBytes
