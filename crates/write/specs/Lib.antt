-- What the contracts of Write cite.
pub mod Lay
