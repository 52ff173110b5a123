-- What the contracts of the judge cite.
pub mod Admission
