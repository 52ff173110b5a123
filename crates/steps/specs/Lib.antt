-- What the contracts of the step cite.
pub mod Climb
pub mod Counts
pub mod Step
