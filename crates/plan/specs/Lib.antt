-- What the contracts of the plan cite.
pub mod Filling
pub mod Link
pub mod Plan
pub mod Rising
