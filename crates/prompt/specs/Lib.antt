-- What the contracts of the prompt cite.
pub mod Near
