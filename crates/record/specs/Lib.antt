-- What the contracts on records cite.
pub mod Put
pub mod Walk
