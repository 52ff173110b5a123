-- What the contracts on runs cite.
pub mod Run
pub mod Batch
