-- What the contracts on first, after and the lowest conflict cite.
pub mod Lowest
pub mod Sets
pub mod Tables
