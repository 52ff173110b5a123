-- What the contracts on sets of codes cite.
pub mod Codes
