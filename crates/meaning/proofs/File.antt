-- The file: its trailer, node records, repeats and refusals.
pub mod Files
pub mod EventNodes
pub mod Ranks
pub mod Trailer
pub mod Refusals
pub mod FreeText
