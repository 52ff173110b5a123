-- Places and spots: steps between them, what comes before and after, and the ways of our code.
pub mod Marks
pub mod Steps
pub mod Trails
pub mod Before
pub mod Directly
pub mod Spots
pub mod Ways
pub mod Loosened
