-- What the contracts on files and nodes cite.
pub mod Bounds
pub mod Entry
pub mod Tests
pub mod Listing
pub mod Order
pub mod Records
pub mod Repeats
pub mod Opening
