pub mod Bytes
pub mod Choices
pub mod Fast
pub mod Joins
pub mod Passes
pub mod Raises
pub mod Steps
pub mod Ordering
