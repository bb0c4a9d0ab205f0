pub mod Merges
pub mod Walking
