pub mod Lookups
pub mod Orders
