pub mod Rows
pub mod Takes
