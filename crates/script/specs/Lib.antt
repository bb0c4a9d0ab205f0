pub mod Commands
pub mod Script
pub mod Verbs
pub mod Words
