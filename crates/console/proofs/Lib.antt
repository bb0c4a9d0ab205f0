pub mod Hexed
pub mod Offered
pub mod Opened
pub mod ToGo
