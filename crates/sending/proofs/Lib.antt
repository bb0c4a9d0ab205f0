pub mod Seals
pub mod Varints
pub mod Senders
