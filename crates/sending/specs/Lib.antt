pub mod Numbers
pub mod Sender
