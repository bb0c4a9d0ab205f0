pub mod Frame
pub mod Numbers
pub mod Seal
pub mod Varint
