pub mod Beginnings
pub mod Cuts
pub mod Hex
pub mod Ids
pub mod Numbers
pub mod Spaces
