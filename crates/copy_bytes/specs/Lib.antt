pub mod CopyBytes
pub mod Laws
pub mod Numbers
pub mod Output
pub mod Placed
