pub mod Laws
pub mod Merging
pub mod Numbers
pub mod Taking
