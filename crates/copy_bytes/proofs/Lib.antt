pub mod CopyBytes
pub mod Ids
pub mod Outputs
pub mod Places
pub mod RoundTrips
