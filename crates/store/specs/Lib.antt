pub mod Joining
pub mod Keys
pub mod Lasting
pub mod Laws
pub mod Maps
pub mod Meaning
pub mod Numbers
pub mod Sightings
