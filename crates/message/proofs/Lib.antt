pub mod Frames
pub mod LaidOut
pub mod Varints
