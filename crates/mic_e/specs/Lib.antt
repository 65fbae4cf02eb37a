pub mod Turn
pub mod Motion
pub mod Longitude
pub mod Message
pub mod Character
pub mod Destination
pub mod Information
pub mod Private
