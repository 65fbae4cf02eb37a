pub mod Message
pub mod Status
