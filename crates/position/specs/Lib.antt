pub mod Reach
pub mod Position
pub mod Bounds
pub mod Page
pub mod Private
