pub mod Time
pub mod Private
