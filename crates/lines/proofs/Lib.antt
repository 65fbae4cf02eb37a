pub mod Bare
pub mod Parts
pub mod Lines
pub mod Walk
pub mod Theorems
pub mod Unique
