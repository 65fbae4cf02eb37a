pub mod Reading
pub mod Parts
pub mod Status
pub mod Theorems
pub mod Writing
pub mod Cases
pub mod Unique
