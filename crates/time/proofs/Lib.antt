pub mod Tests
pub mod Digits
pub mod Reading
pub mod Writing
pub mod Theorems
pub mod Cases
pub mod Unique
