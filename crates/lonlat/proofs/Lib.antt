pub mod Angle
pub mod Digits
pub mod Reading
pub mod Writing
pub mod Cut
pub mod Texts
pub mod Theorems
pub mod Unique
