pub mod Numbers
pub mod Records
pub mod Writing
pub mod Theorems
pub mod Unique
