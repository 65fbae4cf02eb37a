pub mod Theorems
pub mod Fits
pub mod Rows
pub mod Calls
pub mod Unique
