pub mod Sign
pub mod Digits
pub mod Numbers
pub mod Counts
pub mod Hex
pub mod Theorems
pub mod Unique
