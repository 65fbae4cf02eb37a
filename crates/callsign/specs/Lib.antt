pub mod Utf8
pub mod Text
pub mod Range
pub mod Address
pub mod Packed
