pub mod Record
pub mod Packet
pub mod Outer
pub mod Range
pub mod Written
pub mod Private
