pub mod Body
pub mod Range
pub mod Written
