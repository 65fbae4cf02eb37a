pub mod Hop
pub mod Header
pub mod Text
pub mod Frame
pub mod Range
pub mod Private
pub mod Pieces
