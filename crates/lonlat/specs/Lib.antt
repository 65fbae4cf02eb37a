pub mod Angle
pub mod Digits
pub mod Latitude
pub mod Longitude
