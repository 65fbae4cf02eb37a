pub mod Wrote
pub mod Filled
