pub mod Each
pub mod Lists
pub mod Search
