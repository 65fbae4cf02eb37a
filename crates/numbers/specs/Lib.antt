pub mod Sign
pub mod Numbers
