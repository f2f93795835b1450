pub mod Bytes
pub mod Cases
pub mod Prefix
pub mod Turns
