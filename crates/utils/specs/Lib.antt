pub mod Packed
pub mod Common
