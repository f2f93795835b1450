pub mod Xor
pub mod Powers
pub mod Splice
pub mod Lists
