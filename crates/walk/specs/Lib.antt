pub mod Walk
pub mod Tail
pub mod Query
