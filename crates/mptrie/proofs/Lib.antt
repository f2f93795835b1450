pub mod Arrival
pub mod Prefixes
pub mod Stroll
