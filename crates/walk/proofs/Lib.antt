pub mod Elements
pub mod Matches
pub mod Offences
pub mod Scans
pub mod Short
pub mod Tails
