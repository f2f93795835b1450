pub mod Constants
pub mod Element
pub mod Limits
pub mod Character
pub mod Refusals
