pub mod Exact
pub mod Prefixes
pub mod Evidence
