pub mod Allowance
pub mod ImportMap
pub mod Lockfile
pub mod Packages
pub mod References
pub mod Releasing
pub mod Stored
