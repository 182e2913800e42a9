pub mod Errors
pub mod Names
pub mod Packages
pub mod References
pub mod Specifiers
