pub mod Arguments
pub mod Codes
pub mod Given
pub mod Handle
pub mod Held
pub mod Lent
pub mod Questions
