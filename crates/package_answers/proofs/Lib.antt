pub mod Outcomes
pub mod PackagePlaces
pub mod ReferencePlaces
pub mod Reasons
pub mod OneErrors
