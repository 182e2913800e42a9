pub mod Locking
pub mod PackagesAllowed
pub mod ReadAgain
pub mod ReferencesAllowed
pub mod TextsAllowed
