pub mod Asking
pub mod HandleValues
pub mod Replies
pub mod Values
