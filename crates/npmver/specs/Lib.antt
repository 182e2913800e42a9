pub mod Question
pub mod Reported
