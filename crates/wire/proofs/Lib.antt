pub mod Addressed
pub mod Ceil
