pub mod Accept
pub mod Lent
