pub mod Tables
pub mod Digits
pub mod Xor
pub mod Laid
