pub mod Choose
pub mod Tables
pub mod Bits
pub mod Xor
pub mod Linear
pub mod Digits
pub mod Parts
pub mod Cuts
