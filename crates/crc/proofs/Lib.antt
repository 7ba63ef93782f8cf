pub mod Blocks
pub mod Shifts
pub mod Joined
