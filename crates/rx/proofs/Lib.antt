pub mod Ages
pub mod InMiddle
pub mod Judging
pub mod Parts
pub mod Saved
pub mod Tied
