pub mod Parts
pub mod Cuts
pub mod Puts
pub mod Verdict
