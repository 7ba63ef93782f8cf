pub mod Runs
pub mod EndToEnd
pub mod States
