pub mod Runs
pub mod Demand3
pub mod States
pub mod EndToEnd
pub mod Outcomes
