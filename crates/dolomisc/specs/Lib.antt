pub mod Flat
pub mod Doors
pub mod Received
