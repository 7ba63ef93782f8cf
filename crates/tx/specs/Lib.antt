pub mod Fits
pub mod Send
