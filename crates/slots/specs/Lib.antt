pub mod Words
pub mod Middle
