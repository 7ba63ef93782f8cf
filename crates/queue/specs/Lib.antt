pub mod Ring
pub mod Place
pub mod Room
pub mod Queue
