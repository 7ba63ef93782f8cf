pub mod Five
pub mod Row
pub mod Laws
