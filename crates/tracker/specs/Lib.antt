pub mod Five
pub mod Row
