pub mod Order
pub mod Right
pub mod Verdicts
pub mod StmtViews
pub mod Samples
