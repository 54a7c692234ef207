pub mod Signs
pub mod Grammar
pub mod reader
