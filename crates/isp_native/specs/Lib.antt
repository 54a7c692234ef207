pub mod Words
pub mod Lines
pub mod Forms
pub mod Text
pub mod reader
