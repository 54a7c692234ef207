pub mod Lanes
pub mod Bytes
pub mod Held
pub mod RowsBack
pub mod ElemLaws
