-- Laws of rows that are drawn.
pub mod ShiftedRows
pub mod StackedRows
pub mod KindlessShapes
