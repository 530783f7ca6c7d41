-- Rows in scratch, and lines of them.
pub mod RowsRead
pub mod StagedRows
pub mod ConvolvedRows
