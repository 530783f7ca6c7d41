-- Laws of what is printed. ReadBack is for a writer.
pub mod PutTexts
pub mod DecimalDigits
pub mod PrintedRows
pub mod ReadBack
