-- What the fields of a table's line say, and what a printed line says of a buffer.
pub mod Hex
pub mod Content
