-- What the program `sheet` prints: digits, lines, examples; and what the printing functions pass on (Code).
pub mod Digits
pub mod Output
pub mod Examples
pub mod Code
