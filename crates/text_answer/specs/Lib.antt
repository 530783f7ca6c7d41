-- What the program `sheet` prints for a text, with examples; and what its own functions pass on (Code).
pub mod Answer
pub mod Examples
pub mod Code
pub mod Earlier
