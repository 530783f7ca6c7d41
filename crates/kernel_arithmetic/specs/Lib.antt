-- What a step's table holds, and what the code works out on the way.
pub mod Tables
pub mod Code
