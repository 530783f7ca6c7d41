-- Laws of the numbers in hex, and of what a buffer holds.
pub mod HexDigits
pub mod SumsAndZeros
