-- What plain numbers stand for in the exported names.
pub mod PlainNumbers
