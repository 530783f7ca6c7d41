-- Fields read one after another, bytes stored, and the kind of a line.
pub mod FieldsGathered
pub mod StoredBytes
pub mod KindsGiven
