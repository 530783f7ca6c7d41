-- Laws of a blur on a picture.
pub mod BlurBanded
pub mod RowsAsLanes
