-- Laws of what is drawn.
pub mod RowsFit
pub mod StandingPictures
pub mod ShownInputs
pub mod Seen
pub mod DrawnRows
pub mod DrawnAgrees
pub mod RowStarts
pub mod LoadedRows
pub mod PatchCut
pub mod KernelRows
pub mod WorkAgrees
pub mod AfterDrawing
pub mod FirstLayers
