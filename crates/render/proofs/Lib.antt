-- Why the entry points keep their promises.
pub mod RefusalOrder
pub mod AcceptedIsReady
pub mod PromisesKept
pub mod LayerViews
pub mod DrawCall
