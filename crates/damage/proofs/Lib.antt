-- Laws that the code's proofs cite, and the loop that works the rectangles out one after another.
pub mod RectLaws
pub mod StepLaws
pub mod DamagesSoFar
