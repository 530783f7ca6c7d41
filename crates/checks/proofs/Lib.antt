-- Laws that the code's proofs cite, and what the checks establish.
pub mod AnswerLaws
pub mod Acceptance
