pub mod AnswerBytes
pub mod Sizes
pub mod WritingLemmas
pub mod ReadingLemmas
pub mod Places
