mod AnswerLemmas
pub mod Escaping
pub mod Finding
pub mod Floats
pub mod Numbers
pub mod OneAnswer
pub mod Places
pub mod PrintAnswering
pub mod Reading
pub mod Readings
pub mod Suiting
pub mod WordRows
