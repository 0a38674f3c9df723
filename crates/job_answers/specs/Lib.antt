pub mod LineAnswers
pub mod AnswerLaws
