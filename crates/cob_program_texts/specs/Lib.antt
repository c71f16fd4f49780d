pub mod CheckEnds
pub mod DraftEnds
pub mod Answers
pub mod LosslessEnds
