pub mod JobAnswers
pub mod JobData
pub mod Jobs
pub mod Marks
pub mod Parts
pub mod Printed
pub mod CommandEnds
