pub mod OneRecord
pub mod RecordName
pub mod Refusals
pub mod Laws
