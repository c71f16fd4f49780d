pub mod Texts
pub mod Trees
pub mod Storages
pub mod Books
pub mod Bytes
pub mod Ones
pub mod NoRule
pub use Rattle.cob_copybook_entries.proofs.NoRule as EntryNoRule
pub use Rattle.cob_copybook_entries.proofs.Numbers as EntryNumbers
pub use Rattle.cob_copybook_entries.proofs.OneList as EntryOneList
