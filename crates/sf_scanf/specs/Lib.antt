-- what a count of records is said by, in a contract over this crate alone
pub use Rattle.sf_loops.specs.Counts
pub use Rattle.sf_read.specs.field.Rows
pub use Rattle.sf_format.specs.declared.directive
