-- Errors, and what follows where there is none.
pub use Rattle.sst_base.specs.Header.{◌>>=◌}
pub use Rattle.sst_base.specs.declared.error.Error.{Error}
pub use Rattle.sst_base.specs.declared.error.Error.TheVariants.{InvalidHeader, InvalidTag, BadTrailer, BadEntry, BadIndex, BadHashIndex, BadFilter, BadHandle, OutOfOrder, Truncated, ChecksumMismatch, LengthMismatch, TooLong, Io, Memory}
