-- The status octet of each way in which a command ends; 0 is success. Document 01, Commands. Assumes nothing.
use Rattle.std.specs.Prelude.{ℕ, Result, Ok, Err}
use Rattle.statuses.specs.declared.Status.{Status}
use Rattle.statuses.specs.declared.Status.TheVariants.{Unknown, Full, Disallowed, Invalid}

abbrev pub code : Status → ℕ
code Unknown = 0x01
code Full = 0x07
code Disallowed = 0x0C
code Invalid = 0x12

abbrev pub status_of : Result Unit Status → ℕ
status_of (Ok u) = 0
status_of (Err e) = code e
