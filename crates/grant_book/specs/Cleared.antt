-- Files by their numbers.
use Rattle.std.specs.Prelude.{ℕ}
use Rattle.cry_base.specs.declared.ids.FileId.{FileId}

-- the number as a file's
abbrev pub as_file : ℕ → FileId
as_file x = record { 0 = x }
