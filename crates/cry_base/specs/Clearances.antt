-- The numbers that grants and their notes give what is granted: a folder's number, or a file's clearance number.
-- This project's own, docs/FORMAT.md, "Notes and payloads".
use Rattle.std.specs.Prelude.{ℕ, ◌+◌, ◌-◌, Bool, nat_le, Option, Some, None, if◌then◌else◌}

-- numbers from this one on are files' clearance numbers, numbers below it are folders
abbrev pub clear_base : ℕ
clear_base = 2147483648

-- the clearance number of a file
abbrev pub clear_number : ℕ → ℕ
clear_number x = clear_base + x

-- whether the number is a file's clearance number
abbrev pub is_clear_number : ℕ → Bool
is_clear_number f = nat_le clear_base f

-- the file that has the clearance number: none where the number is a folder's
abbrev pub file_of : ℕ → Option ℕ
file_of f = if is_clear_number f then Some (f - clear_base) else None
