-- This project's own, docs/FORMAT.md: how large a store may grow.
use Rattle.std.specs.Prelude.{ℕ, Option, Some, None, ◌==◌, if◌then◌else◌}
use Rattle.cry_base.specs.declared.limits.Limits.{Limits}

-- the most bytes that a store file may have
abbrev pub most_store_bytes : ℕ
most_store_bytes = 1073741824

-- the most bytes that a store file of version 1 may have
abbrev pub most_first_bytes : ℕ
most_first_bytes = 268435456

-- the most bytes that one file in it may have
abbrev pub most_file_bytes : ℕ
most_file_bytes = 1048576

-- the most bytes that a name may have
abbrev pub most_name_bytes : ℕ
most_name_bytes = 64

-- the most names that a node may stand below the root
abbrev pub most_depth : ℕ
most_depth = 64

-- the most folders on a way up from a folder: itself, those above it, and the root
abbrev pub most_way : ℕ
most_way = 65

-- for how many folders a way up is followed: one more than it may have
abbrev pub way_turns : ℕ
way_turns = 66

-- the most bytes of a file's text: the length of its name, its name, and its bytes
abbrev pub most_text_bytes : ℕ
most_text_bytes = 1048641

-- the limits of a version
abbrev pub limits_of_version : ℕ → Option Limits
limits_of_version version =
    if version == 1 then Some (record { store_bytes = most_first_bytes; file_bytes = most_file_bytes })
    else if version == 2 then Some (record { store_bytes = most_store_bytes; file_bytes = most_file_bytes })
    else None
