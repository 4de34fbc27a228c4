-- The numbers that put a grant in its place.
use Rattle.std.specs.Prelude.{ℕ, ◌+◌, ◌*◌}
use Rattle.cry_base.specs.Store.{GrantEntry}

-- by holder, and then by folder, where folders' numbers are below 2^32
abbrev pub rank_of : GrantEntry → ℕ
rank_of e = e.holder * 4294967296 + e.folder

-- by folder, and then by holder, where holders' numbers are below 2^32
abbrev pub rank_on : GrantEntry → ℕ
rank_on e = e.folder * 4294967296 + e.holder
