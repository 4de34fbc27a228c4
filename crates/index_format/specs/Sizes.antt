-- How many bytes each spelling has.
use Rattle.std.specs.Prelude.{ℕ, ◌+◌, ◌*◌, length}
use Rattle.index_format.specs.Plain.{PlainState, IndexBody}

-- the numbers, and rows of 8, 8, 32, 8, 13 and 5 bytes; five of the six lists stand behind a count of four
abbrev pub state_size : PlainState → ℕ
state_size s =
    21 + (4 + 8 * length s.folders)
    + (4 + 8 * length s.files)
    + 32 * length s.checks
    + (4 + 8 * length s.grants)
    + (4 + 13 * length s.keys)
    + (4 + 5 * length s.marks)

-- the state, and rows of 17 and 13 bytes behind their counts
abbrev pub body_size : IndexBody → ℕ
body_size b = state_size b.state + (4 + 17 * length b.links) + (4 + 13 * length b.contents)
