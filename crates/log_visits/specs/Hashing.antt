-- Where the maps and the tables of an index look for a head. What they answer doesn't hang on it.
use Rattle.std.specs.Prelude.{ℕ, ◌+◌, ◌-◌, ◌*◌, ◌/◌, ◌%◌, ◌^◌, ◌==◌, ◌||◌, if◌then◌else◌, min}
use Rattle.log_visits.specs.declared.last_contents.ContentHead.{ContentHead}
use Rattle.log_visits.specs.declared.last_links.LinkHead.{LinkHead}

-- the last eight bytes, the last one highest, once one more was written
abbrev pub with_byte : ℕ → ℕ → ℕ
with_byte last byte = last / 2 ^ 8 + byte * 2 ^ 56

-- the number that was written last, as far on as the byte before says
abbrev pub place_of : ℕ → ℕ
place_of last = (last / 2 ^ 32 + 0x9e3779 * (last / 2 ^ 24 % 256)) % 2 ^ 24

-- a place, and above it a mark of all eight bytes
abbrev pub marked_place : ℕ → ℕ
marked_place last = (last * 0x9e3779b97f4a7c15) % 2 ^ 64 / 2 ^ 56 * 2 ^ 24 + place_of last

-- the ids of a head's ends, that by which it is looked for behind the other. A grant's is scattered
abbrev pub ids_of : LinkHead → ℕ × ℕ
ids_of h =
    if (h.kind == 8) || ((h.kind == 10) || (h.kind == 11)) then (h.to_id, h.from_id)
    else (if h.kind == 2 then (h.from_id, (h.to_id + (h.from_id * 0x9e3779b1) % 2 ^ 32) % 2 ^ 32) else (h.from_id, h.to_id))

-- the rows of heads in a table of spots, where those of files begin at n
abbrev pub link_row : LinkHead → ℕ → ℕ
link_row h n = if h.kind == 9 then min (n + (ids_of h).1) (2 ^ 64 - 1) else 8 * (ids_of h).1 + h.kind % 8

abbrev pub content_row : ContentHead → ℕ → ℕ
content_row h n =
    if h.kind == 1 then h.object
    else (if h.kind == 2 then min (n + h.object) (2 ^ 64 - 1) else 2 ^ 64 - 1)
