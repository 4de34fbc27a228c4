-- What an owner counts of what it does. This project's own, docs/MODEL.md.
use Rattle.std.specs.Prelude.{ℕ, ◌+◌, ◌≤◌, length}
use Rattle.public_fold.specs.declared.heads.Skeleton.{Skeleton}
use Rattle.store_owner.specs.Deeds.{Deed, deed_count}
use Rattle.store_owner.specs.declared.counted.Counted.{Counted}

-- of an owner who opened a store, and of one who made it: the root's records are counted, and the making is no command
abbrev pub none_counted : Counted
none_counted = record { commands = 0; links = 0; contents = 0 }

abbrev pub root_counted : Counted
root_counted = record { commands = 0; links = 5; contents = 1 }

-- with so many commands, links and contents more
abbrev pub with_more : Counted → ℕ → ℕ → ℕ → Counted
with_more c commands links contents = record { commands = c.commands + commands; links = c.links + links; contents = c.contents + contents }

-- with what was asked done, and the records of its step
abbrev pub counted_with : Counted → Deed → Skeleton → Counted
counted_with c d s = with_more c (deed_count d) (length s.links.items) (length s.contents.items)

-- each has a byte of the log, at least
abbrev pub IsWithin : Counted → ℕ → Type 0
IsWithin c end = c.commands + c.links + c.contents ≤ end
