-- What `make` leaves. This project's own, docs/PROGRAM.md, "The program".
use Rattle.std.specs.Prelude.{◌≡◌, ◌<◌, ◌≤◌, ◌⊎◌, ℕ, List, [], length, Option, is_some}
use Rattle.commit_journal.specs.Holding.{GoesOn}
use Rattle.cry_io.specs.Stops.{IsDurable}
use Rattle.cry_io.specs.Told.{WhereTold, WhereBothTold}
use Rattle.cry_io.specs.declared.disk.Disk as disk
use Rattle.journal_bytes.specs.Journals.{IsSettled}
use Rattle.key_links.specs.Fresh.{fresh_draw_len, fresh_image, fresh_store_len, piece}
use Rattle.script_text.specs.Printing.{owner_line}
use Rattle.store_owner.specs.Making.{HandsFresh, made_with, root_keys}
use Rattle.cli_base.specs.declared.status.Status.{Status}
use Rattle.cli_base.specs.declared.status.Status.TheVariants.{RandomFault, RandomShort, OutOfMemory}

-- the line of the owner's key among those drawn
abbrev pub line_drawn : List ℕ → List ℕ
line_drawn drawn = owner_line (piece drawn 0)

-- The next 192 bytes of the random source were drawn, and the disk was handed the writes of the store that they make. It shows that store,
-- settled at its journal, and its owner's line was printed as `Prints` says.
pub record Makes (Prints : List ℕ → List ℕ → List ℕ → Type 0) (left_before left_after was shown : Option (List ℕ))
    (may_leave : List ℕ → Type 0) (since : List ℕ → List ℕ → Type 0) (written_before written_after : Option (List ℕ)) : Type 0 where
  pub hands : HandsFresh (Unit {0}) left_before left_after was shown since
  pub shows : WhereTold shown (λ s. s ≡ fresh_image hands.drawn)
  pub settled : WhereTold shown (λ s. IsSettled (piece hands.drawn 0) (made_with (root_keys hands.drawn)) shown may_leave)
  pub printed : WhereBothTold written_before written_after (Prints (line_drawn hands.drawn))

-- The store of these bytes stands at a moment of a call: the disk shows exactly its image, all of it is synced, and a stop then leaves that
-- and nothing else.
pub record StandsMade {D : Type 0} (disks : disk.Ghosts D) (drawn : List ℕ) (before start : D) : Type 0 where
  pub told : is_some (disks.shown start) ≡ is_some (disks.shown before)
  pub shows : WhereTold (disks.shown start) (λ s. s ≡ fresh_image drawn)
  pub durable : IsDurable (disks.may_leave start) (disks.shown start)
  pub size : disks.size_of start ≡ fresh_store_len
  pub later : disks.moment before ≤ disks.moment start
  pub time : GoesOn (disks.moment before) (disks.since before) (disks.since start)

-- the source ended after so many bytes of the 192 that `make` draws, and they are gone
pub record IsShort (left need : ℕ) (left_before left_after : Option (List ℕ)) : Type 0 where
  pub need_is : need ≡ fresh_draw_len
  pub fewer : left < fresh_draw_len
  pub had : WhereTold left_before (λ bytes. length bytes ≡ left)
  pub gone : WhereTold left_after (λ bytes. bytes ≡ [])

-- a draw of 192 bytes from a source that has fewer: it ends so, if memory was there and the source didn't fail
abbrev pub EndsShort : Status → List ℕ → Type 0
EndsShort status bytes =
    length bytes < fresh_draw_len → (status ≡ RandomShort (length bytes) fresh_draw_len) ⊎ ((status ≡ RandomFault) ⊎ (status ≡ OutOfMemory))
