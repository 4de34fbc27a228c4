-- What the making of a store takes and leaves. This project's own, docs/FORMAT.md, "The bytes of a fresh store".
use Rattle.std.specs.Prelude.{◌≡◌, ℕ, true, false, List, [], ◌∷◌, ◌++◌, length, Option, None}
use Rattle.commit_journal.specs.Handing.{Hands, Write, header_writes, log_writes}
use Rattle.commit_journal.specs.Image.{Batch}
use Rattle.commit_journal.specs.Journals.{JournalState, command_batch, epoch_batch}
use Rattle.cry_base.specs.Store.{root_store}
use Rattle.cry_base.specs.declared.limits.Limits.{Limits}
use Rattle.cry_io.specs.Told.{WhereBothTold, WhereTold}
use Rattle.key_links.specs.Fresh.{fresh_draw_len, fresh_image, fresh_store_len, made_version, piece}
use Rattle.record_format.specs.Noted.{Note}
use Rattle.record_format.specs.Plain.{PlainPayload}
use Rattle.record_format.specs.Spelling.{spell_payload}
use Rattle.public_fold.specs.Journal.{Journal, Stand, note_step, nothing, root_note}
use Rattle.public_fold.specs.Journal.Entry.{Made, Session}
use Rattle.public_fold.specs.KeyStep.{Stepped}
use Rattle.public_fold.specs.Preparing.{begun}
use Rattle.journal_bytes.specs.Bytes.{step_payload}
use Rattle.journal_bytes.specs.Keys.{all_keys}
use Rattle.journal_bytes.specs.Notes.{declared_note}
use Rattle.store_owner.specs.Counted.{root_counted}
use Rattle.store_owner.specs.Owned.{IsOwnerOf, OwnerView}
use Rattle.store_owner.specs.Stopping.{ShowsWritten}

-- the journal that makes a store under five keys
abbrev pub made_with : List (List ℕ) → Journal
made_with keys = Session ∷ Made made_version keys ∷ []

-- the note that makes the root
abbrev pub made_note : Note
made_note = root_note made_version

-- where the root is made, in the first epoch, and its step
abbrev pub first_stand : Stand
first_stand = begun true nothing

abbrev pub root_step : Stepped
root_step = note_step first_stand made_note root_store

-- what is committed then, and the batches of it
abbrev pub root_payload : List ℕ → List (List ℕ) → PlainPayload
root_payload owner keys = step_payload (all_keys owner (made_with keys)) (declared_note made_note) root_step

abbrev pub made_batches : PlainPayload → List Batch
made_batches payload = epoch_batch 1 1 ∷ command_batch 2 1 (spell_payload payload) ∷ []

-- the writes that make it: the header, and those of the two batches
unfoldable pub made_writes : List ℕ → PlainPayload → List Write
made_writes owner payload = header_writes owner ++ log_writes owner [] (made_batches payload)

-- the journal of that store, whose session has ended
pub record IsMadeJournal (owner : List ℕ) (limit : ℕ) (j : JournalState) : Type 0 where
  pub has_owner : j.owner ≡ owner
  pub two_batches : j.batches ≡ 2
  pub first_epoch : j.epoch ≡ 1
  pub not_begun : j.has_epoch ≡ false
  pub ends_at : j.end ≡ fresh_store_len
  pub same_limit : j.limit ≡ limit
  pub is_open : j.is_closed ≡ false

-- the root's keys among the bytes that are drawn for a store, behind the owner's
abbrev pub root_keys : List ℕ → List (List ℕ)
root_keys drawn = piece drawn 1 ∷ piece drawn 2 ∷ piece drawn 3 ∷ piece drawn 4 ∷ piece drawn 5 ∷ []

-- the writes that make the store of the bytes that are drawn for it
abbrev pub fresh_writes : List ℕ → List Write
fresh_writes drawn = made_writes (piece drawn 0) (root_payload (piece drawn 0) (root_keys drawn))

-- Of a call that makes a store: the bytes drawn were the next ones of the source, and the disk is handed the writes of the store that they
-- make, and nothing else; a fault may have torn the last of them. Where the call didn't fail, all of them are done.
pub record HandsFresh (done : Type 0) (before after was shows : Option (List ℕ)) (since : List ℕ → List ℕ → Type 0) : Type 0 where
  pub drawn : List ℕ
  pub all_drawn : length drawn ≡ fresh_draw_len
  pub next_bytes : WhereBothTold before after (λ x y. x ≡ drawn ++ y)
  pub hands : Hands (fresh_writes drawn) (Unit {0}) was shows since
  pub handed : done → ShowsWritten (fresh_writes drawn) was shows

-- the owner of the store that these bytes make: it stands for the journal of the root alone, whose session has ended
pub record IsMade (drawn : List ℕ) (limits : Limits) (o : OwnerView) : Type 0 where
  pub all_drawn : length drawn ≡ fresh_draw_len
  pub same_key : o.key ≡ piece drawn 0
  pub owner : IsOwnerOf (made_with (root_keys drawn)) o
  pub journal : IsMadeJournal (piece drawn 0) limits.store_bytes o.journal
  pub not_counted : o.counter ≡ None
  pub same_file_bytes : o.file_bytes ≡ limits.file_bytes
  pub counted : o.tally ≡ root_counted

-- The bytes drawn make this owner's store: the disk was handed its writes, and nothing else, and shows it.
pub record Makes (limits : Limits) (before after was shows : Option (List ℕ)) (since : List ℕ → List ℕ → Type 0) (o : OwnerView)
    : Type 0 where
  pub hands : HandsFresh (Unit {0}) before after was shows since
  pub owner : IsMade hands.drawn limits o
  pub fresh : WhereTold shows (λ s. s ≡ fresh_image hands.drawn)
