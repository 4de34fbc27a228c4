-- What an owner keeps in memory, and which journal it stands for. This project's own, docs/MODEL.md.
use Rattle.std.specs.Prelude.{◌≡◌, ℕ, cond, List, Option, Some, None}
use Rattle.chacha_seal.specs.Serials.{Counting}
use Rattle.commit_journal.specs.Journals.{IsJournalOf, JournalState}
use Rattle.cry_base.specs.declared.limits.Limits.{Limits}
use Rattle.folder_nodes.specs.Titles.{Titles, tree_store}
use Rattle.key_links.specs.Ringed.{Ringed}
use Rattle.public_fold.specs.Journal.{Journal, keys_of, store_of}
use Rattle.public_fold.specs.KeyStep.{KeyState}
use Rattle.public_fold.specs.Standing.{IsSeenAs, PublicView}
use Rattle.public_fold.specs.Valid.{IsValid}
use Rattle.journal_bytes.specs.Bytes.{batches_of}
use Rattle.journal_bytes.specs.Folds.{public_stand}
use Rattle.journal_bytes.specs.Keys.{AreWhole, all_keys}
use Rattle.journal_bytes.specs.Owning.{IsTreeOf}
use Rattle.journal_bytes.specs.Sealing.{HoldsKeys}
use Rattle.store_owner.specs.declared.counted.Counted.{Counted}

-- the owner's key; the journal; what everyone may see; the names and bytes; the present keys; the counter of this session's
-- epoch, where it has begun one; the most bytes that a file may have; what it counted
pub record OwnerView : Type 0 where
  pub key : List ℕ
  pub journal : JournalState
  pub state : PublicView
  pub names : Titles
  pub ring : Ringed
  pub counter : Option Counting
  pub file_bytes : ℕ
  pub tally : Counted

-- what an owner keeps who has begun no epoch
abbrev pub owner_at : List ℕ → JournalState → PublicView → Titles → Ringed → ℕ → Counted → OwnerView
owner_at key journal state names ring file_bytes tally =
    record {
      key = key;
      journal = journal;
      state = state;
      names = names;
      ring = ring;
      counter = None;
      file_bytes = file_bytes;
      tally =
          tally;
    }

-- the sizes that the owner keeps to
abbrev pub limits_in : OwnerView → Limits
limits_in o = record { store_bytes = o.journal.limit; file_bytes = o.file_bytes }

-- the counter that gives the next serial
abbrev pub counting : KeyState → Counting
counting k = record { epoch = k.epoch; count = k.count }

-- all of it is what the entries leave: the batches, the public stand, the names and bytes, and the present keys. The session
-- has a counter once it has begun its epoch
pub record IsOwnerOf (m : Journal) (o : OwnerView) : Type 0 where
  pub valid : IsValid m
  pub whole_keys : AreWhole o.key m
  pub same_key : o.journal.owner ≡ o.key
  pub stands : IsJournalOf (batches_of o.key m) o.journal
  pub seen : IsSeenAs o.state (public_stand m)
  pub tree : IsTreeOf (tree_store o.state.tree o.names) (store_of m)
  pub holds : HoldsKeys (all_keys o.key m) (keys_of m) o.ring (counting (keys_of m))
  pub counts : o.counter ≡ cond o.journal.has_epoch (Some (counting (keys_of m))) None
