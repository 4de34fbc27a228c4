-- What holds of every owner that is open, on whatever bytes it was opened. This project's own, docs/MODEL.md.
use Rattle.std.specs.Prelude.{◌≡◌, ◌+◌, ◌≤◌, ℕ, false, cond, List, length, Some, None, Ok, IsTrue}
use Rattle.chacha_seal.specs.Keys.{KeyParts}
use Rattle.commit_journal.specs.Logs.{AreInEpochs, epoch_behind}
use Rattle.commit_journal.specs.Placed.{PlainPlaced}
use Rattle.cry_base.specs.Limits.{most_file_bytes}
use Rattle.cry_base.specs.Sets.{In}
use Rattle.cry_base.specs.Store.{Store, FileEntry}
use Rattle.cry_base.specs.declared.roles.Role.{Role}
use Rattle.folder_nodes.specs.Titles.{tree_store}
use Rattle.grant_book.specs.Granted.{Granted}
use Rattle.log_visits.specs.Folding.{folded}
use Rattle.key_links.specs.Ringed.{Ringed, key_of}
use Rattle.move_plan.specs.Fitting.{folder_stands}
use Rattle.public_fold.specs.Journal.{Stand, nothing}
use Rattle.public_fold.specs.KeyStep.{newest}
use Rattle.public_fold.specs.Records.{Link}
use Rattle.public_fold.specs.Standing.{IsSeenAs, public_store_of}
use Rattle.public_fold.specs.Turns.{StandHolds}
use Rattle.role_graph.specs.Roles.{role_id}
use Rattle.journal_bytes.specs.Sealing.{HoldsKeys}
use Rattle.store_owner.specs.Owned.{OwnerView, counting}

-- the grants that an owner keeps
abbrev pub granted_in : OwnerView → Granted
granted_in o = record { checks = o.state.checks; pairs = o.state.pairs; spare = 0 }

-- the store that an owner keeps: everyone's, with the names and bytes
abbrev pub own_store : OwnerView → Store
own_store o = tree_store (public_store_of o.state) o.names

-- of each kind a stand may have so many without a batch for each, and as many epochs: half of the numbers below a clearance
abbrev pub most_unlogged : ℕ
most_unlogged = 1073741824

-- of each kind no more were ever made than that and one for each batch, nor epochs begun: so numbers are left
pub record LeavesNumbers (batches : ℕ) (at : Stand) : Type 0 where
  pub folders : at.store.folders_made ≤ most_unlogged + batches
  pub files : at.store.files_made ≤ most_unlogged + batches
  pub holders : at.store.holders_made ≤ most_unlogged + batches
  pub epochs : at.keys.epoch ≤ most_unlogged + batches

-- commands can go on from the stand, wherever it comes from: all holds of it that payloads that fit keep, with some links, and
-- numbers are left
pub record CanGoOn (batches : ℕ) (at : Stand) : Type 0 where
  pub links : List Link
  pub holds : StandHolds at links
  pub numbers : LeavesNumbers batches at

-- what is seen is a stand that commands can go on from; the ring has the present keys, and the counter is that of the session's
-- epoch; no file has more bytes than one may have
pub record IsSound (o : OwnerView) : Type 0 where
  pub at : Stand
  pub keys : List KeyParts
  pub goes_on : CanGoOn o.journal.batches at
  pub seen : IsSeenAs o.state at
  pub same_epoch : o.journal.epoch ≡ at.keys.epoch
  pub held : HoldsKeys keys at.keys o.ring (counting at.keys)
  pub counts : o.counter ≡ cond o.journal.has_epoch (Some (counting at.keys)) None
  pub sized : (x : FileEntry) → In x (own_store o).files → length x.bytes ≤ most_file_bytes
  pub bounded : o.file_bytes ≤ most_file_bytes

-- the ring has the present key of each role, whatever its bytes
abbrev pub HasEachKey : Stand → Ringed → Type 0
HasEachKey at ring = (role : Role) (n : ℕ) → newest at.keys.keys role ≡ Some n → (key : KeyParts) × (key_of ring role ≡ Some key)
    × (key.id ≡ role_id role) × (key.serial ≡ n)

-- What an owner has who opened a store at a stand, wherever it comes from, and has begun no epoch: commands can go on from it, and
-- it is what is seen; the epoch of the last batch is the stand's; the present key of each role; no file with more bytes than one
-- may have.
pub record IsOpenedAt (at : Stand) (o : OwnerView) : Type 0 where
  pub goes_on : CanGoOn o.journal.batches at
  pub seen : IsSeenAs o.state at
  pub epoch : o.journal.epoch ≡ at.keys.epoch
  pub keyed : HasEachKey at o.ring
  pub not_begun : o.journal.has_epoch ≡ false
  pub not_counted : o.counter ≡ None
  pub sized : (x : FileEntry) → In x (own_store o).files → length x.bytes ≤ most_file_bytes
  pub bounded : o.file_bytes ≤ most_file_bytes

-- What an owner has who opened a log and has begun no epoch: what is seen is what the log's payloads leave, each of which fits, with
-- the root; as many batches, and the epoch of the last one; the present key of each role; no file with more bytes than one may have.
pub record IsOpenedWith (log : List PlainPlaced) (at : Stand) (o : OwnerView) : Type 0 where
  pub epochs : AreInEpochs 0 log
  pub folds : folded nothing log ≡ Ok at
  pub has_root : IsTrue (folder_stands at.store 1)
  pub seen : IsSeenAs o.state at
  pub batches : o.journal.batches ≡ length log
  pub epoch : o.journal.epoch ≡ epoch_behind 0 log
  pub keyed : HasEachKey at o.ring
  pub not_begun : o.journal.has_epoch ≡ false
  pub not_counted : o.counter ≡ None
  pub sized : (x : FileEntry) → In x (own_store o).files → length x.bytes ≤ most_file_bytes
  pub bounded : o.file_bytes ≤ most_file_bytes
