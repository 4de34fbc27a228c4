-- What an owner keeps of what the owner's key opened of a store. This project's own, docs/FORMAT.md, "Opening for writing".
use Rattle.std.specs.Prelude.{◌≡◌, ◌⊎◌, ℕ, if◌then◌else◌, false, List, [], ◌∷◌, ◌++◌, Option, None, Result, Ok, Err}
use Rattle.cry_base.specs.Layout.{header_len}
use Rattle.cry_base.specs.Sets.{In}
use Rattle.cry_base.specs.Store.{HolderEntry}
use Rattle.cry_base.specs.declared.roles.Role.TheVariants.{Owner}
use Rattle.commit_journal.specs.Answering.{Fault, NotAStore, WrongKey, Damaged, Tampered, and_then}
use Rattle.commit_journal.specs.Journals.{JournalState}
use Rattle.commit_journal.specs.Opening.{OwnedLog, opening_verdict, slots_filled}
use Rattle.commit_journal.specs.Placed.{PlainPlaced}
use Rattle.commit_journal.specs.Reading.{IsUntouched}
use Rattle.cry_io.specs.Stops.{IsDurable}
use Rattle.cry_io.specs.Told.{WhereBothTold}
use Rattle.commit_journal.specs.declared.fault.OpenFault.{OpenFault}
use Rattle.commit_journal.specs.declared.fault.OpenFault.TheVariants as faults
use Rattle.folder_nodes.specs.Titles.{Titles}
use Rattle.log_visits.specs.Asking.{OpenStore}
use Rattle.log_visits.specs.Folding.{folded}
use Rattle.log_visits.specs.Holding as holding
use Rattle.log_visits.specs.Holding.{HasNames, HoldsKeys}
use Rattle.log_visits.specs.Judging.{Failure, OfBytes}
use Rattle.log_visits.specs.Opening.{HasHolder, IsOpenedBy, is_no_holders}
use Rattle.log_visits.specs.Visiting.{Opened, Reading, visit_all}
use Rattle.log_visits.specs.declared.opening.OwnersView.{OwnersView}
use Rattle.log_visits.specs.Visits.{Visit, all_visits, writing_visits}
use Rattle.key_links.specs.Ringed.{Ringed}
use Rattle.move_plan.specs.Fitting.{folder_stands}
use Rattle.public_fold.specs.Journal.{Stand, nothing}
use Rattle.public_fold.specs.Standing.{IsSeenAs}
use Rattle.role_graph.specs.Rights.Who.{TheOwner}
use Rattle.store_owner.specs.Owned.{OwnerView}
use Rattle.store_owner.specs.declared.opening.Contents.{Contents}

-- a log with what its payloads leave, what the owner visits of it, and what is open before the first visit
abbrev pub reading_with : List PlainPlaced → Stand → Reading
reading_with log at = record { log = log; stand = at }

abbrev pub visits_of : Stand → List Visit
visits_of at = all_visits at.store TheOwner ++ writing_visits at.store

abbrev pub starts_with : List ℕ → Stand → Opened
starts_with owner at = record { keys = (Owner, owner) ∷ []; store = at.store }

-- the ring has the keys that were opened, each as the present one of its role, and each holder's key; the names and bytes are
-- those that were opened
pub record IsKept (at : Stand) (after : Opened) (ring : Ringed) (names : Titles) : Type 0 where
  pub present : holding.ArePresent at.keys.keys ring
  pub opened : HoldsKeys is_no_holders ring after.keys
  pub titled : HasNames at.store names after.store
  pub holders : (e : HolderEntry) → In e after.store.holders → HasHolder ring e

-- ---- one step after another

-- the root stands; a log that doesn't make it is damaged behind the header
unfoldable pub rooted : Stand → Result Stand Fault
rooted at = if folder_stands at.store 1 then Ok at else Err (Damaged header_len)

-- what the owner's visits open
unfoldable pub opened_at : List ℕ → List PlainPlaced → Stand → Result OpenStore Fault
opened_at owner log at =
    and_then (visit_all (reading_with log at) (visits_of at) (starts_with owner at))
    (λ after. Ok (record { reading = reading_with log at; opened = after }))

-- once the payloads were followed, and the root was found
unfoldable pub opened_of : List ℕ → List PlainPlaced → Result OpenStore Fault
opened_of owner log = and_then (folded nothing log) (λ at. and_then (rooted at) (opened_at owner log))

-- the keys and names of all that was opened
abbrev pub view_of : Contents → OwnersView
view_of contents = record { ring = contents.ring; names = contents.names }

-- these are what was opened
abbrev pub AreContents : Contents → OpenStore → Type 0
AreContents contents s = IsSeenAs contents.state s.reading.stand × IsOpenedBy s.reading.stand.store (view_of contents) s.opened

-- ---- what opening answers

-- an owner keeps what was opened
abbrev pub Keeps : OwnerView → OpenStore → Type 0
Keeps o s = IsSeenAs o.state s.reading.stand × IsKept s.reading.stand s.opened o.ring o.names

-- the fault is the one that is wanted. A disk that fails and want of memory may come at any time
abbrev pub IsOpenFault : OpenFault → Result OpenStore Failure → Type 0
IsOpenFault faults.NotAStore wanted = wanted ≡ Err (OfBytes NotAStore)
IsOpenFault faults.WrongKey wanted = wanted ≡ Err (OfBytes WrongKey)
IsOpenFault (faults.Damaged at) wanted = wanted ≡ Err (OfBytes (Damaged at))
IsOpenFault (faults.Tampered batch at) wanted = wanted ≡ Err (OfBytes (Tampered batch at))
IsOpenFault faults.DiskFault wanted = Unit {0}
IsOpenFault faults.OutOfMemory wanted = Unit {0}

-- an owner who keeps what is wanted, or the fault that is
abbrev pub OpensAs : Result OwnerView OpenFault → Result OpenStore Failure → Type 0
OpensAs (Ok o) wanted = (s : OpenStore) × (wanted ≡ Ok s) × Keeps o s
OpensAs (Err fault) wanted = IsOpenFault fault wanted

-- the batches of a log
abbrev pub placed_in : Result OwnedLog Fault → Result (List PlainPlaced) Fault
placed_in log = and_then log (λ (l : OwnedLog). Ok l.placed)

-- the log of an image passes every test, and each of its slots holds its veil key now; nothing else was written
abbrev pub IsFilled : ℕ → List ℕ → List ℕ → List ℕ → Type 0
IsFilled limit key old new = (log : OwnedLog) × (opening_verdict limit key old ≡ Ok log) × (new ≡ slots_filled key log.placed old)

-- a journal goes on behind this log
pub record IsBehindLog (log : OwnedLog) (j : JournalState) : Type 0 where
  pub batches : j.batches ≡ log.batches
  pub epoch : j.epoch ≡ log.epoch
  pub end : j.end ≡ log.end
  pub tag : j.tag ≡ log.tag

-- the log of an image passes every test, and the owner goes on behind it
abbrev pub GoesOnBehind : ℕ → List ℕ → OwnerView → List ℕ → Type 0
GoesOnBehind limit key o image = (log : OwnedLog) × (opening_verdict limit key image ≡ Ok log) × IsBehindLog log o.journal

-- What a store is left as that isn't opened, but for a fault of the disk: nothing was written; or its slots were filled, since every test
-- of its log passes and a test of what its payloads make failed, or memory was wanting.
abbrev pub LeavesRefused : {D : Type 0} → (D → Option (List ℕ)) → (D → ℕ) → (D → List ℕ → Type 0) → ℕ → List ℕ → D → D → Type 0
LeavesRefused shown size_of may_leave limit key old new =
    IsUntouched shown size_of may_leave old new
    ⊎ ((size_of new ≡ size_of old) × WhereBothTold (shown old) (shown new) (IsFilled limit key) × IsDurable (may_leave new) (shown new))

-- the owner has this key, keeps to these sizes, has begun no epoch, and is open
pub record IsFresh (key : List ℕ) (store_bytes file_bytes : ℕ) (o : OwnerView) : Type 0 where
  pub same_key : o.key ≡ key
  pub own_log : o.journal.owner ≡ key
  pub limit : o.journal.limit ≡ store_bytes
  pub bound : o.file_bytes ≡ file_bytes
  pub not_begun : o.journal.has_epoch ≡ false
  pub not_closed : o.journal.is_closed ≡ false
  pub not_counted : o.counter ≡ None
