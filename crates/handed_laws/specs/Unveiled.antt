-- What whoever holds a store's disk can unmask of all that it was ever handed, batches that were given up included. This project's own,
-- docs/FORMAT.md, "Committing" and "Opening for writing".
--
-- A batch is handed to the disk masked, with an empty slot, and its veil key goes into that slot last. Only the owner can make that key. So
-- whoever keeps each list that the disk ever shows unmasks the batches whose veil keys were handed over, and no other.
use Rattle.std.specs.Prelude.{◌≡◌, ◌≢◌, ◌⊎◌, ℕ, zero, suc, List, [], ◌∷◌, ◌++◌, drop, length, Option, Some}
use Rattle.batch_log.specs.Handing.{IsStage, IsTornStage, Write, all_written}
use Rattle.batch_log.specs.Moments.{FromThenOn, Throughout}
use Rattle.batch_log.specs.Steps.{written_at}
use Rattle.commit_journal.specs.Handing.{opening_writes}
use Rattle.commit_journal.specs.Holding.{IsPrefix}
use Rattle.commit_journal.specs.Image.{Batch, batch_veil, empty_slot}
use Rattle.cry_base.specs.Limits.{most_store_bytes}
use Rattle.cry_base.specs.Sets.{In}
use Rattle.cry_io.specs.Stops.{Torn}
use Rattle.cry_io.specs.declared.disk.Disk as disk
use Rattle.closure_laws.specs.Secrecy.{KeepsSecret}
use Rattle.secrecy_laws.specs.Departures.{KeepsDepartures}
use Rattle.secrecy_laws.specs.Revocation.{OpensByGain}
use Rattle.journal_bytes.specs.Bytes.{batches_of}
use Rattle.journal_bytes.specs.Journals.{StandsForJournal}
use Rattle.public_fold.specs.Journal.{Journal, keys_of}
use Rattle.store_owner.specs.Published.{published_batches}
use Rattle.store_owner.specs.Stopping.{journal_writes}
use Rattle.stop_laws.specs.Runs.{CallOver}
use Rattle.stop_laws.specs.Runs.CallOver.{ByOther, ByOwner, ByServe, ByUpgrade}

-- So many of these writes were handed to the disk that showed the old list: all but the last were done, and that one in whole; or in part,
-- where this is the list that was shown last.
unfoldable pub IsHanded : Type 0 → ℕ → List Write → List ℕ → List ℕ → Type 0
IsHanded last zero ws old s = s ≡ old
IsHanded last (suc n) [] old s = ⊥
IsHanded last (suc n) (w ∷ ws) old s =
    IsHanded last n ws (written_at w.place w.bytes old) s ⊎ ((n ≡ 0) × last × Torn w.place (length w.bytes) old s)

-- the batches whose veil keys are among the first n writes by which they join a log: each takes three, of which the third is its veil key
unfoldable pub unveiled_by : ℕ → List Batch → List Batch
unveiled_by (suc (suc (suc n))) (b ∷ bs) = b ∷ unveiled_by n bs
unveiled_by n bs = []

-- those behind a journal, in one that it begins
abbrev pub batches_behind : List ℕ → Journal → Journal → List Batch
batches_behind key m reached = drop (length (batches_of key m)) (batches_of key reached)

-- no veil key of the journal's batches is the empty slot itself
abbrev pub HasNoEmptyVeil : List ℕ → Journal → Type 0
HasNoEmptyVeil key m = (b : Batch) → In b (batches_of key m) → batch_veil key b ≢ empty_slot

-- A list that has the first of the writes by which batches join the log behind a journal, on a list that had the whole of it: each batch
-- whose veil key is among these writes is one that the list publishes.
abbrev pub ShowsJoined : List ℕ → Journal → Journal → List ℕ → Option (List ℕ) → List ℕ → Type 0
ShowsJoined key m reached x shown s = (handed : ℕ)
    × IsHanded (shown ≡ Some s) handed (journal_writes key m reached) x s
    × IsPrefix (batches_of key m ++ unveiled_by handed (batches_behind key m reached)) (published_batches key s)

-- A list that is shown at a moment of a run, a call of `serve` or an upgrade, which found x, for m, and reached a journal. It is x with
-- some slots filled that a stop had left empty, or with all of these filled and batches joined behind m.
abbrev pub ShowsUnveiled : List ℕ → Journal → Journal → List ℕ → Option (List ℕ) → List ℕ → Type 0
ShowsUnveiled key m reached x shown s =
    IsStage (opening_writes most_store_bytes key x) x s
    ⊎ (((shown ≡ Some s) × IsTornStage (opening_writes most_store_bytes key x) x s)
    ⊎ ShowsJoined key m reached (all_written (opening_writes most_store_bytes key x) x) shown s)

-- So it is with each list that is shown at a moment of such a call, up to a journal that begins with the one that was found. Another call
-- shows what it found.
abbrev pub CallUnveils : {D : Type 0} (disks : disk.Ghosts D) (key : List ℕ) (before after : D) → CallOver disks key before after
    → List ℕ → List ℕ → Type 0
CallUnveils disks key before after (ByOwner run) x s =
    (m reached : Journal) × StandsForJournal key m x × IsPrefix m reached
    × (HasNoEmptyVeil key reached → ShowsUnveiled key m reached x (disks.shown after) s)
CallUnveils disks key before after (ByServe call) x s =
    (m reached : Journal) × StandsForJournal key m x × IsPrefix m reached
    × (HasNoEmptyVeil key reached → ShowsUnveiled key m reached x (disks.shown after) s)
CallUnveils disks key before after (ByUpgrade call) x s =
    (m reached : Journal) × StandsForJournal key m x × IsPrefix m reached
    × (HasNoEmptyVeil key reached → ShowsUnveiled key m reached x (disks.shown after) s)
CallUnveils disks key before after (ByOther call) x s = s ≡ x

-- What is left in the end stands for a journal with all batches that a list published, and from no holder's key more can be derived of
-- what that journal's batches hold, all of them unmasked, than was written in the holder's sight or a later gain opened; nor, in a store
-- of version 2, than came to be in the holder's sight since, or was derived before the store had that version.
pub record KeepsUnveiled (key s bytes : List ℕ) : Type 0 where
  pub journal : Journal
  pub stands_for : StandsForJournal key journal bytes
  pub has : IsPrefix (published_batches key s) (batches_of key journal)
  pub secret : (h : ℕ) → KeepsSecret journal h
  pub gained : (h : ℕ) → OpensByGain journal h
  pub departed : (keys_of journal).version ≡ 2 → (h : ℕ) → KeepsDepartures journal h

-- From the moment on at which the store of a script stood, on a disk that showed x, for m: so it is with each list that is shown then, up
-- to a journal that begins with m; and what a stop leaves then or later has all that such a list published.
abbrev pub ScriptUnveils : {D : Type 0} (disks : disk.Ghosts D) (key : List ℕ) (m : Journal) (x : List ℕ) (start after : D) → Type 0
ScriptUnveils disks key m x start after = (reached : Journal) × IsPrefix m reached
    × (HasNoEmptyVeil key reached
    → Throughout (λ s left. ShowsJoined key m reached x (disks.shown after) s) (disks.since after (disks.moment start)))
    × FromThenOn disks.moment disks.since start after (KeepsUnveiled key)
