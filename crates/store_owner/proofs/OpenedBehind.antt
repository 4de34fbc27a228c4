-- An owner who goes on from a log that was opened.
use Rattle.std.proofs.Common.{◌≡◌, ◌≤◌, ℕ, Bool, true, false, ◌==◌, ◌⊎◌, inl, inr, List, [], length, map, Option, None, Result, Ok, Err, refl, sym, ap, subst, ◌∙◌, arith}
use Rattle.std.specs.Prelude.{IfErr, IfOk, OnOk, find, is_some}
use Rattle.std.proofs.lemmas.Bool.{eq-eqb}
use Rattle.std.proofs.lemmas.List.{length-map}
use Rattle.cry_io.specs.Stops.{IsDurable}
use Rattle.cry_io.specs.Told.{WhereTold, WhereBothTold}
use Rattle.commit_journal.specs.Answering.{Fault, NotAStore, WrongKey, Damaged, Tampered, and_then}
use Rattle.commit_journal.specs.Journals.{IsJournalOf}
use Rattle.commit_journal.specs.Logs.{AreInEpochs, epoch_behind}
use Rattle.commit_journal.specs.Opening.{IsOpened, opening_verdict, plain_opened, slots_filled}
use Rattle.commit_journal.specs.Placed.{PlainPlaced, plain_log, plain_placed}
use Rattle.commit_journal.specs.WholeLogs.{StandsWithin, StillStand}
use Rattle.commit_journal.specs.declared.fault.OpenFault.{OpenFault}
use Rattle.commit_journal.specs.declared.fault.OpenFault.TheVariants as faults
use Rattle.commit_journal.specs.declared.opening.Opened.{Opened as OpenedLog}
use Rattle.commit_journal.specs.Standing.{StandsFor}
use Rattle.commit_journal.proofs.OpenedJournals.{journal_whole, opened_settled, placed_whole, slots_whole}
use Rattle.commit_journal.proofs.Standings.{whole_stands}
use Rattle.commit_journal.proofs.Reopened.{opened_standing}
use Rattle.commit_journal.proofs.Standings.{length-image}
use Rattle.commit_journal.proofs.Writers.{opened_as_read}
use Rattle.cry_base.specs.Limits.{most_file_bytes, most_store_bytes}
use Rattle.cry_base.specs.Sets.{In}
use Rattle.cry_base.specs.Store.{Store, FolderEntry, FileEntry, folder_entry}
use Rattle.cry_base.proofs.Finding.{found-find}
use Rattle.cry_base.proofs.Members.{In-map}
use Rattle.folder_nodes.specs.Titles.{Titles, bytes_in, name_in, title_at, tree_store}
use Rattle.log_visits.specs.Answering.{IsFault, client_fault}
use Rattle.log_visits.specs.Asking.{OpenStore, open_with, opened_store}
use Rattle.log_visits.specs.Holding.{ArePresent, AreSized}
use Rattle.log_visits.specs.Judging.{Failure, OfBytes, of_bytes}
use Rattle.log_visits.specs.Visiting.{Opened, visit_all}
use Rattle.log_visits.specs.declared.fault.ClientFault.{ClientFault}
use Rattle.move_plan.specs.Fitting.{folder_stands, public_of}
use Rattle.public_fold.specs.Journal.{Journal, Stand, store_of}
use Rattle.public_fold.specs.KeyStep.{KeyState}
use Rattle.public_fold.specs.Lengths.{end_of}
use Rattle.public_fold.specs.Standing.{IsSeenAs, public_store_of}
use Rattle.public_fold.specs.Valid.{IsValid}
use Rattle.public_fold.proofs.KeyMoves.{journal_sound}
use Rattle.journal_bytes.specs.Bytes.{batches_of, bodies_of, image_of}
use Rattle.journal_bytes.specs.Folds.{fold_of, log_of, public_stand}
use Rattle.journal_bytes.specs.Journals.{IsSettled, StandsForJournal}
use Rattle.journal_bytes.specs.Keys.{AreWhole}
use Rattle.journal_bytes.specs.Opening.{owner_starts, owner_visits, reading_of}
use Rattle.journal_bytes.proofs.Followed.{journal_followed}
use Rattle.journal_bytes.proofs.NeverFails.{journal_opened}
use Rattle.journal_bytes.proofs.OpenedKeys.{same_ok}
use Rattle.journal_bytes.proofs.Spelled.{journal_spelled}
use Rattle.journal_bytes.proofs.Weighed.{valid_weighs}
use Rattle.store_owner.specs.Opened.{AreContents, IsFresh, IsKept, IsOpenFault, Keeps, OpensAs, opened_of, placed_in, reading_with, starts_with, visits_of}
use Rattle.store_owner.specs.Counted.{none_counted}
use Rattle.store_owner.specs.Owned.{IsOwnerOf, OwnerView, owner_at}
use Rattle.store_owner.specs.Sound.{IsSound}
use Rattle.store_owner.specs.declared.opening.Contents.{Contents}
use Rattle.store_owner.proofs.OpenedContents.{contents_told, fault_opens, log_opens, opens_with}
use Rattle.store_owner.proofs.OpenedOwners.{opened_owner}
use Rattle.store_owner.proofs.OpenedRings.{ring_keyed}
use Rattle.store_owner.proofs.SoundOpened.{opened_sound}

-- ---- what was opened is kept

contents_kept : (contents : Contents) (s : OpenStore) → AreContents contents s → ArePresent contents.state.keys.keys contents.ring → IsKept s.reading.stand s.opened contents.ring contents.names
contents_kept contents s are present = record {
  present = subst (λ (k : KeyState). ArePresent k.keys contents.ring) (sym are.0.keys) present;
  opened = are.1.keys;
  titled = are.1.names;
  holders = are.1.holders;
}

-- no file that stands has more bytes than one may have
tree_sized : (t : Store) (names : Titles) → AreSized names → (x : FileEntry) → In x (tree_store t names).files → length x.bytes ≤ most_file_bytes
unfolding tree_store
tree_sized t names sized x i =
    let titled : FileEntry → FileEntry = λ e. record e { name = name_in (title_at names.files e.id); bytes = bytes_in (title_at names.files e.id) } in
    let w = (In-map FileEntry FileEntry titled x t.files).0 i in
    subst (λ (e : FileEntry). length e.bytes ≤ most_file_bytes) (sym w.2) (sized w.0.id)

pub behind_sound : (key : List ℕ) (o : OpenedLog) (contents : Contents) (store_bytes file_bytes : ℕ) (s : OpenStore) → IsOpened key store_bytes o.journal → AreInEpochs 0 (plain_log o.placed)
    → o.journal.batches ≡ length o.placed.items → o.journal.epoch ≡ epoch_behind 0 (plain_log o.placed) → file_bytes ≤ most_file_bytes
    → opened_of key (plain_log o.placed) ≡ Ok s → AreContents contents s → ArePresent contents.state.keys.keys contents.ring → AreSized contents.names
    → IsSound (owner_at key o.journal contents.state contents.names contents.ring file_bytes none_counted)
behind_sound key o contents store_bytes file_bytes s opened epochs count last low is are present sized =
    let log = plain_log o.placed in
    let at = s.reading.stand in
    let were = contents_told key log s is in
    opened_sound log at (owner_at key o.journal contents.state contents.names contents.ring file_bytes none_counted) (record {
      epochs = epochs;
      folds = were.folds;
      has_root = were.stands;
      seen = are.0;
      batches = count ∙ sym (length-map o.placed.items plain_placed);
      epoch = last;
      keyed = ring_keyed log at key s.opened contents.ring contents.names were.folds were.stands were.done (contents_kept contents s are present);
      not_begun = opened.not_begun;
      not_counted = refl;
      sized = tree_sized (public_store_of contents.state) contents.names sized;
      bounded = low;
    })

pub behind_opens : (key : List ℕ) (log : List PlainPlaced) (contents : Contents) (o : OwnerView) (s : OpenStore) → opened_of key log ≡ Ok s → AreContents contents s
    → ArePresent contents.state.keys.keys contents.ring → o.state ≡ contents.state → o.names ≡ contents.names → o.ring ≡ contents.ring
    → (x : OpenStore) × (open_with key (Ok log) ≡ Ok x) × Keeps o x
unfolding of_bytes
behind_opens key log contents o s is are present state names ring =
    let kept = contents_kept contents s are present in (
      s,
      opens_with key log ∙ ap of_bytes is,
      (subst (λ v. IsSeenAs v s.reading.stand) (sym state) are.0, subst (λ r. IsKept s.reading.stand s.opened r o.names) (sym ring) (subst (IsKept s.reading.stand s.opened contents.ring) (sym names) kept)),
    )

pub behind_fails : (key : List ℕ) (log : List PlainPlaced) (fault : OpenFault) (client : ClientFault) → client ≡ client_fault fault → IsFault client (opened_of key log) → IsOpenFault fault (open_with key (Ok log))
behind_fails key log fault client same is = subst (IsOpenFault fault) (sym (opens_with key log)) (fault_opens fault client (opened_of key log) same is)

-- ---- the verdict

pub same_verdict : (limit : ℕ) (key s : List ℕ) (o : OpenedLog) (result : Result OwnerView OpenFault) → opening_verdict limit key s ≡ Ok (plain_opened o) → OpensAs result (open_with key (Ok (plain_log o.placed)))
    → OpensAs result (open_with key (placed_in (opening_verdict limit key s)))
unfolding and_then
same_verdict limit key s o result is answer =
    let placed : placed_in (opening_verdict limit key s) ≡ Ok (plain_log o.placed) = ap placed_in is in
    subst (λ l. OpensAs result (open_with key l)) (sym placed) answer

pub largest_verdict : (limit : ℕ) (key s : List ℕ) (result : Result OwnerView OpenFault) → limit ≡ most_store_bytes → OpensAs result (open_with key (placed_in (opening_verdict limit key s))) → OpensAs result (opened_store key s)
unfolding opened_store
largest_verdict limit key s result most answer =
    subst (λ l. OpensAs result (open_with key l)) (opened_as_read key s) (subst (λ n. OpensAs result (open_with key (placed_in (opening_verdict n key s)))) most answer)

-- ---- journals

of_bytes_ok : (r : Result OpenStore Fault) (s : OpenStore) → of_bytes r ≡ Ok s → r ≡ Ok s
unfolding of_bytes
of_bytes_ok (Ok x) s is = let same : x ≡ s = cc in ap Ok same
of_bytes_ok (Err fault) s is = absurd cc

-- the bytes stand for the journal's batches, within the limit
pub within : (limit : ℕ) (key : List ℕ) (m : Journal) (s : List ℕ) → StandsForJournal key m s → end_of m ≤ limit → StandsWithin limit key (bodies_of key m) s
unfolding batches_of image_of
within limit key m s stands fits =
    let whole = length-image key (batches_of key m) in
    let weighs = valid_weighs key m stands.valid stands.whole_keys in
    (stands.stands, journal_spelled key m stands.valid stands.whole_keys, omega (arith, whole, weighs, fits))

owner_of : (m : Journal) (o : OwnerView) (key : List ℕ) (after : Opened) → o.key ≡ key → IsValid m → AreWhole key m → o.journal.owner ≡ key → IsJournalOf (batches_of key m) o.journal → IsSeenAs o.state (public_stand m)
    → visit_all (reading_of key m) (owner_visits m) (owner_starts key m) ≡ Ok after → IsKept (public_stand m) after o.ring o.names → o.journal.has_epoch ≡ false → o.counter ≡ None → IsOwnerOf m o
owner_of m o key after same valid whole own stands seen done kept not_begun not_counted =
    subst (λ (k : List ℕ). AreWhole k m → o.journal.owner ≡ k → IsJournalOf (batches_of k m) o.journal → visit_all (reading_of k m) (owner_visits m) (owner_starts k m) ≡ Ok after → IsOwnerOf m o) same
    (λ w own stands done. opened_owner m o after valid w own stands seen done kept not_begun not_counted) whole own stands done

-- what was opened of a journal's log stands for it
keeps_journal : (m : Journal) (o : OwnerView) (key : List ℕ) (s : OpenStore) (store_bytes file_bytes : ℕ) → IsValid m → AreWhole key m → IsFresh key store_bytes file_bytes o → IsJournalOf (batches_of key m) o.journal
    → open_with key (Ok (log_of key m)) ≡ Ok s → Keeps o s → IsOwnerOf m o
unfolding fold_of
keeps_journal m o key s store_bytes file_bytes valid whole fresh stands is keeps =
    let log = log_of key m in
    let were = contents_told key log s (of_bytes_ok (opened_of key log) s (sym (opens_with key log) ∙ is)) in
    let same : s.reading.stand ≡ public_stand m = same_ok Stand s.reading.stand (public_stand m) (sym were.folds ∙ journal_followed key m valid whole) in
    owner_of m o key s.opened fresh.same_key valid whole fresh.own_log stands (subst (IsSeenAs o.state) same keeps.0)
    (subst (λ (at : Stand). visit_all (reading_with log at) (visits_of at) (starts_with key at) ≡ Ok s.opened) same were.done)
    (subst (λ (at : Stand). IsKept at s.opened o.ring o.names) same keeps.1) fresh.not_begun fresh.not_counted

pub journal_stands : (limit file_bytes : ℕ) (key : List ℕ) (o : OpenedLog) (shown : Option (List ℕ)) (result : Result OwnerView OpenFault) → limit ≤ most_store_bytes → IsOpened key limit o.journal
    → WhereTold shown (λ s. opening_verdict limit key s ≡ Ok (plain_opened o)) → OpensAs result (open_with key (Ok (plain_log o.placed)))
    → IfOk result (λ (v : OwnerView). v.journal ≡ o.journal) → IfOk result (IsFresh key limit file_bytes)
    → IfOk result (λ (v : OwnerView). (m : Journal) → WhereTold shown (λ s. StandsForJournal key m s → end_of m ≤ limit → IsOwnerOf m v))
unfolding batches_of log_of
journal_stands limit file_bytes key o shown (Err fault) known opened verdict answer same fresh = tt
journal_stands limit file_bytes key o shown (Ok v) known opened verdict answer same fresh = λ m s is stands fits.
    let inside = within limit key m s stands fits in
    let placed = placed_whole limit key (bodies_of key m) s o known inside (verdict s is) in
    let journal = journal_whole limit key (bodies_of key m) s o known inside (verdict s is) opened in
    keeps_journal m v key answer.0 limit file_bytes stands.valid stands.whole_keys fresh (subst (IsJournalOf (batches_of key m)) (sym same) journal)
    (ap (λ l. open_with key (Ok l)) (sym placed) ∙ answer.1) answer.2

-- ---- the disk

on_any : {X E : Type 0} (P : Type 0) (r : Result X E) → P → OnOk r P
on_any P (Ok x) p = p
on_any P (Err e) p = tt

settled : (limit : ℕ) (key : List ℕ) (o : OpenedLog) (was shows : Option (List ℕ)) (may_leave : List ℕ → Type 0) → limit ≤ most_store_bytes
    → WhereTold was (λ s. opening_verdict limit key s ≡ Ok (plain_opened o)) → WhereBothTold was shows (λ x y. y ≡ slots_filled key (plain_log o.placed) x)
    → is_some shows ≡ is_some was → IsDurable may_leave shows → (m : Journal) → WhereTold was (λ s. StandsForJournal key m s → end_of m ≤ limit → IsSettled key m shows may_leave)
unfolding batches_of
settled limit key o was shows may_leave known verdict filled told durable m s is stands fits =
    let done = opened_settled limit key (bodies_of key m) s o was shows may_leave known (within limit key m s stands fits) is (verdict s is) filled told durable in
    record {
      shows = (done.shows.0, done.shows.1, record { valid = stands.valid; whole_keys = stands.whole_keys; stands = done.shows.2 });
      leaves = λ c left. record { valid = stands.valid; whole_keys = stands.whole_keys; stands = done.leaves c left };
    }

pub journal_settled : (limit : ℕ) (key : List ℕ) (o : OpenedLog) (was shows : Option (List ℕ)) (may_leave : List ℕ → Type 0) (result : Result OwnerView OpenFault) → limit ≤ most_store_bytes
    → WhereTold was (λ s. opening_verdict limit key s ≡ Ok (plain_opened o)) → WhereBothTold was shows (λ x y. y ≡ slots_filled key (plain_log o.placed) x)
    → is_some shows ≡ is_some was → IsDurable may_leave shows
    → OnOk result ((m : Journal) → WhereTold was (λ s. StandsForJournal key m s → end_of m ≤ limit → IsSettled key m shows may_leave))
journal_settled limit key o was shows may_leave result known verdict filled told durable = on_any _ result (settled limit key o was shows may_leave known verdict filled told durable)

-- ---- no test fails

some_stands : (X : Type 0) (p : X → Bool) (xs : List X) (x : X) → In x xs → p x ≡ true → is_some (find p xs) ≡ true
some_stands X p xs x i t = let w = found-find X p x xs i t in ap (λ (o : Option X). is_some o) w.1

-- a valid journal's root stands
root_stands : (m : Journal) → IsValid m → folder_stands (public_stand m).store 1 ≡ true
unfolding public_stand public_of folder_stands folder_entry store_of
root_stands m valid =
    let s = store_of m in
    let root = (journal_sound m valid).tree.root_stands in
    let bare : FolderEntry = record root.0 { name = [] } in
    some_stands FolderEntry (λ x. x.id == 1) (map (λ (e : FolderEntry). record e { name = [] }) s.folders) bare
    ((In-map FolderEntry FolderEntry (λ e. record e { name = [] }) bare s.folders).1 (root.0, root.1, refl)) (eq-eqb root.0.id 1 root.2)

-- each step of opening a journal's log goes well
journal_opens : (key : List ℕ) (m : Journal) → IsValid m → AreWhole key m → (s : OpenStore) × (open_with key (Ok (log_of key m)) ≡ Ok s)
unfolding of_bytes fold_of
journal_opens key m valid whole =
    let log = log_of key m in
    let at = public_stand m in
    let done = journal_opened key m valid whole in
    let s : OpenStore = record { reading = reading_with log at; opened = done.0 } in
    (s, opens_with key log ∙ ap of_bytes (log_opens key log at done.0 (journal_followed key m valid whole) (root_stands m valid) done.1))

-- so nothing else than the disk or the memory is at fault
no_fault : (fault : OpenFault) (wanted : Result OpenStore Failure) (s : OpenStore) → wanted ≡ Ok s → IsOpenFault fault wanted → (fault ≡ faults.DiskFault) ⊎ (fault ≡ faults.OutOfMemory)
no_fault faults.NotAStore wanted s ok is = absurd (let both : Ok s ≡ Err (OfBytes NotAStore) = sym ok ∙ is in cc)
no_fault faults.WrongKey wanted s ok is = absurd (let both : Ok s ≡ Err (OfBytes WrongKey) = sym ok ∙ is in cc)
no_fault (faults.Damaged at) wanted s ok is = absurd (let both : Ok s ≡ Err (OfBytes (Damaged at)) = sym ok ∙ is in cc)
no_fault (faults.Tampered batch at) wanted s ok is = absurd (let both : Ok s ≡ Err (OfBytes (Tampered batch at)) = sym ok ∙ is in cc)
no_fault faults.DiskFault wanted s ok is = inl refl
no_fault faults.OutOfMemory wanted s ok is = inr refl

pub journal_never : (limit : ℕ) (key : List ℕ) (shown : Option (List ℕ)) (result : Result OwnerView OpenFault) → limit ≤ most_store_bytes
    → WhereTold shown (λ s. OpensAs result (open_with key (placed_in (opening_verdict limit key s))))
    → IfErr result (λ (fault : OpenFault). (m : Journal) → WhereTold shown (λ s. StandsForJournal key m s → end_of m ≤ limit → (fault ≡ faults.DiskFault) ⊎ (fault ≡ faults.OutOfMemory)))
unfolding batches_of log_of and_then
journal_never limit key shown (Ok v) known verdict = tt
journal_never limit key shown (Err fault) known verdict = λ m s is stands fits.
    let opens = journal_opens key m stands.valid stands.whole_keys in
    let read : placed_in (opening_verdict limit key s) ≡ Ok (log_of key m) = ap placed_in (opened_standing limit key (bodies_of key m) s known (within limit key m s stands fits)) in
    no_fault fault (open_with key (placed_in (opening_verdict limit key s))) opens.0 (ap (open_with key) read ∙ opens.1) (verdict s is)

-- a fault of the disk at opening leaves the journal standing
pub journal_left : (limit : ℕ) (key : List ℕ) (was shows : Option (List ℕ)) → WhereBothTold was shows (StillStand limit key)
    → (m : Journal) → WhereBothTold was shows (λ x y. StandsForJournal key m x → end_of m ≤ limit → StandsForJournal key m y)
unfolding batches_of
journal_left limit key was shows left m = λ x y e f stands low. record {
  valid = stands.valid;
  whole_keys = stands.whole_keys;
  stands = left x y e f (bodies_of key m) (within limit key m x stands low);
}

-- and so does whatever keeps it from going on once the slots are filled
pub journal_filled : (limit : ℕ) (key : List ℕ) (o : OpenedLog) (was shows : Option (List ℕ)) → limit ≤ most_store_bytes
    → WhereTold was (λ s. opening_verdict limit key s ≡ Ok (plain_opened o)) → WhereBothTold was shows (λ x y. y ≡ slots_filled key (plain_log o.placed) x)
    → (m : Journal) → WhereBothTold was shows (λ x y. StandsForJournal key m x → end_of m ≤ limit → StandsForJournal key m y)
unfolding batches_of
journal_filled limit key o was shows known verdict filled m = λ x y e f stands low. record {
  valid = stands.valid;
  whole_keys = stands.whole_keys;
  stands = subst (StandsFor key (batches_of key m)) (sym (filled x y e f))
      (whole_stands key (batches_of key m) (slots_filled key (plain_log o.placed) x) (slots_whole limit key (bodies_of key m) x o known (within limit key m x stands low) (verdict x e)));
}
