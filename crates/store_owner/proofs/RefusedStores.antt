-- What opening leaves of a store, whether it is refused or not.
use Rattle.std.proofs.Common.{◌≡◌, ◌≤◌, ◌⊎◌, ⊎_elim, inl, inr, ℕ, ◌-◌, List, [], ◌∷◌, length, drop, Option, Result, Ok, Err, refl, sym, ap, subst, ◌∙◌}
use Rattle.std.specs.Prelude.{IfErr, IfOk, OnOk}
use Rattle.cry_base.specs.Limits.{most_store_bytes}
use Rattle.chacha_seal.specs.Sealing.{veil_of}
use Rattle.cry_io.specs.Told.{WhereTold, WhereBothTold}
use Rattle.commit_journal.specs.Journals.{JournalState}
use Rattle.commit_journal.specs.Opening.{LeavesGated, LeavesSlots, opening_verdict, plain_opened, slots_filled, written_at}
use Rattle.commit_journal.specs.Placed.{PlainPlaced, plain_log}
use Rattle.commit_journal.specs.Reading.{IsUntouched}
use Rattle.commit_journal.specs.declared.fault.OpenFault.{OpenFault}
use Rattle.commit_journal.specs.declared.fault.OpenFault.TheVariants as faults
use Rattle.commit_journal.specs.declared.opening.Opened.{Opened as OpenedLog}
use Rattle.commit_journal.proofs.OpenedJournals.{placed_whole}
use Rattle.commit_journal.proofs.Refilled.{filled_behind}
use Rattle.public_fold.specs.Journal.{Journal}
use Rattle.public_fold.specs.Lengths.{end_of}
use Rattle.journal_bytes.specs.Bytes.{batches_of, bodies_of, image_of}
use Rattle.journal_bytes.specs.Journals.{StandsForJournal}
use Rattle.store_owner.specs.Opened.{GoesOnBehind, IsFilled, LeavesRefused}
use Rattle.store_owner.specs.Owned.{OwnerView}
use Rattle.store_owner.proofs.OpenedBehind.{within}

-- filling all slots leaves what filling them may leave
all_left : (key : List ℕ) (log : List PlainPlaced) (bytes : List ℕ) → LeavesSlots key log bytes (slots_filled key log bytes)
unfolding LeavesSlots slots_filled
all_left key [] bytes = refl
all_left key (p ∷ log) bytes = inr (all_left key log (written_at (p.place - 32) (veil_of key p.epoch.0 p.batch) bytes))

gated : (limit : ℕ) (key x y : List ℕ) → IsFilled limit key x y → LeavesGated limit key x y
gated limit key x y filled = inr (filled.0, filled.1, subst (λ r. LeavesSlots key filled.0.placed x r) (sym filled.2) (all_left key filled.0.placed x))

module _ (limit : ℕ) (key : List ℕ) (o : OpenedLog) (was shows : Option (List ℕ)) (verdict : WhereTold was (λ s. opening_verdict limit key s ≡ Ok (plain_opened o)))
    (filled : WhereBothTold was shows (λ x y. y ≡ slots_filled key (plain_log o.placed) x)) where
  pub is_filled : WhereBothTold was shows (IsFilled limit key)
  is_filled = λ x y e f. (plain_opened o, verdict x e, filled x y e f)

  pub is_gated : WhereBothTold was shows (LeavesGated limit key)
  is_gated = λ x y e f. gated limit key x y (is_filled x y e f)

  -- the gate behind a journal's log, and what stands behind it, stay
  pub behind_kept : limit ≤ most_store_bytes → (m : Journal) → WhereBothTold was shows (λ x y. StandsForJournal key m x → end_of m ≤ limit → let end = length (image_of key m) in drop end y ≡ drop end x)
  unfolding batches_of image_of
  behind_kept known m = λ x y e f stands fits.
      let bodies = bodies_of key m in
      let placed = placed_whole limit key bodies x o known (within limit key m x stands fits) (verdict x e) in
      let end = length (image_of key m) in
      ap (λ b. drop end b) (filled x y e f ∙ ap (λ log. slots_filled key log x) placed) ∙ filled_behind key bodies x stands.stands

-- ---- by the answer

-- the owner goes on behind the log
pub goes_on_behind : (limit : ℕ) (key : List ℕ) (o : OpenedLog) (was : Option (List ℕ)) (result : Result OwnerView OpenFault) → WhereTold was (λ s. opening_verdict limit key s ≡ Ok (plain_opened o))
    → IfOk result (λ r. r.journal ≡ o.journal) → IfOk result (λ r. WhereTold was (GoesOnBehind limit key r))
goes_on_behind limit key o was (Ok r) verdict same = λ s is. (
  plain_opened o,
  verdict s is,
  record {
    batches = ap (λ (j : JournalState). j.batches) same;
    epoch = ap (λ (j : JournalState). j.epoch) same;
    end = ap (λ (j : JournalState). j.end) same;
    tag = ap (λ (j : JournalState). j.tag) same;
  },
)
goes_on_behind limit key o was (Err e) verdict same = tt

pub on_each : {X E : Type 0} (P : E → Type 0) (r : Result X E) → ((e : E) → P e) → IfErr r P
on_each P (Ok x) p = tt
on_each P (Err e) p = p e

pub on_ok : {X E : Type 0} (P : Type 0) (r : Result X E) → P → OnOk r P
on_ok P (Ok x) p = p
on_ok P (Err e) p = tt

pub untouched_refused : {D : Type 0} (shown : D → Option (List ℕ)) (size_of : D → ℕ) (may_leave : D → List ℕ → Type 0) (limit : ℕ) (key : List ℕ) (old new : D) (fault : OpenFault) →
    (fault ≡ faults.DiskFault) ⊎ IsUntouched shown size_of may_leave old new → (fault ≡ faults.DiskFault) ⊎ LeavesRefused shown size_of may_leave limit key old new
untouched_refused shown size_of may_leave limit key old new fault either = ⊎_elim (λ disk. inl disk) (λ same. inr (inl same)) either

-- a log's fault, handed on
abbrev log_failed : OpenFault → Result OpenedLog OpenFault
log_failed fault = Err fault

abbrev log_opened : OpenedLog → Result OpenedLog OpenFault
log_opened opened = Ok opened

pub same_fault : {T : Type 0} (result : Result T OpenFault) (told fault other : OpenFault) → result ≡ Err told → told ≡ fault → log_failed fault ≡ log_failed other → result ≡ Err other
same_fault result told fault other is same failed =
    let one : fault ≡ other = cc in is ∙ ap Err (same ∙ one)

pub ok_is_no_fault : (opened : OpenedLog) (fault : OpenFault) → log_opened opened ≡ log_failed fault → ⊥
ok_is_no_fault opened fault same = absurd cc
