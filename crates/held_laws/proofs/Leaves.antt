-- The leaves of a log: how many there are, and their epochs.
use Rattle.std.proofs.Common.{◌≡◌, ◌≢◌, ◌≤◌, inl, inr, ℕ, suc, ◌+◌, ◌-◌, List, [], ◌∷◌, length, map, take, drop, Option, None, Some, Result, Ok, arith, refl, sym, ap, subst, ◌∙◌}
use Rattle.std.proofs.lemmas.List.{length-map, take-take}
use Rattle.chacha_seal.specs.Keys.{KeyParts}
use Rattle.cry_base.specs.Layout.{batch_len, head_len, header_len, payload_offset}
use Rattle.cry_base.specs.Limits.{most_store_bytes}
use Rattle.cry_base.specs.Sets.{In}
use Rattle.cry_base.proofs.Members.{In-append, In-map}
use Rattle.commit_journal.specs.Answering.{Fault, and_then}
use Rattle.commit_journal.specs.Handing.{all_written, opening_writes}
use Rattle.commit_journal.specs.Journals.{last_epoch}
use Rattle.commit_journal.specs.Laws.{batch_of, batches_from, placed_from}
use Rattle.commit_journal.specs.Leaves.{batch_at, leaf_of, leaves_of}
use Rattle.commit_journal.specs.Log.{head_of, log_verdict}
use Rattle.commit_journal.specs.Logs.{holder_log}
use Rattle.commit_journal.specs.Placed.{Commands, NewEpoch, PlainBody, PlainPlaced}
use Rattle.commit_journal.specs.Standing.{StandsWhole}
use Rattle.commit_journal.proofs.Epochs.{holder_too}
use Rattle.commit_journal.proofs.Followed.{and_then_ok}
use Rattle.commit_journal.proofs.Reopened.{opened_standing}
use Rattle.commit_journal.proofs.Spelled.{image_read}
use Rattle.commit_journal.proofs.Standings.{length-image, whole_stands}
use Rattle.commit_journal.proofs.Writers.{batches_alone}
use Rattle.public_fold.specs.Journal.{Entry, Journal, Stand, nothing, stand_then}
use Rattle.journal_bytes.specs.Bytes.{batches_of, bodies_from, bodies_of, keys_then}
use Rattle.journal_bytes.specs.Keys.{owner_parts}
use Rattle.journal_bytes.specs.Journals.{StandsForJournal}
use Rattle.journal_bytes.proofs.NextBatches.{epoch_of}
use Rattle.reader_laws.specs.Spans.{Closed, Failed, Hidden, HolderReads, IsAnswer, LogReader, NoStore, OtherKey, OwnerWrites, Span, behind, epoch_in as epoch_at}
use Rattle.reader_laws.proofs.SpanLogs.{answer_told, last_is, reads_all}
use Rattle.reader_laws.proofs.SpanTurns.{only_next}
use Rattle.reader_laws.proofs.SpanWalks.{Reads, last_of}
use Rattle.store_owner.proofs.OpenedBehind.{within}
use Rattle.log_heads.specs.Published.{leaves_in}
use Rattle.head_tree.specs.Heads.{IsPrefix}
use Rattle.attempt_laws.proofs.Epochs.{epoch_in}
use Rattle.handed_laws.proofs.Handed.{filled_stands}
use Rattle.held_laws.specs.Held.{log_left}

-- the epoch in a leaf's first bytes
abbrev pub leaf_epoch : List ℕ → ℕ
leaf_epoch leaf = (head_of (take head_len leaf)).epoch.0

-- the leaves of batches, behind the first one
abbrev pub IsBatchOf : List (List ℕ) → List ℕ → Type 0
IsBatchOf log leaf = In leaf (drop 1 log)

pub batch_on : (log more : List (List ℕ)) (leaf : List ℕ) → IsPrefix log more → IsBatchOf log leaf → IsBatchOf more leaf
batch_on [] more leaf longer is = absurd is
batch_on (front ∷ leaves) more leaf longer is =
    subst (λ (l : List (List ℕ)). IsBatchOf l leaf) (sym longer.1) ((In-append (List ℕ) leaf leaves longer.0).1 (inl is))

-- ---- a leaf has its batch's epoch

leaf_tells : (bytes : List ℕ) (p : PlainPlaced) (s : Span) → p.place ≡ s.start + payload_offset → p.epoch ≡ epoch_at bytes s → leaf_epoch (leaf_of bytes p) ≡ p.epoch.0
unfolding batch_at
leaf_tells bytes p s place epoch =
    let there : p.place - payload_offset ≡ s.start = omega (arith, place) in
    let behind = drop s.start bytes in
    ap (λ at. leaf_epoch (batch_at bytes at)) there
    ∙ ap (λ (head : List ℕ). (head_of head).epoch.0) (take-take head_len (batch_len + (head_of (take head_len behind)).size - 1) behind (omega arith))
    ∙ sym (ap (λ e. e.0) epoch)

reads_tell : (who : LogReader) (bytes : List ℕ) (b : Option Span) (spans : List Span) (log : List PlainPlaced) → Reads who bytes b spans log → (p : PlainPlaced) → In p log
    → leaf_epoch (leaf_of bytes p) ≡ p.epoch.0
reads_tell who bytes b [] [] are p i = absurd i
reads_tell who bytes b [] (q ∷ log) are p i = absurd are
reads_tell who bytes b (s ∷ spans) [] are p i = absurd are
reads_tell who bytes b (s ∷ spans) (q ∷ log) are p (inl is) =
    let read = are.0.is_read in
    subst (λ (z : PlainPlaced). leaf_epoch (leaf_of bytes z) ≡ z.epoch.0) (sym is)
    (leaf_tells bytes q s (ap (λ (z : PlainPlaced). z.place) read) (ap (λ (z : PlainPlaced). z.epoch) read))
reads_tell who bytes b (s ∷ spans) (q ∷ log) are p (inr later) = reads_tell who bytes (Some s) spans log are.1 p later

-- ---- where the batches of a log stand

-- the spans of a log that a holder read; and of one that the owner read who opens the store for writing, with the gate behind them
record Spanned (who : LogReader) (bytes : List ℕ) (log : List PlainPlaced) : Type 0 where
  spans : List Span
  reads : Reads who bytes None spans log

same_log : (one other : List PlainPlaced) → (let r : Result (List PlainPlaced) Fault = Ok one in r) ≡ Ok other → other ≡ one
same_log one other is = cc

holder_spanned : (bytes : List ℕ) (log : List PlainPlaced) → IsAnswer HolderReads bytes (Ok log) → Spanned HolderReads bytes log
holder_spanned bytes log (NoStore none is) = absurd cc
holder_spanned bytes log (OtherKey store other is) = absurd cc
holder_spanned bytes log (Closed spans read are shut is) =
    record { spans = spans; reads = subst (Reads HolderReads bytes None spans) (same_log log read is) (reads_all HolderReads bytes spans read are) }
holder_spanned bytes log (Hidden spans read are s hidden is) =
    record { spans = spans; reads = subst (Reads HolderReads bytes None spans) (same_log log read is) (reads_all HolderReads bytes spans read are) }
holder_spanned bytes log (Failed spans read are s follows fault fails is) = absurd cc

record SpannedWhole (key bytes : List ℕ) (log : List PlainPlaced) : Type 0 where
  spans : List Span
  reads : Reads (OwnerWrites key most_store_bytes) bytes None spans log
  shut : (behind bytes (last_of None spans)).gate ≢ 1

writer_spanned : (key bytes : List ℕ) (log : List PlainPlaced) → IsAnswer (OwnerWrites key most_store_bytes) bytes (Ok log) → SpannedWhole key bytes log
writer_spanned key bytes log (NoStore none is) = absurd cc
writer_spanned key bytes log (OtherKey store other is) = absurd cc
writer_spanned key bytes log (Closed spans read are shut is) = record {
  spans = spans;
  reads = subst (Reads (OwnerWrites key most_store_bytes) bytes None spans) (same_log log read is) (reads_all (OwnerWrites key most_store_bytes) bytes spans read are);
  shut = subst (λ (b : Option Span). (behind bytes b).gate ≢ 1) (last_is spans) shut;
}
writer_spanned key bytes log (Hidden spans read are s hidden is) = absurd (hidden.hidden tt)
writer_spanned key bytes log (Failed spans read are s follows fault fails is) = absurd cc

-- what a holder reads the owner reads too who opens the store for writing
pub record AlsoRead (log : List PlainPlaced) (p : PlainPlaced) : Type 0 where
  pub other : PlainPlaced
  pub has : In other log
  pub same_epoch : p.epoch.0 ≡ other.epoch.0

also_read : (key bytes : List ℕ) (b : Option Span) (spans wider : List Span) (log whole : List PlainPlaced) → Reads HolderReads bytes b spans log
    → Reads (OwnerWrites key most_store_bytes) bytes b wider whole → (behind bytes (last_of b wider)).gate ≢ 1 → (p : PlainPlaced) → In p log → AlsoRead whole p
also_read key bytes b [] wider [] whole are all shut p i = absurd i
also_read key bytes b [] wider (q ∷ log) whole are all shut p i = absurd are
also_read key bytes b (s ∷ spans) wider [] whole are all shut p i = absurd are
also_read key bytes b (s ∷ spans) [] (q ∷ log) [] are all shut p i = absurd (shut are.0.follows.opened)
also_read key bytes b (s ∷ spans) [] (q ∷ log) (r ∷ whole) are all shut p i = absurd all
also_read key bytes b (s ∷ spans) (t ∷ wider) (q ∷ log) [] are all shut p i = absurd all
also_read key bytes b (s ∷ spans) (t ∷ wider) (q ∷ log) (r ∷ whole) are all shut p (inl is) =
    let same : s ≡ t = only_next bytes b s are.0.follows ∙ sym (only_next bytes b t all.0.follows) in
    record {
      other = r;
      has = inl refl;
      same_epoch = ap (λ (z : PlainPlaced). z.epoch.0) (is ∙ are.0.is_read) ∙ ap (λ (z : Span). (epoch_at bytes z).0) same ∙ sym (ap (λ (z : PlainPlaced). z.epoch.0) all.0.is_read);
    }
also_read key bytes b (s ∷ spans) (t ∷ wider) (q ∷ log) (r ∷ whole) are all shut p (inr later) =
    let same : t ≡ s = only_next bytes b t all.0.follows ∙ sym (only_next bytes b s are.0.follows) in
    let there = also_read key bytes (Some s) spans wider log whole are.1 (subst (λ (z : Span). Reads (OwnerWrites key most_store_bytes) bytes (Some z) wider whole) same all.1)
    (subst (λ (z : Span). (behind bytes (last_of (Some z) wider)).gate ≢ 1) same shut) p later in
    record { other = there.other; has = inr there.has; same_epoch = there.same_epoch }

no_longer : (key bytes : List ℕ) (b : Option Span) (spans wider : List Span) (log whole : List PlainPlaced) → Reads HolderReads bytes b spans log
    → Reads (OwnerWrites key most_store_bytes) bytes b wider whole → (behind bytes (last_of b wider)).gate ≢ 1 → length log ≤ length whole
no_longer key bytes b [] wider [] whole are all shut = omega arith
no_longer key bytes b [] wider (q ∷ log) whole are all shut = absurd are
no_longer key bytes b (s ∷ spans) wider [] whole are all shut = absurd are
no_longer key bytes b (s ∷ spans) [] (q ∷ log) [] are all shut = absurd (shut are.0.follows.opened)
no_longer key bytes b (s ∷ spans) [] (q ∷ log) (r ∷ whole) are all shut = absurd all
no_longer key bytes b (s ∷ spans) (t ∷ wider) (q ∷ log) [] are all shut = absurd all
no_longer key bytes b (s ∷ spans) (t ∷ wider) (q ∷ log) (r ∷ whole) are all shut =
    let same : t ≡ s = only_next bytes b t all.0.follows ∙ sym (only_next bytes b s are.0.follows) in
    let rest = no_longer key bytes (Some s) spans wider log whole are.1 (subst (λ (z : Span). Reads (OwnerWrites key most_store_bytes) bytes (Some z) wider whole) same all.1)
    (subst (λ (z : Span). (behind bytes (last_of (Some z) wider)).gate ≢ 1) same shut) in
    omega (arith, rest)

-- a journal has a batch for each entry
placed_many : (at number epoch : ℕ) (bodies : List PlainBody) → length (placed_from at number epoch bodies) ≡ length bodies
placed_many at number epoch [] = refl
placed_many at number epoch (body ∷ bodies) =
    let batch = batch_of number epoch body in ap suc (placed_many (at + (batch_len + length batch.payload)) batch.number batch.epoch bodies)

bodies_many : (keys : List KeyParts) (at : Stand) (m : List Entry) → length (bodies_from keys at m) ≡ length m
unfolding bodies_from
bodies_many keys at [] = refl
bodies_many keys at (entry ∷ m) = ap suc (bodies_many (keys_then keys at entry) (stand_then at entry) m)

journal_many : (key : List ℕ) (m : Journal) → length (placed_from header_len 0 0 (bodies_of key m)) ≡ length m
unfolding bodies_of
journal_many key m = placed_many header_len 0 0 (bodies_of key m) ∙ bodies_many (owner_parts key ∷ []) nothing m

-- ---- epochs only rise

next_no_less : (number epoch : ℕ) (body : PlainBody) → epoch ≤ (batch_of number epoch body).epoch
next_no_less number epoch (Commands payload) = omega arith
next_no_less number epoch NewEpoch = omega arith

epochs_rise : (number epoch : ℕ) (bodies : List PlainBody) → epoch ≤ last_epoch epoch (batches_from number epoch bodies)
epochs_rise number epoch [] = omega arith
epochs_rise number epoch (body ∷ bodies) =
    let batch = batch_of number epoch body in
    let first : epoch ≤ batch.epoch = next_no_less number epoch body in
    let rest : batch.epoch ≤ last_epoch batch.epoch (batches_from batch.number batch.epoch bodies) = epochs_rise batch.number batch.epoch bodies in
    omega (arith, first, rest)

placed_below : (at number epoch : ℕ) (bodies : List PlainBody) (p : PlainPlaced) → In p (placed_from at number epoch bodies) → p.epoch.0 ≤ last_epoch epoch (batches_from number epoch bodies)
placed_below at number epoch [] p i = absurd i
placed_below at number epoch (body ∷ bodies) p (inl is) =
    let batch = batch_of number epoch body in
    let here : p.epoch.0 ≡ batch.epoch = ap (λ (z : PlainPlaced). z.epoch.0) is in
    let rest : batch.epoch ≤ last_epoch batch.epoch (batches_from batch.number batch.epoch bodies) = epochs_rise batch.number batch.epoch bodies in
    omega (arith, here, rest)
placed_below at number epoch (body ∷ bodies) p (inr later) =
    let batch = batch_of number epoch body in placed_below (at + (batch_len + length batch.payload)) batch.number batch.epoch bodies p later

-- the last one has the last epoch
pub record HasEpoch (log : List PlainPlaced) (epoch : ℕ) : Type 0 where
  pub last : PlainPlaced
  pub has : In last log
  pub is : last.epoch.0 ≡ epoch

last_placed : (at number epoch : ℕ) (body : PlainBody) (bodies : List PlainBody)
    → HasEpoch (placed_from at number epoch (body ∷ bodies)) (last_epoch epoch (batches_from number epoch (body ∷ bodies)))
last_placed at number epoch body [] = record { last = _; has = inl refl; is = refl }
last_placed at number epoch body (next ∷ bodies) =
    let batch = batch_of number epoch body in
    let there = last_placed (at + (batch_len + length batch.payload)) batch.number batch.epoch next bodies in
    record { last = there.last; has = inr there.has; is = there.is }

-- ---- bytes that stand for a journal

abbrev read_leaves : List ℕ → Result (List PlainPlaced) Fault → Result (List (List ℕ)) Fault
read_leaves bytes read = and_then read (λ log. Ok (leaves_of bytes log))

-- the log that is published has no batch more than the journal, and no leaf with an epoch above the journal's last one
pub record Within (m : Journal) (log : List (List ℕ)) : Type 0 where
  pub size : length log ≤ length m + 1
  pub epochs : (leaf : List ℕ) → IsBatchOf log leaf → leaf_epoch leaf ≤ epoch_in m

pub leaves_within : (key : List ℕ) (m : Journal) (x : List ℕ) (log : List (List ℕ)) → StandsForJournal key m x → leaves_in x ≡ Ok log → Within m log
unfolding leaves_in leaves_of batches_of and_then
leaves_within key m x log stands read =
    let small = stands.valid.1 in
    let bodies = bodies_of key m in
    let whole = placed_from header_len 0 0 bodies in
    let step = and_then_ok (holder_log x) (λ placed. Ok (leaves_of x placed)) log read in
    let placed = step.0 in
    let log_is : log ≡ leaves_of x placed = cc in
    let holds = holder_spanned x placed (subst (IsAnswer HolderReads x) step.1 (answer_told HolderReads x)) in
    let opened = ap batches_alone (opened_standing most_store_bytes key bodies x (omega arith) (within most_store_bytes key m x stands small)) in
    let writes = writer_spanned key x whole (subst (IsAnswer (OwnerWrites key most_store_bytes) x) opened (answer_told (OwnerWrites key most_store_bytes) x)) in
    let fewer = no_longer key x None holds.spans writes.spans placed whole holds.reads writes.reads writes.shut in
    let long : length log ≡ suc (length (map (leaf_of x) placed)) = ap (λ (l : List (List ℕ)). length l) log_is in
    let many = length-map placed (leaf_of x) in
    let all = journal_many key m in
    record {
      size = omega (arith, fewer, long, many, all);
      epochs = λ leaf i.
          let in_placed = (In-map PlainPlaced (List ℕ) (leaf_of x) leaf placed).0 (subst (λ (l : List (List ℕ)). IsBatchOf l leaf) log_is i) in
          let p = in_placed.0 in
          let also = also_read key x None holds.spans writes.spans placed whole holds.reads writes.reads writes.shut p in_placed.1 in
          let tells : leaf_epoch leaf ≡ p.epoch.0 = ap leaf_epoch in_placed.2 ∙ reads_tell HolderReads x None holds.spans placed holds.reads p in_placed.1 in
          let low : also.other.epoch.0 ≤ last_epoch 0 (batches_from 0 0 bodies) = placed_below header_len 0 0 bodies also.other also.has in
          let last : last_epoch 0 (batches_from 0 0 bodies) ≡ epoch_in m = epoch_of key m in
          omega (arith, tells, also.same_epoch, low, last);
    }

-- the log that was left has so many batches, and a leaf of this epoch
pub record LeavesLog (key bytes : List ℕ) (batches epoch : ℕ) : Type 0 where
  pub log : List (List ℕ)
  pub read : log_left key bytes ≡ Ok log
  pub size : length log ≡ batches + 1
  pub leaf : List ℕ
  pub has : IsBatchOf log leaf
  pub is : leaf_epoch leaf ≡ epoch

whole_read : (key : List ℕ) (m : Journal) (z : List ℕ) → StandsForJournal key m z → StandsWhole key (batches_of key m) z → holder_log z ≡ Ok (placed_from header_len 0 0 (bodies_of key m))
unfolding batches_of
whole_read key m z stands whole =
    let bodies = bodies_of key m in
    let inside = within most_store_bytes key m z stands stands.valid.1 in
    let long = length-image key (batches_from 0 0 bodies) in
    let room = inside.2 in
    let read : log_verdict key z ≡ Ok (placed_from header_len 0 0 bodies) =
    ap (log_verdict key) whole.bytes_are ∙ image_read key bodies whole.gate whole.behind inside.1 (omega (arith, long, room)) whole.closed in
    holder_too key z (placed_from header_len 0 0 bodies) read

some_bodies : (key : List ℕ) (entry : Entry) (m : Journal) → (body : PlainBody) × (bodies : List PlainBody) × (bodies_of key (entry ∷ m) ≡ body ∷ bodies)
unfolding bodies_of bodies_from
some_bodies key entry m = (_, _, refl)

-- where bytes stand for a journal, with their slots filled their log has all its batches, and a leaf of its last epoch
pub leaves_log : (key : List ℕ) (entry : Entry) (m : Journal) (x : List ℕ) → StandsForJournal key (entry ∷ m) x
    → LeavesLog key x (length (entry ∷ m)) (epoch_in (entry ∷ m))
unfolding log_left leaves_in leaves_of and_then batches_of
leaves_log key entry m x stands =
    let j : Journal = entry ∷ m in
    let z = all_written (opening_writes most_store_bytes key x) x in
    let whole = filled_stands key j x stands in
    let of_z : StandsForJournal key j z = record { valid = stands.valid; whole_keys = stands.whole_keys; stands = whole_stands key (batches_of key j) z whole } in
    let placed = placed_from header_len 0 0 (bodies_of key j) in
    let read = whole_read key j z of_z whole in
    let some = some_bodies key entry m in
    let last = subst (λ (bs : List PlainBody). HasEpoch (placed_from header_len 0 0 bs) (last_epoch 0 (batches_from 0 0 bs))) (sym some.2) (last_placed header_len 0 0 some.0 some.1) in
    let holds = holder_spanned z placed (subst (IsAnswer HolderReads z) read (answer_told HolderReads z)) in
    record {
      log = leaves_of z placed;
      read = ap (read_leaves z) read;
      size = (let many = length-map placed (leaf_of z) in let all = journal_many key j in omega (arith, many, all));
      leaf = leaf_of z last.last;
      has = (In-map PlainPlaced (List ℕ) (leaf_of z) (leaf_of z last.last) placed).1 (last.last, last.has, refl);
      is = reads_tell HolderReads z None holds.spans placed holds.reads last.last last.has ∙ last.is ∙ epoch_of key j;
    }
