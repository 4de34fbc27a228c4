-- The moments of calls that read a store, and of opening it for writing.
use Rattle.std.proofs.Common.{◌≡◌, ◌≤◌, ◌⊎◌, ⊎_elim, inl, inr, ℕ, List, Option, Some, Ok, arith, sym, ◌∙◌}
use Rattle.cry_base.specs.Limits.{most_store_bytes}
use Rattle.cry_io.specs.Reading.{IsOnlyRead}
use Rattle.cry_io.specs.Stops.{Elapses, IsDurable}
use Rattle.cry_io.specs.Told.{WhereTold}
use Rattle.cry_io.specs.declared.disk.Disk as disk
use Rattle.batch_log.specs.Moments.{FromThenOn, GoesOn, Throughout}
use Rattle.batch_log.specs.Moments.InSteps.{Then}
use Rattle.batch_log.proofs.InOrder.{on_in_one}
use Rattle.batch_log.proofs.Moments.{goes_on_elapsed, goes_on_then, in_both, in_one_call}
use Rattle.batch_log.proofs.WrittenMoments.{told_one}
use Rattle.commit_journal.specs.Holding.{IsKept}
use Rattle.commit_journal.specs.Laws.{batches_from}
use Rattle.commit_journal.specs.Moments.{IsSameThroughout, KeepsHeld, OpensInOrder, OpensThroughout}
use Rattle.commit_journal.specs.Opening.{LeavesGated, LeavesSlots, OwnedLog, opening_verdict}
use Rattle.commit_journal.specs.Placed.{PlainPlaced}
use Rattle.commit_journal.specs.Standing.{StandsFor}
use Rattle.commit_journal.specs.WholeLogs.{StillStand}
use Rattle.commit_journal.proofs.SlotsLeft.{still_left, still_same}

-- ---- calls that only read

-- such calls leave everything the same at each moment
pub read_throughout : {D : Type 0} (disks : disk.Ghosts D) → ((d : D) (s c : List ℕ) → disks.since d (disks.moment d) s c → (disks.shown d ≡ Some s) × disks.may_leave d c) →
    ((d : D) (t : ℕ) (s c : List ℕ) → t ≤ disks.moment d → disks.shown d ≡ Some s → disks.may_leave d c → disks.since d t s c) →
    (a b : D) → IsOnlyRead disks a b → IsSameThroughout disks a b
read_throughout disks only counts a b read = record {
  later = read.time.later;
  time = goes_on_elapsed (disks.moment a) (disks.moment b) (disks.since a) (disks.since b) (disks.shown a) (disks.shown b) (disks.may_leave a) (disks.may_leave b)
      (only a) (counts a) (counts b) read.time;
  same = in_one_call (disks.moment a) (disks.moment b) (disks.since a) (disks.since b) (disks.shown a) (disks.shown b) (disks.may_leave a) (disks.may_leave b)
      (λ s c. (disks.shown a ≡ Some s) × disks.may_leave a c) (only a) read.time (λ s c is leaves. (is, leaves))
      (λ s c is leaves. (sym read.same_bytes ∙ is, (read.same_stops c).0 leaves));
}

-- a call that only read, where nothing was pending
pub same_bytes : (was : Option (List ℕ)) (left : List ℕ → Type 0) (x : List ℕ) (since : List ℕ → List ℕ → Type 0) → IsDurable left was → was ≡ Some x →
    Throughout (λ s c. (was ≡ Some s) × left c) since → Throughout (λ s c. (s ≡ x) × (c ≡ x)) since
same_bytes was left x since durable x_is same s c at =
    let is = same s c at in (told_one was s x is.0 x_is, told_one was c x (durable c is.1) x_is)

-- one call of the disk that only reads
pub same_in_call : {D : Type 0} (shown : D → Option (List ℕ)) (may_leave : D → List ℕ → Type 0) (moment : D → ℕ) (since : D → ℕ → List ℕ → List ℕ → Type 0)
    (a b : D) → ((s c : List ℕ) → since a (moment a) s c → (shown a ≡ Some s) × may_leave a c) → shown b ≡ shown a → ((c : List ℕ) → may_leave b c → may_leave a c) →
    Elapses (moment a) (moment b) (since a) (since b) (shown b) (may_leave b) → Throughout (λ s c. (shown a ≡ Some s) × may_leave a c) (since b (moment a))
same_in_call shown may_leave moment since a b only same no_more time =
    in_one_call (moment a) (moment b) (since a) (since b) (shown a) (shown b) (may_leave a) (may_leave b) (λ s c. (shown a ≡ Some s) × may_leave a c)
    only time (λ s c is leaves. (is, leaves)) (λ s c is leaves. (sym same ∙ is, no_more c leaves))

-- the disk was synced and read: it shows what it showed
pub shown_in_reading : {D : Type 0} (disks : disk.Ghosts D) (a b e : D) → ((s c : List ℕ) → disks.since a (disks.moment a) s c → (disks.shown a ≡ Some s) × disks.may_leave a c) →
    disks.shown b ≡ disks.shown a → ((c : List ℕ) → disks.may_leave b c → disks.may_leave a c) →
    Elapses (disks.moment a) (disks.moment b) (disks.since a) (disks.since b) (disks.shown b) (disks.may_leave b) → IsSameThroughout disks b e →
    Throughout (λ s c. disks.shown a ≡ Some s) (disks.since e (disks.moment a))
shown_in_reading disks a b e only same no_more time moments =
    in_both (disks.moment a) (disks.moment b) (disks.since b) (disks.since e) (λ s c. disks.shown a ≡ Some s) time.later moments.time
    (λ s c at. (same_in_call disks.shown disks.may_leave disks.moment disks.since a b only same no_more time s c at).0)
    (λ s c at. sym same ∙ (moments.same s c at).0)

-- ---- slots

-- slots of these batches are filled one after another: at each moment some of them are, in what is shown and in what a stop leaves, and one
-- more may hold any bytes
abbrev pub LeavesThroughout : List ℕ → List PlainPlaced → Option (List ℕ) → (List ℕ → List ℕ → Type 0) → Type 0
LeavesThroughout owner placed was since = WhereTold was (λ x. Throughout (λ s c. LeavesSlots owner placed x s × LeavesSlots owner placed x c) since)

-- ---- the whole opening

pub still_gated : (limit : ℕ) (owner x c : List ℕ) → limit ≤ most_store_bytes → LeavesGated limit owner x c → StillStand limit owner x c
still_gated limit owner x c known gated =
    ⊎_elim (λ same. still_same limit owner x c same) (λ some. still_left limit owner x c some.0 known some.1 some.2) gated

pub keeps_held : (limit : ℕ) (owner : List ℕ) (was : Option (List ℕ)) (left : List ℕ → Type 0) (since : List ℕ → List ℕ → Type 0) → limit ≤ most_store_bytes →
    OpensThroughout limit owner was left since → KeepsHeld limit owner was left since
keeps_held limit owner was left since known stops low high bodies holds within from to s c at =
    let x = holds.shows in
    ⊎_elim
    (λ old. let b = holds.leaves c old.1 in
    (let is : IsKept (StandsFor owner) low high high c = record { held = b.held; from = b.from; to = inl b.to; stands_for = b.stands_for } in is))
    (λ gated.
    (let is : IsKept (StandsFor owner) low high high c = record {
      held = batches_from 0 0 bodies;
      from = from;
      to = inl to;
      stands_for = still_gated limit owner x.0 c known gated.1 bodies (within x.0 x.1);
    } in is))
    (stops x.0 x.1 s c at)

-- while nothing is written
pub opens_same : (limit : ℕ) (owner : List ℕ) (was : Option (List ℕ)) (left : List ℕ → Type 0) (since : List ℕ → List ℕ → Type 0) →
    Throughout (λ s c. (was ≡ Some s) × left c) since → OpensThroughout limit owner was left since
opens_same limit owner was left since same x x_is s c at =
    let is = same s c at in inl (told_one was s x is.0 x_is, is.1)

-- and once slots are
pub opens_filled : (limit : ℕ) (owner : List ℕ) (log : OwnedLog) (was : Option (List ℕ)) (left : List ℕ → Type 0) (since : List ℕ → List ℕ → Type 0) →
    WhereTold was (λ x. opening_verdict limit owner x ≡ Ok log) → LeavesThroughout owner log.placed was since → OpensThroughout limit owner was left since
opens_filled limit owner log was left since verdict fills x x_is s c at =
    let both = fills x x_is s c at in inr (inr (log, verdict x x_is, both.0), inr (log, verdict x x_is, both.1))

-- the second of these behind the first
pub opens_both : (limit : ℕ) (owner : List ℕ) (was : Option (List ℕ)) (left : List ℕ → Type 0) (first start : ℕ) (past since : ℕ → List ℕ → List ℕ → Type 0) →
    first ≤ start → GoesOn start past since → OpensThroughout limit owner was left (past first) → OpensThroughout limit owner was left (since start) →
    OpensThroughout limit owner was left (since first)
opens_both limit owner was left first start past since order goes before after x x_is =
    in_both first start past since (λ s c. ((s ≡ x) × left c) ⊎ (LeavesGated limit owner x s × LeavesGated limit owner x c)) order goes (before x x_is) (after x x_is)

-- while the disk was only synced and read
pub opens_read : {D : Type 0} (disks : disk.Ghosts D)
    (a b e : D) (limit : ℕ) (owner : List ℕ) → ((s c : List ℕ) → disks.since a (disks.moment a) s c → (disks.shown a ≡ Some s) × disks.may_leave a c) → disks.shown b ≡ disks.shown a →
    ((c : List ℕ) → disks.may_leave b c → disks.may_leave a c) → Elapses (disks.moment a) (disks.moment b) (disks.since a) (disks.since b) (disks.shown b) (disks.may_leave b) →
    IsSameThroughout disks b e → OpensThroughout limit owner (disks.shown a) (disks.may_leave a) (disks.since e (disks.moment a))
opens_read disks a b e limit owner only same no_more time moments =
    opens_same limit owner (disks.shown a) (disks.may_leave a) (disks.since e (disks.moment a))
    (in_both (disks.moment a) (disks.moment b) (disks.since b) (disks.since e) (λ s c. (disks.shown a ≡ Some s) × disks.may_leave a c) time.later moments.time
    (same_in_call disks.shown disks.may_leave disks.moment disks.since a b only same no_more time)
    (λ s c at. let is = moments.same s c at in (sym same ∙ is.0, no_more c is.1)))

-- and then slots were filled
pub opens_all : {D : Type 0} (disks : disk.Ghosts D)
    (a b e f : D) (limit : ℕ) (owner : List ℕ) (log : OwnedLog) → ((s c : List ℕ) → disks.since a (disks.moment a) s c → (disks.shown a ≡ Some s) × disks.may_leave a c) → disks.shown b ≡ disks.shown a →
    ((c : List ℕ) → disks.may_leave b c → disks.may_leave a c) → Elapses (disks.moment a) (disks.moment b) (disks.since a) (disks.since b) (disks.shown b) (disks.may_leave b) →
    IsSameThroughout disks b e → disks.shown e ≡ disks.shown b → GoesOn (disks.moment e) (disks.since e) (disks.since f) →
    WhereTold (disks.shown b) (λ x. opening_verdict limit owner x ≡ Ok log) → LeavesThroughout owner log.placed (disks.shown e) (disks.since f (disks.moment e)) →
    OpensThroughout limit owner (disks.shown a) (disks.may_leave a) (disks.since f (disks.moment a))
opens_all disks a b e f limit owner log only same no_more time moments read goes verdict fills =
    let first = time.later in
    let second = moments.later in
    opens_both limit owner (disks.shown a) (disks.may_leave a) (disks.moment a) (disks.moment e) (disks.since e) (disks.since f) (omega (arith, first, second)) goes
    (opens_read disks a b e limit owner only same no_more time moments)
    (opens_filled limit owner log (disks.shown a) (disks.may_leave a) (disks.since f (disks.moment e)) (λ x is. verdict x (same ∙ is)) (λ x is. fills x (read ∙ (same ∙ is))))

-- Of what is shown at a moment, and of what a stop leaves then or later: while nothing is written, the disk shows what it showed
pub ordered_same : {D : Type 0} (shown : D → Option (List ℕ)) (may_leave : D → List ℕ → Type 0) (moment : D → ℕ) (since : D → ℕ → List ℕ → List ℕ → Type 0)
    (a e : D) (limit : ℕ) (owner : List ℕ) → moment a ≤ moment e → GoesOn (moment a) (since a) (since e) →
    Throughout (λ s c. (shown a ≡ Some s) × may_leave a c) (since e (moment a)) → OpensInOrder limit owner (shown a) (FromThenOn moment since a e)
ordered_same {D} shown may_leave moment since a e limit owner order goes same x x_is =
    on_in_one D moment since (λ s c. (s ≡ x) ⊎ LeavesGated limit owner x c) a e order goes (λ s c t l at later. inl (told_one (shown a) s x (same s c at).0 x_is))

-- while it was only synced and read
pub ordered_read : {D : Type 0} (disks : disk.Ghosts D)
    (a b e : D) (limit : ℕ) (owner : List ℕ) → ((s c : List ℕ) → disks.since a (disks.moment a) s c → (disks.shown a ≡ Some s) × disks.may_leave a c) →
    GoesOn (disks.moment a) (disks.since a) (disks.since b) → disks.shown b ≡ disks.shown a → ((c : List ℕ) → disks.may_leave b c → disks.may_leave a c) →
    Elapses (disks.moment a) (disks.moment b) (disks.since a) (disks.since b) (disks.shown b) (disks.may_leave b) → IsSameThroughout disks b e →
    OpensInOrder limit owner (disks.shown a) (FromThenOn disks.moment disks.since a e)
ordered_read disks a b e limit owner only goes same no_more time moments =
    let first = time.later in
    let second = moments.later in
    ordered_same disks.shown disks.may_leave disks.moment disks.since a e limit owner (omega (arith, first, second))
    (goes_on_then (disks.moment a) (disks.moment b) (disks.since a) (disks.since b) (disks.since e) first goes moments.time)
    (in_both (disks.moment a) (disks.moment b) (disks.since b) (disks.since e) (λ s c. (disks.shown a ≡ Some s) × disks.may_leave a c) first moments.time
    (same_in_call disks.shown disks.may_leave disks.moment disks.since a b only same no_more time)
    (λ s c at. let is = moments.same s c at in (sym same ∙ is.0, no_more c is.1)))

-- and then slots were filled: what a stop leaves is that with some of them filled
pub ordered_all : {D : Type 0} (disks : disk.Ghosts D)
    (a b e f : D) (limit : ℕ) (owner : List ℕ) (log : OwnedLog) → ((s c : List ℕ) → disks.since a (disks.moment a) s c → (disks.shown a ≡ Some s) × disks.may_leave a c) →
    GoesOn (disks.moment a) (disks.since a) (disks.since b) → disks.shown b ≡ disks.shown a → ((c : List ℕ) → disks.may_leave b c → disks.may_leave a c) →
    Elapses (disks.moment a) (disks.moment b) (disks.since a) (disks.since b) (disks.shown b) (disks.may_leave b) → IsSameThroughout disks b e →
    disks.shown e ≡ disks.shown b → disks.moment e ≤ disks.moment f → GoesOn (disks.moment e) (disks.since e) (disks.since f) → WhereTold (disks.shown b) (λ x. opening_verdict limit owner x ≡ Ok log) →
    LeavesThroughout owner log.placed (disks.shown e) (disks.since f (disks.moment e)) → OpensInOrder limit owner (disks.shown a) (FromThenOn disks.moment disks.since a f)
ordered_all disks a b e f limit owner log only first same no_more time moments read order goes verdict fills x x_is =
    Then
    (ordered_read disks a b e limit owner only first same no_more time moments x x_is)
    order
    goes
    (λ s c t l at later. inr (inr (log, verdict x (same ∙ x_is), (fills x (read ∙ (same ∙ x_is)) t l later).1)))

-- time in all of it
pub time_in_all : {D : Type 0} (disks : disk.Ghosts D)
    (a b e f : D) → ((d : D) (s c : List ℕ) → disks.since d (disks.moment d) s c → (disks.shown d ≡ Some s) × disks.may_leave d c) →
    ((d : D) (t : ℕ) (s c : List ℕ) → t ≤ disks.moment d → disks.shown d ≡ Some s → disks.may_leave d c → disks.since d t s c) →
    Elapses (disks.moment a) (disks.moment b) (disks.since a) (disks.since b) (disks.shown b) (disks.may_leave b) → IsSameThroughout disks b e →
    GoesOn (disks.moment e) (disks.since e) (disks.since f) → GoesOn (disks.moment a) (disks.since a) (disks.since f)
time_in_all disks a b e f only counts time moments goes =
    let first = time.later in
    let second = moments.later in
    goes_on_then (disks.moment a) (disks.moment e) (disks.since a) (disks.since e) (disks.since f) (omega (arith, first, second))
    (goes_on_then (disks.moment a) (disks.moment b) (disks.since a) (disks.since b) (disks.since e) first
    (goes_on_elapsed (disks.moment a) (disks.moment b) (disks.since a) (disks.since b) (disks.shown a) (disks.shown b) (disks.may_leave a) (disks.may_leave b) (only a) (counts a) (counts b) time) moments.time)
    goes
