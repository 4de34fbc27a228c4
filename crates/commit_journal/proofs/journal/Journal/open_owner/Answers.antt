use Rattle.std.proofs.Common.{◌≡◌, ℕ, List, inl, inr, refl, sym, ap, subst, ◌∙◌}
use Rattle.std.specs.Prelude.{IsErr}
use Rattle.cry_base.specs.Layout.{header_len}
use Rattle.commit_journal.specs.declared.filling.Unfilled.{Unfilled}
use Rattle.chacha_seal.specs.Keys.{KeyParts}
use Rattle.commit_journal.specs.Filling.{AreUnfilled, LeavesUnfilled, all_filled}
use Rattle.commit_journal.specs.Opening.{LeavesGated, plain_walked, slots_filled}
use Rattle.commit_journal.specs.WholeLogs.{StillStand}
use Rattle.commit_journal.specs.Placed.{plain_log}
use Rattle.batch_log.specs.Moments.{FromThenOn}
use Rattle.batch_log.proofs.Handed.{hands_nothing}
use Rattle.batch_log.proofs.Moments.{goes_on_elapsed}
use Rattle.commit_journal.proofs.CommitLemmas.{on_err}
use Rattle.commit_journal.specs.Handing.{HandsOpening, opening_writes}
use Rattle.commit_journal.specs.Moments.{OpensInOrder, OpensThroughout}
use Rattle.commit_journal.proofs.OpenedMoments.{keeps_held, opens_all, opens_read, opens_same, ordered_all, ordered_read, ordered_same, read_throughout, same_in_call, shown_in_reading, time_in_all}
use Rattle.commit_journal.proofs.SlotsLeft.{still_left, still_same}
use Rattle.commit_journal.proofs.SlotsUnfilled.{filled_is_filled, left_is_left, unfilled_are}
use Rattle.commit_journal.proofs.SlotsWritten.{fills_log, hands_opening, opening_failing}
use Rattle.commit_journal.proofs.journal.Journal.open_owner.Goals as goal

pub fill_slots-requires-clause-unfilled : goal.fill_slots-requires-clause-unfilled
fill_slots-requires-clause-unfilled g c = λ x x_is.
    let owner = c.of-owner.result.bytes in
    let walked = c.in_ok-placed.field-0 in
    let read = sym c.in_ok-placed.ensures.read_only.same_bytes ∙ x_is in
    let listed : c.as_slice.result.now ≡ walked.unfilled.items = cc in
    subst (λ (slots : List Unfilled). AreUnfilled header_len slots x) (sym (listed ∙ c.in_ok-placed.ensures.unfilled x read))
    (unfilled_are owner (plain_log walked.placed) header_len x (c.in_ok-placed.ensures.gated x read))

pub returns-clause-filled : goal.returns-clause-filled
returns-clause-filled g c = λ x y x_is y_is.
    let key : c.of-owner.result.bytes ≡ c.args.owner.now.bytes = ap (λ (k : KeyParts). k.bytes) c.of-owner.ensures in
    let owner = c.of-owner.result.bytes in
    let walked = c.in_ok-placed.field-0 in
    let read = c.in-Ok.ensures.shown ∙ x_is in
    let listed : c.as_slice.result.now ≡ walked.unfilled.items = cc in
    c.in-Ok-fill_slots.ensures.filled x y (c.in_ok-placed.ensures.read_only.same_bytes ∙ read) y_is
    ∙ ap (λ (slots : List Unfilled). all_filled slots x) (listed ∙ c.in_ok-placed.ensures.unfilled x read)
    ∙ filled_is_filled owner (plain_log walked.placed) x (c.in_ok-placed.ensures.gated x read)
    ∙ ap (λ (k : List ℕ). slots_filled k (plain_log walked.placed) x) key

pub returns-in_default-fill_slots-clause-interrupted : goal.returns-in_default-fill_slots-clause-interrupted
returns-in_default-fill_slots-clause-interrupted g c = λ x y x_is y_is.
    let key : c.of-owner.result.bytes ≡ c.args.owner.now.bytes = ap (λ (k : KeyParts). k.bytes) c.of-owner.ensures in
    let owner = c.of-owner.result.bytes in
    let walked = c.in_ok-placed.field-0 in
    let read = c.in-Ok.ensures.shown ∙ x_is in
    let listed : c.as_slice.result.now ≡ walked.unfilled.items = cc in
    let leaves = c.in_default-fill_slots.ensures.left x y (c.in_ok-placed.ensures.read_only.same_bytes ∙ read) y_is in
    subst (λ (k : List ℕ). LeavesGated c.args.limits.store_bytes k x y) key
    (inr (
      plain_walked walked,
      c.in_ok-placed.ensures.verdict x read,
      left_is_left owner (plain_log walked.placed) x y (c.in_ok-placed.ensures.gated x read)
          (subst (λ (slots : List Unfilled). LeavesUnfilled slots x y) (listed ∙ c.in_ok-placed.ensures.unfilled x read) leaves),
    ))

pub returns-in_default-clause-interrupted : goal.returns-in_default-clause-interrupted
returns-in_default-clause-interrupted g c = λ x y x_is y_is.
    let both = sym y_is ∙ (c.in_default.ensures.shown ∙ x_is) in
    inl cc

pub returns-in_err-placed-clause-interrupted : goal.returns-in_err-placed-clause-interrupted
returns-in_err-placed-clause-interrupted g c =
    on_err c.from_residual.result (λ x y x_is y_is.
    let both = sym y_is ∙ (c.in_err-placed.ensures.read_only.same_bytes ∙ c.in-Ok.ensures.shown ∙ x_is) in
    inl cc)

pub returns-in_default-fill_slots-clause-left : goal.returns-in_default-fill_slots-clause-left
returns-in_default-fill_slots-clause-left g c = λ x y x_is y_is.
    let key : c.of-owner.result.bytes ≡ c.args.owner.now.bytes = ap (λ (k : KeyParts). k.bytes) c.of-owner.ensures in
    let owner = c.of-owner.result.bytes in
    let walked = c.in_ok-placed.field-0 in
    let read = c.in-Ok.ensures.shown ∙ x_is in
    let listed : c.as_slice.result.now ≡ walked.unfilled.items = cc in
    let leaves = c.in_default-fill_slots.ensures.left x y (c.in_ok-placed.ensures.read_only.same_bytes ∙ read) y_is in
    subst (λ (k : List ℕ). StillStand c.args.limits.store_bytes k x y) key
    (still_left c.args.limits.store_bytes owner x y (plain_walked walked) c.requires.known (c.in_ok-placed.ensures.verdict x read)
    (left_is_left owner (plain_log walked.placed) x y (c.in_ok-placed.ensures.gated x read)
    (subst (λ (slots : List Unfilled). LeavesUnfilled slots x y) (listed ∙ c.in_ok-placed.ensures.unfilled x read) leaves)))

pub returns-in_default-clause-left : goal.returns-in_default-clause-left
returns-in_default-clause-left g c = λ x y x_is y_is.
    let both = sym y_is ∙ (c.in_default.ensures.shown ∙ x_is) in
    let same : y ≡ x = cc in
    still_same c.args.limits.store_bytes c.args.owner.now.bytes x y same

pub returns-in_err-placed-clause-left : goal.returns-in_err-placed-clause-left
returns-in_err-placed-clause-left g c =
    on_err c.from_residual.result (λ x y x_is y_is.
    let both = sym y_is ∙ (c.in_err-placed.ensures.read_only.same_bytes ∙ c.in-Ok.ensures.shown ∙ x_is) in
    let same : y ≡ x = cc in
    still_same c.args.limits.store_bytes c.args.owner.now.bytes x y same)

pub returns-in_default-clause-time : goal.returns-in_default-clause-time
returns-in_default-clause-time g c =
    let D = g.D.Disk in
    let a = c.args.disk.now in
    let b = c.sync.new.self in
    goes_on_elapsed (D.moment a) (D.moment b) (D.since a) (D.since b) (D.shown a) (D.shown b) (D.may_leave a) (D.may_leave b)
    (λ s left at. g.met.D.Disk.only_now a s left at) (λ t s left early is leaves. g.met.D.Disk.counts_now a t s left early is leaves)
    (λ t s left early is leaves. g.met.D.Disk.counts_now b t s left early is leaves) c.sync.ensures.time

pub returns-in_default-clause-stops : goal.returns-in_default-clause-stops
returns-in_default-clause-stops g c =
    let D = g.D.Disk in
    let a = c.args.disk.now in
    let b = c.sync.new.self in
    opens_same c.args.limits.store_bytes c.args.owner.now.bytes (D.shown a) (D.may_leave a) (D.since b (D.moment a))
    (same_in_call D.shown D.may_leave D.moment D.since a b (λ s left at. g.met.D.Disk.only_now a s left at) c.sync.ensures.shown c.sync.ensures.stops c.sync.ensures.time)

pub returns-in_default-clause-ordered : goal.returns-in_default-clause-ordered
returns-in_default-clause-ordered g c =
    let D = g.D.Disk in
    let a = c.args.disk.now in
    let b = c.sync.new.self in
    ordered_same D.shown D.may_leave D.moment D.since a b c.args.limits.store_bytes c.args.owner.now.bytes c.sync.ensures.time.later (returns-in_default-clause-time g c)
    (same_in_call D.shown D.may_leave D.moment D.since a b (λ s left at. g.met.D.Disk.only_now a s left at) c.sync.ensures.shown c.sync.ensures.stops c.sync.ensures.time)

pub returns-in_default-clause-kept : goal.returns-in_default-clause-kept
returns-in_default-clause-kept g c =
    let D = g.D.Disk in
    let a = c.args.disk.now in
    keeps_held c.args.limits.store_bytes c.args.owner.now.bytes (D.shown a) (D.may_leave a) (D.since c.sync.new.self (D.moment a)) c.requires.known
    (returns-in_default-clause-stops g c)

pub returns-in_err-placed-clause-stops : goal.returns-in_err-placed-clause-stops
returns-in_err-placed-clause-stops g c =
    let D = g.D.Disk in
    let a = c.args.disk.now in
    let b = c.sync.new.self in
    let e = c.walk.new.disk in
    opens_read D a b e c.args.limits.store_bytes c.args.owner.now.bytes (λ s left at. g.met.D.Disk.only_now a s left at)
    c.sync.ensures.shown c.sync.ensures.stops c.sync.ensures.time
    (read_throughout D (λ d s left at. g.met.D.Disk.only_now d s left at) (λ d t s left early is leaves. g.met.D.Disk.counts_now d t s left early is leaves)
    c.sync.new.self c.walk.new.disk c.walk.ensures.read_only)

pub returns-in_err-placed-clause-ordered : goal.returns-in_err-placed-clause-ordered
returns-in_err-placed-clause-ordered g c =
    let D = g.D.Disk in
    let a = c.args.disk.now in
    let b = c.sync.new.self in
    let goes = goes_on_elapsed (D.moment a) (D.moment b) (D.since a) (D.since b) (D.shown a) (D.shown b) (D.may_leave a) (D.may_leave b)
    (λ s left at. g.met.D.Disk.only_now a s left at) (λ t s left early is leaves. g.met.D.Disk.counts_now a t s left early is leaves)
    (λ t s left early is leaves. g.met.D.Disk.counts_now b t s left early is leaves) c.sync.ensures.time in
    ordered_read D a b c.walk.new.disk c.args.limits.store_bytes c.args.owner.now.bytes (λ s left at. g.met.D.Disk.only_now a s left at)
    goes c.sync.ensures.shown c.sync.ensures.stops c.sync.ensures.time
    (read_throughout D (λ d s left at. g.met.D.Disk.only_now d s left at) (λ d t s left early is leaves. g.met.D.Disk.counts_now d t s left early is leaves)
    c.sync.new.self c.walk.new.disk c.walk.ensures.read_only)

pub returns-in_err-placed-clause-kept : goal.returns-in_err-placed-clause-kept
returns-in_err-placed-clause-kept g c =
    let D = g.D.Disk in
    let a = c.args.disk.now in
    keeps_held c.args.limits.store_bytes c.args.owner.now.bytes (D.shown a) (D.may_leave a) (D.since c.walk.new.disk (D.moment a)) c.requires.known
    (returns-in_err-placed-clause-stops g c)

pub returns-in_default-fill_slots-clause-time : goal.returns-in_default-fill_slots-clause-time
returns-in_default-fill_slots-clause-time g c =
    let D = g.D.Disk in
    time_in_all D c.args.disk.now c.sync.new.self c.walk.new.disk c.fill_slots.new.disk
    (λ d s left at. g.met.D.Disk.only_now d s left at) (λ d t s left early is leaves. g.met.D.Disk.counts_now d t s left early is leaves)
    c.sync.ensures.time
    (read_throughout D (λ d s left at. g.met.D.Disk.only_now d s left at) (λ d t s left early is leaves. g.met.D.Disk.counts_now d t s left early is leaves)
    c.sync.new.self c.walk.new.disk c.walk.ensures.read_only) c.fill_slots.ensures.time

pub returns-in_default-fill_slots-clause-stops : goal.returns-in_default-fill_slots-clause-stops
returns-in_default-fill_slots-clause-stops g c =
    let D = g.D.Disk in
    let a = c.args.disk.now in
    let b = c.sync.new.self in
    let e = c.walk.new.disk in
    let f = c.fill_slots.new.disk in
    let key : c.of-owner.result.bytes ≡ c.args.owner.now.bytes = ap (λ (k : KeyParts). k.bytes) c.of-owner.ensures in
    let owner = c.of-owner.result.bytes in
    let walked = c.in_ok-placed.field-0 in
    let listed : c.as_slice.result.now ≡ walked.unfilled.items = cc in
    let read = c.in_ok-placed.ensures.read_only.same_bytes in
    subst (λ (k : List ℕ). OpensThroughout c.args.limits.store_bytes k (D.shown a) (D.may_leave a) (D.since f (D.moment a))) key
    (opens_all D a b e f c.args.limits.store_bytes owner (plain_walked walked) (λ s left at. g.met.D.Disk.only_now a s left at)
    c.sync.ensures.shown c.sync.ensures.stops c.sync.ensures.time
    (read_throughout D (λ d s left at. g.met.D.Disk.only_now d s left at) (λ d t s left early is leaves. g.met.D.Disk.counts_now d t s left early is leaves)
    c.sync.new.self c.walk.new.disk c.walk.ensures.read_only) read c.fill_slots.ensures.time
    c.in_ok-placed.ensures.verdict
    (fills_log owner (plain_log walked.placed) c.as_slice.result.now (D.shown e) (D.since f (D.moment e))
    (λ x x_is. listed ∙ c.in_ok-placed.ensures.unfilled x (sym read ∙ x_is)) (λ x x_is. c.in_ok-placed.ensures.gated x (sym read ∙ x_is)) c.fill_slots.ensures.stops))

pub returns-in_default-fill_slots-clause-ordered : goal.returns-in_default-fill_slots-clause-ordered
returns-in_default-fill_slots-clause-ordered g c =
    let D = g.D.Disk in
    let a = c.args.disk.now in
    let b = c.sync.new.self in
    let e = c.walk.new.disk in
    let f = c.fill_slots.new.disk in
    let key : c.of-owner.result.bytes ≡ c.args.owner.now.bytes = ap (λ (k : KeyParts). k.bytes) c.of-owner.ensures in
    let owner = c.of-owner.result.bytes in
    let walked = c.in_ok-placed.field-0 in
    let listed : c.as_slice.result.now ≡ walked.unfilled.items = cc in
    let read = c.in_ok-placed.ensures.read_only.same_bytes in
    let goes = goes_on_elapsed (D.moment a) (D.moment b) (D.since a) (D.since b) (D.shown a) (D.shown b) (D.may_leave a) (D.may_leave b)
    (λ s left at. g.met.D.Disk.only_now a s left at) (λ t s left early is leaves. g.met.D.Disk.counts_now a t s left early is leaves)
    (λ t s left early is leaves. g.met.D.Disk.counts_now b t s left early is leaves) c.sync.ensures.time in
    subst (λ (k : List ℕ). OpensInOrder c.args.limits.store_bytes k (D.shown a) (FromThenOn D.moment D.since a f)) key
    (ordered_all D a b e f c.args.limits.store_bytes owner (plain_walked walked) (λ s left at. g.met.D.Disk.only_now a s left at)
    goes c.sync.ensures.shown c.sync.ensures.stops c.sync.ensures.time
    (read_throughout D (λ d s left at. g.met.D.Disk.only_now d s left at) (λ d t s left early is leaves. g.met.D.Disk.counts_now d t s left early is leaves)
    c.sync.new.self c.walk.new.disk c.walk.ensures.read_only) read c.fill_slots.ensures.later c.fill_slots.ensures.time
    c.in_ok-placed.ensures.verdict
    (fills_log owner (plain_log walked.placed) c.as_slice.result.now (D.shown e) (D.since f (D.moment e))
    (λ x x_is. listed ∙ c.in_ok-placed.ensures.unfilled x (sym read ∙ x_is)) (λ x x_is. c.in_ok-placed.ensures.gated x (sym read ∙ x_is)) c.fill_slots.ensures.stops))

pub returns-in_default-fill_slots-clause-kept : goal.returns-in_default-fill_slots-clause-kept
returns-in_default-fill_slots-clause-kept g c =
    let D = g.D.Disk in
    let a = c.args.disk.now in
    keeps_held c.args.limits.store_bytes c.args.owner.now.bytes (D.shown a) (D.may_leave a) (D.since c.fill_slots.new.disk (D.moment a)) c.requires.known
    (returns-in_default-fill_slots-clause-stops g c)

pub returns-clause-time : goal.returns-clause-time
returns-clause-time g c =
    let D = g.D.Disk in
    time_in_all D c.args.disk.now c.sync.new.self c.walk.new.disk c.fill_slots.new.disk
    (λ d s left at. g.met.D.Disk.only_now d s left at) (λ d t s left early is leaves. g.met.D.Disk.counts_now d t s left early is leaves)
    c.sync.ensures.time
    (read_throughout D (λ d s left at. g.met.D.Disk.only_now d s left at) (λ d t s left early is leaves. g.met.D.Disk.counts_now d t s left early is leaves)
    c.sync.new.self c.walk.new.disk c.walk.ensures.read_only) c.fill_slots.ensures.time

pub returns-clause-stops : goal.returns-clause-stops
returns-clause-stops g c =
    let D = g.D.Disk in
    let a = c.args.disk.now in
    let b = c.sync.new.self in
    let e = c.walk.new.disk in
    let f = c.fill_slots.new.disk in
    let key : c.of-owner.result.bytes ≡ c.args.owner.now.bytes = ap (λ (k : KeyParts). k.bytes) c.of-owner.ensures in
    let owner = c.of-owner.result.bytes in
    let walked = c.in_ok-placed.field-0 in
    let listed : c.as_slice.result.now ≡ walked.unfilled.items = cc in
    let read = c.in_ok-placed.ensures.read_only.same_bytes in
    subst (λ (k : List ℕ). OpensThroughout c.args.limits.store_bytes k (D.shown a) (D.may_leave a) (D.since f (D.moment a))) key
    (opens_all D a b e f c.args.limits.store_bytes owner (plain_walked walked) (λ s left at. g.met.D.Disk.only_now a s left at)
    c.sync.ensures.shown c.sync.ensures.stops c.sync.ensures.time
    (read_throughout D (λ d s left at. g.met.D.Disk.only_now d s left at) (λ d t s left early is leaves. g.met.D.Disk.counts_now d t s left early is leaves)
    c.sync.new.self c.walk.new.disk c.walk.ensures.read_only) read c.fill_slots.ensures.time
    c.in_ok-placed.ensures.verdict
    (fills_log owner (plain_log walked.placed) c.as_slice.result.now (D.shown e) (D.since f (D.moment e))
    (λ x x_is. listed ∙ c.in_ok-placed.ensures.unfilled x (sym read ∙ x_is)) (λ x x_is. c.in_ok-placed.ensures.gated x (sym read ∙ x_is)) c.fill_slots.ensures.stops))

pub returns-clause-ordered : goal.returns-clause-ordered
returns-clause-ordered g c =
    let D = g.D.Disk in
    let a = c.args.disk.now in
    let b = c.sync.new.self in
    let e = c.walk.new.disk in
    let f = c.fill_slots.new.disk in
    let key : c.of-owner.result.bytes ≡ c.args.owner.now.bytes = ap (λ (k : KeyParts). k.bytes) c.of-owner.ensures in
    let owner = c.of-owner.result.bytes in
    let walked = c.in_ok-placed.field-0 in
    let listed : c.as_slice.result.now ≡ walked.unfilled.items = cc in
    let read = c.in_ok-placed.ensures.read_only.same_bytes in
    let goes = goes_on_elapsed (D.moment a) (D.moment b) (D.since a) (D.since b) (D.shown a) (D.shown b) (D.may_leave a) (D.may_leave b)
    (λ s left at. g.met.D.Disk.only_now a s left at) (λ t s left early is leaves. g.met.D.Disk.counts_now a t s left early is leaves)
    (λ t s left early is leaves. g.met.D.Disk.counts_now b t s left early is leaves) c.sync.ensures.time in
    subst (λ (k : List ℕ). OpensInOrder c.args.limits.store_bytes k (D.shown a) (FromThenOn D.moment D.since a f)) key
    (ordered_all D a b e f c.args.limits.store_bytes owner (plain_walked walked) (λ s left at. g.met.D.Disk.only_now a s left at)
    goes c.sync.ensures.shown c.sync.ensures.stops c.sync.ensures.time
    (read_throughout D (λ d s left at. g.met.D.Disk.only_now d s left at) (λ d t s left early is leaves. g.met.D.Disk.counts_now d t s left early is leaves)
    c.sync.new.self c.walk.new.disk c.walk.ensures.read_only) read c.fill_slots.ensures.later c.fill_slots.ensures.time
    c.in_ok-placed.ensures.verdict
    (fills_log owner (plain_log walked.placed) c.as_slice.result.now (D.shown e) (D.since f (D.moment e))
    (λ x x_is. listed ∙ c.in_ok-placed.ensures.unfilled x (sym read ∙ x_is)) (λ x x_is. c.in_ok-placed.ensures.gated x (sym read ∙ x_is)) c.fill_slots.ensures.stops))

pub returns-clause-kept : goal.returns-clause-kept
returns-clause-kept g c =
    let D = g.D.Disk in
    let a = c.args.disk.now in
    keeps_held c.args.limits.store_bytes c.args.owner.now.bytes (D.shown a) (D.may_leave a) (D.since c.fill_slots.new.disk (D.moment a)) c.requires.known
    (returns-clause-stops g c)

pub returns-in_default-clause-hands : goal.returns-in_default-clause-hands
returns-in_default-clause-hands g c = λ x x_is.
    let D = g.D.Disk in
    let a = c.args.disk.now in
    let b = c.sync.new.self in
    hands_nothing (opening_writes c.args.limits.store_bytes c.args.owner.now.bytes x) _ (D.shown a) (D.shown b) (D.since b (D.moment a))
    (λ s left at. (same_in_call D.shown D.may_leave D.moment D.since a b (λ s left at. g.met.D.Disk.only_now a s left at) c.sync.ensures.shown c.sync.ensures.stops c.sync.ensures.time s left at).0)

pub returns-in_err-placed-clause-hands : goal.returns-in_err-placed-clause-hands
returns-in_err-placed-clause-hands g c = λ x x_is.
    let D = g.D.Disk in
    let a = c.args.disk.now in
    let b = c.sync.new.self in
    let e = c.walk.new.disk in
    hands_nothing (opening_writes c.args.limits.store_bytes c.args.owner.now.bytes x) _ (D.shown a) (D.shown e) (D.since e (D.moment a))
    (shown_in_reading D a b e (λ s left at. g.met.D.Disk.only_now a s left at) c.sync.ensures.shown c.sync.ensures.stops c.sync.ensures.time (read_throughout D (λ d s left at. g.met.D.Disk.only_now d s left at) (λ d t s left early is leaves. g.met.D.Disk.counts_now d t s left early is leaves) b e c.walk.ensures.read_only))

pub returns-in_default-fill_slots-clause-hands : goal.returns-in_default-fill_slots-clause-hands
returns-in_default-fill_slots-clause-hands g c =
    let D = g.D.Disk in
    let a = c.args.disk.now in
    let b = c.sync.new.self in
    let e = c.walk.new.disk in
    let f = c.fill_slots.new.disk in
    let key : c.of-owner.result.bytes ≡ c.args.owner.now.bytes = ap (λ (k : KeyParts). k.bytes) c.of-owner.ensures in
    let owner = c.of-owner.result.bytes in
    let walked = c.in_ok-placed.field-0 in
    let listed : c.as_slice.result.now ≡ walked.unfilled.items = cc in
    subst (λ (k : List ℕ). HandsOpening c.args.limits.store_bytes k _ (D.shown a) (D.shown f) (D.since f (D.moment a))) key
    (hands_opening D a b e f c.args.limits.store_bytes owner (plain_walked walked) c.as_slice.result.now (IsErr c.fill_slots.result) _
    (λ s left at. g.met.D.Disk.only_now a s left at) c.sync.ensures.shown c.sync.ensures.stops c.sync.ensures.time (read_throughout D (λ d s left at. g.met.D.Disk.only_now d s left at) (λ d t s left early is leaves. g.met.D.Disk.counts_now d t s left early is leaves) b e c.walk.ensures.read_only) c.in_ok-placed.ensures.read_only.same_bytes
    c.fill_slots.ensures.time c.in_ok-placed.ensures.verdict (λ x x_is. listed ∙ c.in_ok-placed.ensures.unfilled x x_is) (λ err. refl) c.fill_slots.ensures.hands)

pub returns-clause-hands : goal.returns-clause-hands
returns-clause-hands g c =
    let D = g.D.Disk in
    let a = c.args.disk.now in
    let b = c.sync.new.self in
    let e = c.walk.new.disk in
    let f = c.fill_slots.new.disk in
    let key : c.of-owner.result.bytes ≡ c.args.owner.now.bytes = ap (λ (k : KeyParts). k.bytes) c.of-owner.ensures in
    let owner = c.of-owner.result.bytes in
    let walked = c.in_ok-placed.field-0 in
    let listed : c.as_slice.result.now ≡ walked.unfilled.items = cc in
    opening_failing c.args.limits.store_bytes c.args.owner.now.bytes ⊥ _ (D.shown a) (D.shown f) (D.since f (D.moment a)) (λ never. absurd never)
    (subst (λ (k : List ℕ). HandsOpening c.args.limits.store_bytes k ⊥ (D.shown a) (D.shown f) (D.since f (D.moment a))) key
    (hands_opening D a b e f c.args.limits.store_bytes owner (plain_walked walked) c.as_slice.result.now _ ⊥
    (λ s left at. g.met.D.Disk.only_now a s left at) c.sync.ensures.shown c.sync.ensures.stops c.sync.ensures.time (read_throughout D (λ d s left at. g.met.D.Disk.only_now d s left at) (λ d t s left early is leaves. g.met.D.Disk.counts_now d t s left early is leaves) b e c.walk.ensures.read_only) c.in_ok-placed.ensures.read_only.same_bytes
    c.fill_slots.ensures.time c.in_ok-placed.ensures.verdict (λ x x_is. listed ∙ c.in_ok-placed.ensures.unfilled x x_is) (λ err. absurd (cc)) c.in-Ok-fill_slots.ensures.hands))
