use Rattle.std.proofs.Common.{◌≡◌, Ok, Err, ap, inr, subst}
use Rattle.std.proofs.lemmas.Result.{err_from_is_err_and}
use Rattle.batch_log.specs.Moments.{FromThenOn}
use Rattle.chacha_seal.specs.Keys.{KeyParts}
use Rattle.cry_io.specs.Told.{WhereTold, WhereBothTold}
use Rattle.commit_journal.specs.Answering.{IsFault}
use Rattle.commit_journal.specs.declared.fault.OpenFault.TheVariants as faults
use Rattle.commit_journal.specs.Handing.{HandsOpening}
use Rattle.commit_journal.specs.Moments.{OpensInOrder, OpensThroughout}
use Rattle.commit_journal.specs.Opening.{IsOpened, LeavesGated, opening_verdict, plain_opened, slots_filled}
use Rattle.commit_journal.specs.Placed.{plain_log}
use Rattle.commit_journal.specs.WholeLogs.{StillStand}
use Rattle.commit_journal.proofs.CommitLemmas.{on_err}
use Rattle.commit_journal.proofs.SlotsWritten.{opening_failing}
use Rattle.store_owner.proofs.OpenedBehind.{journal_filled, journal_left, journal_never, journal_settled, journal_stands, largest_verdict, same_verdict}
use Rattle.store_owner.proofs.OpenedContents.{log_fails}
use Rattle.store_owner.proofs.OpenedKept.{journals_kept}
use Rattle.store_owner.proofs.PublishedCommands.{opening_published}
use Rattle.store_owner.proofs.RefusedStores.{behind_kept, goes_on_behind, is_filled, is_gated, ok_is_no_fault, on_each, on_ok, same_fault, untouched_refused}
use Rattle.store_owner.proofs.owner.Owner.open_store.Goals as goal

pub returns-in_err-opened-clause-verdict : goal.returns-in_err-opened-clause-verdict
returns-in_err-opened-clause-verdict g c = λ s is.
    let p = err_from_is_err_and c.from_residual.result c.from_residual.ensures.1 in
    let limit = c.args.limits.store_bytes in
    let fault = c.in_err-opened.field-0.0 in
    let bytes = ap (λ (k : KeyParts). k.bytes) c.owner-owner.ensures in
    rw (p.1, p.2)
    (log_fails fault c.args.key (opening_verdict limit c.args.key s)
    (subst (λ b. IsFault fault (opening_verdict limit b s)) bytes (c.in_err-opened.ensures.verdict s is)))

pub returns-in_err-opened-clause-largest : goal.returns-in_err-opened-clause-largest
returns-in_err-opened-clause-largest g c = λ most s is.
    largest_verdict c.args.limits.store_bytes c.args.key s c.from_residual.result most (returns-in_err-opened-clause-verdict g c s is)

pub returns-in_err-opened-clause-never : goal.returns-in_err-opened-clause-never
returns-in_err-opened-clause-never g c =
    journal_never c.args.limits.store_bytes c.args.key (g.D.Disk.shown c.args.disk.now) c.from_residual.result c.requires.known (returns-in_err-opened-clause-verdict g c)

pub returns-clause-verdict : goal.returns-clause-verdict
returns-clause-verdict g c = λ s is.
    let limit = c.args.limits.store_bytes in
    let bytes = ap (λ (k : KeyParts). k.bytes) c.owner-owner.ensures in
    same_verdict limit c.args.key s c.in_ok-opened.opened c.owner_behind.result
    (subst (λ b. opening_verdict limit b s ≡ Ok (plain_opened c.in_ok-opened.opened)) bytes (c.in_ok-opened.ensures.verdict s is)) c.owner_behind.ensures.answer

pub returns-clause-largest : goal.returns-clause-largest
returns-clause-largest g c = λ most s is.
    largest_verdict c.args.limits.store_bytes c.args.key s c.owner_behind.result most (returns-clause-verdict g c s is)

pub returns-clause-never : goal.returns-clause-never
returns-clause-never g c =
    journal_never c.args.limits.store_bytes c.args.key (g.D.Disk.shown c.args.disk.now) c.owner_behind.result c.requires.known (returns-clause-verdict g c)

pub returns-clause-stands : goal.returns-clause-stands
returns-clause-stands g c =
    let limit = c.args.limits.store_bytes in
    let o = c.in_ok-opened.opened in
    let bytes = ap (λ (k : KeyParts). k.bytes) c.owner-owner.ensures in
    journal_stands limit c.args.limits.file_bytes c.args.key o (g.D.Disk.shown c.args.disk.now) c.owner_behind.result c.requires.known
    (subst (λ b. IsOpened b limit o.journal) bytes c.in_ok-opened.ensures.opened)
    (subst (λ b. WhereTold (g.D.Disk.shown c.args.disk.now) (λ s. opening_verdict limit b s ≡ Ok (plain_opened o))) bytes c.in_ok-opened.ensures.verdict)
    c.owner_behind.ensures.answer c.owner_behind.ensures.journal c.owner_behind.ensures.fresh

pub returns-clause-log : goal.returns-clause-log
returns-clause-log g c =
    let limit = c.args.limits.store_bytes in
    let o = c.in_ok-opened.opened in
    let bytes = ap (λ (k : KeyParts). k.bytes) c.owner-owner.ensures in
    goes_on_behind limit c.args.key o (g.D.Disk.shown c.args.disk.now) c.owner_behind.result
    (subst (λ b. WhereTold (g.D.Disk.shown c.args.disk.now) (λ s. opening_verdict limit b s ≡ Ok (plain_opened o))) bytes c.in_ok-opened.ensures.verdict)
    c.owner_behind.ensures.journal

pub returns-clause-settled : goal.returns-clause-settled
returns-clause-settled g c =
    let limit = c.args.limits.store_bytes in
    let o = c.in_ok-opened.opened in
    let was = g.D.Disk.shown c.args.disk.now in
    let shows = g.D.Disk.shown c.open_owner.new.disk in
    let bytes = ap (λ (k : KeyParts). k.bytes) c.owner-owner.ensures in
    journal_settled limit c.args.key o was shows (g.D.Disk.may_leave c.open_owner.new.disk) c.owner_behind.result c.requires.known
    (subst (λ b. WhereTold was (λ s. opening_verdict limit b s ≡ Ok (plain_opened o))) bytes c.in_ok-opened.ensures.verdict)
    (subst (λ b. WhereBothTold was shows (λ x y. y ≡ slots_filled b (plain_log o.placed) x)) bytes c.in_ok-opened.ensures.filled)
    c.in_ok-opened.ensures.told c.in_ok-opened.ensures.durable

pub returns-in_err-opened-clause-left : goal.returns-in_err-opened-clause-left
returns-in_err-opened-clause-left g c =
    let limit = c.args.limits.store_bytes in
    let was = g.D.Disk.shown c.args.disk.now in
    let shows = g.D.Disk.shown c.open_owner.new.disk in
    let bytes = ap (λ (k : KeyParts). k.bytes) c.owner-owner.ensures in
    on_err c.from_residual.result
    (journal_left limit c.args.key was shows (subst (λ b. WhereBothTold was shows (StillStand limit b)) bytes c.in_err-opened.ensures.left))

pub returns-clause-left : goal.returns-clause-left
returns-clause-left g c =
    let limit = c.args.limits.store_bytes in
    let o = c.in_ok-opened.opened in
    let was = g.D.Disk.shown c.args.disk.now in
    let shows = g.D.Disk.shown c.open_owner.new.disk in
    let bytes = ap (λ (k : KeyParts). k.bytes) c.owner-owner.ensures in
    on_err c.owner_behind.result
    (journal_filled limit c.args.key o was shows c.requires.known
    (subst (λ b. WhereTold was (λ s. opening_verdict limit b s ≡ Ok (plain_opened o))) bytes c.in_ok-opened.ensures.verdict)
    (subst (λ b. WhereBothTold was shows (λ x y. y ≡ slots_filled b (plain_log o.placed) x)) bytes c.in_ok-opened.ensures.filled))

-- ---- what is left of the disk

pub returns-in_err-opened-clause-refused : goal.returns-in_err-opened-clause-refused
returns-in_err-opened-clause-refused g c =
    let p = err_from_is_err_and c.from_residual.result c.from_residual.ensures.1 in
    rw (p.1, p.2)
    (untouched_refused g.D.Disk.shown g.D.Disk.size_of g.D.Disk.may_leave c.args.limits.store_bytes c.args.key c.args.disk.now c.open_owner.new.disk
    c.in_err-opened.field-0.0 c.in_err-opened.ensures.refused)

pub returns-in_err-opened-clause-interrupted : goal.returns-in_err-opened-clause-interrupted
returns-in_err-opened-clause-interrupted g c =
    let limit = c.args.limits.store_bytes in
    let was = g.D.Disk.shown c.args.disk.now in
    let shows = g.D.Disk.shown c.open_owner.new.disk in
    let bytes = ap (λ (k : KeyParts). k.bytes) c.owner-owner.ensures in
    on_err c.from_residual.result (subst (λ b. WhereBothTold was shows (LeavesGated limit b)) bytes c.in_err-opened.ensures.interrupted)

pub returns-clause-filled : goal.returns-clause-filled
returns-clause-filled g c =
    let limit = c.args.limits.store_bytes in
    let o = c.in_ok-opened.opened in
    let was = g.D.Disk.shown c.args.disk.now in
    let shows = g.D.Disk.shown c.open_owner.new.disk in
    let bytes = ap (λ (k : KeyParts). k.bytes) c.owner-owner.ensures in
    on_ok _ c.owner_behind.result
    (is_filled limit c.args.key o was shows
    (subst (λ b. WhereTold was (λ s. opening_verdict limit b s ≡ Ok (plain_opened o))) bytes c.in_ok-opened.ensures.verdict)
    (subst (λ b. WhereBothTold was shows (λ x y. y ≡ slots_filled b (plain_log o.placed) x)) bytes c.in_ok-opened.ensures.filled))

pub returns-clause-interrupted : goal.returns-clause-interrupted
returns-clause-interrupted g c =
    let limit = c.args.limits.store_bytes in
    let o = c.in_ok-opened.opened in
    let was = g.D.Disk.shown c.args.disk.now in
    let shows = g.D.Disk.shown c.open_owner.new.disk in
    let bytes = ap (λ (k : KeyParts). k.bytes) c.owner-owner.ensures in
    on_err c.owner_behind.result
    (is_gated limit c.args.key o was shows
    (subst (λ b. WhereTold was (λ s. opening_verdict limit b s ≡ Ok (plain_opened o))) bytes c.in_ok-opened.ensures.verdict)
    (subst (λ b. WhereBothTold was shows (λ x y. y ≡ slots_filled b (plain_log o.placed) x)) bytes c.in_ok-opened.ensures.filled))

pub returns-clause-refused : goal.returns-clause-refused
returns-clause-refused g c =
    let limit = c.args.limits.store_bytes in
    let o = c.in_ok-opened.opened in
    let was = g.D.Disk.shown c.args.disk.now in
    let shows = g.D.Disk.shown c.open_owner.new.disk in
    let bytes = ap (λ (k : KeyParts). k.bytes) c.owner-owner.ensures in
    on_each _ c.owner_behind.result (λ fault. inr (inr (
      c.in_ok-opened.ensures.size,
      is_filled limit c.args.key o was shows
          (subst (λ b. WhereTold was (λ s. opening_verdict limit b s ≡ Ok (plain_opened o))) bytes c.in_ok-opened.ensures.verdict)
          (subst (λ b. WhereBothTold was shows (λ x y. y ≡ slots_filled b (plain_log o.placed) x)) bytes c.in_ok-opened.ensures.filled),
      c.in_ok-opened.ensures.durable,
    )))

pub returns-clause-behind : goal.returns-clause-behind
returns-clause-behind g c =
    let limit = c.args.limits.store_bytes in
    let o = c.in_ok-opened.opened in
    let was = g.D.Disk.shown c.args.disk.now in
    let shows = g.D.Disk.shown c.open_owner.new.disk in
    let bytes = ap (λ (k : KeyParts). k.bytes) c.owner-owner.ensures in
    on_ok _ c.owner_behind.result
    (behind_kept limit c.args.key o was shows
    (subst (λ b. WhereTold was (λ s. opening_verdict limit b s ≡ Ok (plain_opened o))) bytes c.in_ok-opened.ensures.verdict)
    (subst (λ b. WhereBothTold was shows (λ x y. y ≡ slots_filled b (plain_log o.placed) x)) bytes c.in_ok-opened.ensures.filled) c.requires.known)

pub returns-in_err-opened-clause-stops : goal.returns-in_err-opened-clause-stops
returns-in_err-opened-clause-stops g c =
    let D = g.D.Disk in
    let a = c.args.disk.now in
    let since = D.since c.open_owner.new.disk (D.moment a) in
    let bytes = ap (λ (k : KeyParts). k.bytes) c.owner-owner.ensures in
    subst (λ b. OpensThroughout c.args.limits.store_bytes b (D.shown a) (D.may_leave a) since) bytes c.open_owner.ensures.stops

pub returns-clause-stops : goal.returns-clause-stops
returns-clause-stops g c =
    let D = g.D.Disk in
    let a = c.args.disk.now in
    let since = D.since c.open_owner.new.disk (D.moment a) in
    let bytes = ap (λ (k : KeyParts). k.bytes) c.owner-owner.ensures in
    subst (λ b. OpensThroughout c.args.limits.store_bytes b (D.shown a) (D.may_leave a) since) bytes c.open_owner.ensures.stops

pub returns-in_err-opened-clause-kept : goal.returns-in_err-opened-clause-kept
returns-in_err-opened-clause-kept g c =
    let D = g.D.Disk in
    let a = c.args.disk.now in
    let limit = c.args.limits.store_bytes in
    let since = D.since c.open_owner.new.disk (D.moment a) in
    let bytes = ap (λ (k : KeyParts). k.bytes) c.owner-owner.ensures in
    journals_kept limit c.args.key (D.shown a) (D.may_leave a) since c.requires.known
    (subst (λ b. OpensThroughout limit b (D.shown a) (D.may_leave a) since) bytes c.open_owner.ensures.stops)

pub returns-clause-kept : goal.returns-clause-kept
returns-clause-kept g c =
    let D = g.D.Disk in
    let a = c.args.disk.now in
    let limit = c.args.limits.store_bytes in
    let since = D.since c.open_owner.new.disk (D.moment a) in
    let bytes = ap (λ (k : KeyParts). k.bytes) c.owner-owner.ensures in
    journals_kept limit c.args.key (D.shown a) (D.may_leave a) since c.requires.known
    (subst (λ b. OpensThroughout limit b (D.shown a) (D.may_leave a) since) bytes c.open_owner.ensures.stops)

pub returns-in_err-opened-clause-published : goal.returns-in_err-opened-clause-published
returns-in_err-opened-clause-published g c =
    let D = g.D.Disk in
    let a = c.args.disk.now in
    let limit = c.args.limits.store_bytes in
    let e = c.open_owner.new.disk in
    let bytes = ap (λ (k : KeyParts). k.bytes) c.owner-owner.ensures in
    opening_published g.row.D.Denot D.moment D.since a e limit c.args.key (D.shown a) (D.may_leave a) c.requires.known
    (subst (λ b. OpensThroughout limit b (D.shown a) (D.may_leave a) (D.since e (D.moment a))) bytes c.open_owner.ensures.stops)
    (subst (λ b. OpensInOrder limit b (D.shown a) (FromThenOn D.moment D.since a e)) bytes c.open_owner.ensures.ordered)

pub returns-clause-published : goal.returns-clause-published
returns-clause-published g c =
    let D = g.D.Disk in
    let a = c.args.disk.now in
    let limit = c.args.limits.store_bytes in
    let e = c.open_owner.new.disk in
    let bytes = ap (λ (k : KeyParts). k.bytes) c.owner-owner.ensures in
    opening_published g.row.D.Denot D.moment D.since a e limit c.args.key (D.shown a) (D.may_leave a) c.requires.known
    (subst (λ b. OpensThroughout limit b (D.shown a) (D.may_leave a) (D.since e (D.moment a))) bytes c.open_owner.ensures.stops)
    (subst (λ b. OpensInOrder limit b (D.shown a) (FromThenOn D.moment D.since a e)) bytes c.open_owner.ensures.ordered)

-- ---- what the disk is handed

pub returns-in_err-opened-clause-hands : goal.returns-in_err-opened-clause-hands
returns-in_err-opened-clause-hands g c =
    let D = g.D.Disk in
    let a = c.args.disk.now in
    let b = c.open_owner.new.disk in
    let limit = c.args.limits.store_bytes in
    let p = err_from_is_err_and c.from_residual.result c.from_residual.ensures.1 in
    let bytes = ap (λ (k : KeyParts). k.bytes) c.owner-owner.ensures in
    subst (λ k. HandsOpening limit k (c.from_residual.result ≡ Err faults.DiskFault) (D.shown a) (D.shown b) (D.since b (D.moment a))) bytes
    (opening_failing limit c.owner-owner.result.bytes _ (c.from_residual.result ≡ Err faults.DiskFault) (D.shown a) (D.shown b) (D.since b (D.moment a))
    (λ fault. same_fault c.from_residual.result p.0 c.in_err-opened.field-0.0 faults.DiskFault p.1 p.2 fault) c.in_err-opened.ensures.hands)

pub returns-clause-hands : goal.returns-clause-hands
returns-clause-hands g c =
    let D = g.D.Disk in
    let a = c.args.disk.now in
    let b = c.open_owner.new.disk in
    let limit = c.args.limits.store_bytes in
    let bytes = ap (λ (k : KeyParts). k.bytes) c.owner-owner.ensures in
    subst (λ k. HandsOpening limit k (c.owner_behind.result ≡ Err faults.DiskFault) (D.shown a) (D.shown b) (D.since b (D.moment a))) bytes
    (opening_failing limit c.owner-owner.result.bytes _ (c.owner_behind.result ≡ Err faults.DiskFault) (D.shown a) (D.shown b) (D.since b (D.moment a))
    (λ fault. absurd (ok_is_no_fault c.in_ok-opened.opened faults.DiskFault fault)) c.in_ok-opened.ensures.hands)
