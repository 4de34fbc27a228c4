use Rattle.std.proofs.Common.{◌≡◌, ◌<◌, ◌≤◌, ◌*◌, ◌^◌, ◌++◌, ◌∙◌, List, Ok, ap, length, replicate, subst, sym, ℕ}
use Rattle.batch_log.specs.Moments.{FromThenOn}
use Rattle.cry_base.specs.Limits.{most_file_bytes, most_store_bytes}
use Rattle.cry_base.specs.declared.memory.OutOfMemory.{OutOfMemory}
use Rattle.cry_io.specs.Stops.{IsDurable}
use Rattle.record_format.specs.Told.{told_note}
use Rattle.public_fold.specs.Journal.{store_of}
use Rattle.public_fold.specs.declared.heads.Skeleton.{Skeleton}
use Rattle.journal_bytes.specs.Folds.{public_stand}
use Rattle.journal_bytes.specs.Keys.{AreWhole}
use Rattle.store_owner.specs.Deeds.{deed_key, deed_of, deed_then}
use Rattle.store_owner.specs.Applying.{IsCarriedOut, IsCutShort, IsDone, IsInterrupted}
use Rattle.store_owner.specs.Drawing.{AreKeys, joined}
use Rattle.store_owner.specs.Owned.{IsOwnerOf, OwnerView}
use Rattle.store_owner.specs.Planning.{AnswersPlan, reply_for}
use Rattle.store_owner.specs.Sound.{IsSound, own_store}
use Rattle.store_owner.specs.Stopping.{HandsAll, StopsBetween}
use Rattle.store_owner.specs.declared.apply_fault.ApplyFault.TheVariants as faults
use Rattle.store_owner.specs.declared.owner.Verdict.{Verdict}
use Rattle.store_owner.specs.declared.owner.Verdict.TheVariants as verdicts
use Rattle.store_owner.proofs.Applied.{all_ok, carried_answer, reply_due, undrawn_answer}
use Rattle.store_owner.proofs.Measured.{accepted_journal}
use Rattle.store_owner.proofs.OwnAnswers.{carried_acts, undrawn_acts}
use Rattle.store_owner.proofs.OtherRoom.{accepted_still, carried_from, handed_from, limit_still, published_from, sound_still, stops_from, store_still, suits_still, interrupted_from}
use Rattle.std.proofs.lemmas.Result.{on_err_weaker}
use Rattle.store_owner.proofs.Tallies.{carried_counts}
use Rattle.store_owner.proofs.StoppedCommands.{rests_then}
use Rattle.store_owner.proofs.Taken.{are_planned, err_is, failed, falls_short, never_short, takes_filled, takes_none}
use Rattle.store_owner.proofs.owner.Owner.perform.Goals as goal

pub returns-in-Err-fill-clause-answers : goal.returns-in-Err-fill-clause-answers
returns-in-Err-fill-clause-answers g c = λ m is.
    let o : OwnerView = c.args.self.now in
    let r = deed_of c.args.asked.now in
    let planned : AnswersPlan {E = OutOfMemory} (Ok (verdicts.Planned c.in-Ok-Planned.change c.in-Ok-Planned.room)) r o c.plan.new.self =
    subst (λ (v : Verdict). AnswersPlan {E = OutOfMemory} (Ok v) r o c.plan.new.self) c.in-Ok-Planned.field-0-is c.in-Ok-Planned.ensures.answers in
    let draws = planned.4 m is in
    undrawn_answer c.in-Err-fill.fault c.in-Ok.keys m r o c.plan.new.self (g.R.Source.left c.args.random.now) (g.R.Source.left c.fill.new.random) (g.D.Disk.shown c.args.disk.now) (g.D.Disk.shown c.args.disk.now)
    (g.D.Disk.may_leave c.args.disk.now) (g.D.Disk.may_leave c.args.disk.now) (g.D.Disk.since c.args.disk.now (g.D.Disk.moment c.args.disk.now))
    (planned.2 m is) c.plan.ensures.room (c.in-Ok.ensures ∙ ap length c.as_slice-count.ensures ∙ ap (λ (s : Skeleton). length s.keys.items) c.skeleton.ensures ∙ draws.0) draws.1
    c.in-Err-fill.ensures.faults c.in-Err-fill.ensures.bytes c.in-Err-fill.ensures.told (c.disk_stands_still.ensures.rests o.key m)

pub returns-in-Ok-Full-clause-answers : goal.returns-in-Ok-Full-clause-answers
returns-in-Ok-Full-clause-answers g c = λ m is.
    let o : OwnerView = c.args.self.now in
    let full : AnswersPlan {E = OutOfMemory} (Ok verdicts.Full) (deed_of c.args.asked.now) o c.plan.new.self =
    subst (λ (v : Verdict). AnswersPlan {E = OutOfMemory} (Ok v) (deed_of c.args.asked.now) o c.plan.new.self) c.in-Ok-Full.field-0-is c.in-Ok-Full.ensures.answers in
    (full.1 m is, full.0, c.disk_stands_still.ensures.rests o.key m)

pub returns-in-Err-clause-answers : goal.returns-in-Err-clause-answers
returns-in-Err-clause-answers g c = λ m is. (c.plan.ensures.room, c.disk_stands_still.ensures.rests c.args.self.now.key m)

pub returns-in_default-clause-answers : goal.returns-in_default-clause-answers
returns-in_default-clause-answers g c = λ m is. (c.plan.ensures.room, c.disk_stands_still.ensures.rests c.args.self.now.key m)

pub carry_out-requires-clause-suits : goal.carry_out-requires-clause-suits
carry_out-requires-clause-suits g c = suits_still (deed_of c.args.asked.now) c.args.self.now c.plan.new.self c.plan.ensures.room c.requires.suits

pub carry_out-requires-clause-accepted : goal.carry_out-requires-clause-accepted
carry_out-requires-clause-accepted g c =
    let o : OwnerView = c.args.self.now in
    accepted_still (deed_of c.args.asked.now) o c.plan.new.self c.plan.ensures.room (c.requires.accepted (own_store o) (c.sound_owners_keep_a_store.ensures.store o))

pub returns-clause-answers : goal.returns-clause-answers
returns-clause-answers g c = λ m is.
    let o : OwnerView = c.args.self.now in
    let r = deed_of c.args.asked.now in
    let planned : AnswersPlan {E = OutOfMemory} (Ok (verdicts.Planned c.in-Ok-Planned.change c.in-Ok-Planned.room)) r o c.plan.new.self =
    subst (λ (v : Verdict). AnswersPlan {E = OutOfMemory} (Ok v) r o c.plan.new.self) c.in-Ok-Planned.field-0-is c.in-Ok-Planned.ensures.answers in
    let mid = c.plan.new.self in
    let new = c.carry_out.new.self in
    let note = c.in-Ok-Planned.change.note in
    let drawn = c.as_slice.result.now in
    let was = g.D.Disk.shown c.args.disk.now in
    let shows = g.D.Disk.shown c.carry_out.new.disk in
    let before = g.R.Source.left c.args.random.now in
    let after = g.R.Source.left c.fill.new.random in
    let limit : o.journal.limit ≤ most_store_bytes = subst (λ (x : OwnerView). x.journal.limit ≤ most_store_bytes) c.self.view_is c.journal_is_within.ensures.bound in
    let bounded : o.file_bytes ≤ most_file_bytes = subst (λ (x : OwnerView). x.file_bytes ≤ most_file_bytes) c.self.view_is (c.self.invariant (ap (λ (x : OwnerView). x.journal.is_closed) c.self.view_is ∙ c.requires.open)).0.bounded in
    let store = c.owners_keep_the_store.ensures m o is in
    let refused = accepted_journal m o r o.file_bytes is (c.requires.accepted (store_of m) store) in
    let might = g.D.Disk.may_leave c.args.disk.now in
    let may = g.D.Disk.may_leave c.carry_out.new.disk in
    let since = g.D.Disk.since c.carry_out.new.disk (g.D.Disk.moment c.args.disk.now) in
    let then = deed_then m o.journal.has_epoch r drawn in
    let stops : StopsBetween o.key m then was shows might may since =
    stops_from r drawn o mid was shows might may since c.plan.ensures.room c.carry_out.ensures.stops m is limit bounded (planned.2 m is) in
    let done : IsCarriedOut r drawn mid new was shows × IsDurable may shows × HandsAll r drawn mid was shows → IsDone m r (reply_for note drawn) o new before after was shows might may since = λ h.
    let full : IsCarriedOut r drawn o new was shows = carried_from r drawn o mid new was shows c.plan.ensures.room h.0 in
    let owner : IsOwnerOf then new = c.owners_go_on.ensures.owner m r drawn o new was shows is limit bounded (planned.2 m is) c.requires.suits full in
    let disk = c.owners_go_on.ensures.disk m r drawn o new was shows is limit bounded (planned.2 m is) c.requires.suits full in
    record {
      drawn = drawn;
      drawn_count = full.sealed.drawn_count ∙ c.commands_are_measured.ensures.draws m r o full.sealed.skeleton is refused (full.sealed.is_skeleton (public_stand m) (store_of m) is.seen store);
      drawn_sizes = full.sealed.drawn_sizes;
      accepted = planned.2 m is;
      reply_is = reply_due m r note (replicate 32 0) drawn (planned.0.told (store_of m) (store_still (store_of m) o mid c.plan.ensures.room store));
      owner_is = owner;
      has_begun = full.has_begun;
      same_key = full.same_key;
      same_limits = ap (λ n. record { store_bytes = n; file_bytes = new.file_bytes }) full.same_limit ∙ ap (λ n. record { store_bytes = o.journal.limit; file_bytes = n }) full.same_bound;
      next_bytes = λ x y a b. c.in-Ok-fill.ensures.bytes x y a b ∙ ap (λ (d : List (List ℕ)). joined d ++ y) (sym c.as_slice.ensures);
      disk_stands = disk;
      further = c.owners_go_on.ensures.further r drawn o new was shows full;
      disk_behind = c.owners_go_on.ensures.behind m r drawn o new was shows is limit bounded (planned.2 m is) c.requires.suits full;
      comes_to_rest = record {
        stops = stops;
        rests = rests_then o.key m then was shows might may owner.valid (subst (λ key. AreWhole key then) full.same_key owner.whole_keys) c.carry_out.ensures.told disk h.1;
        handed = handed_from r drawn o mid was shows c.plan.ensures.room h.2 m is limit bounded (planned.2 m is);
      };
    } in
    let left : IsInterrupted r drawn mid was shows → IsCutShort m r o before after was shows might may since = λ h. record {
      drawn = drawn;
      drawn_count = ap length c.as_slice.ensures ∙ c.in-Ok-fill.ensures.count ∙ c.in-Ok.ensures ∙ ap length c.as_slice-count.ensures
          ∙ ap (λ (s : Skeleton). length s.keys.items) c.skeleton.ensures ∙ (planned.4 m is).0;
      drawn_sizes = subst AreKeys (sym c.as_slice.ensures) c.in-Ok-fill.ensures.sizes;
      next_bytes = λ x y a b. c.in-Ok-fill.ensures.bytes x y a b ∙ ap (λ (d : List (List ℕ)). joined d ++ y) (sym c.as_slice.ensures);
      disk_stands = c.interrupted_commands_leave_a_journal.ensures m r drawn o was shows is limit bounded (planned.2 m is) c.requires.suits (interrupted_from r drawn o mid was shows c.plan.ensures.room h);
      stops = stops;
    } in
    carried_answer c.carry_out.result note drawn m r o new before after was shows might may since (IsCarriedOut r drawn mid new was shows × IsDurable may shows × HandsAll r drawn mid was shows) (planned.2 m is) c.carry_out.ensures.fault c.carry_out.ensures.closed
    (on_err_weaker c.carry_out.result left c.carry_out.ensures.interrupted) c.carry_out.ensures.reply
    (all_ok c.carry_out.result (IsCarriedOut r drawn mid new was shows) (IsDurable may shows) (HandsAll r drawn mid was shows) c.carry_out.ensures.done c.carry_out.ensures.durable
    c.carry_out.ensures.handed) done

pub returns-clause-counts : goal.returns-clause-counts
returns-clause-counts g c =
    let o : OwnerView = c.args.self.now in
    let r = deed_of c.args.asked.now in
    let planned : AnswersPlan {E = OutOfMemory} (Ok (verdicts.Planned c.in-Ok-Planned.change c.in-Ok-Planned.room)) r o c.plan.new.self =
    subst (λ (v : Verdict). AnswersPlan {E = OutOfMemory} (Ok v) r o c.plan.new.self) c.in-Ok-Planned.field-0-is c.in-Ok-Planned.ensures.answers in
    carried_counts c.carry_out.result c.in-Ok-Planned.change.note c.as_slice.result.now r o c.plan.new.self c.carry_out.new.self c.in-Ok-Planned.change c.plan.ensures.room planned.0
    c.carry_out.ensures.reply c.carry_out.ensures.counted c.carry_out.ensures.uncounted

pub returns-in-Ok-Full-clause-draws : goal.returns-in-Ok-Full-clause-draws
returns-in-Ok-Full-clause-draws g c = takes_none (g.R.Source.left c.args.random.now)

pub returns-clause-draws : goal.returns-clause-draws
returns-clause-draws g c =
    takes_filled c.carry_out.result c.in-Ok.keys c.in-Ok-fill.drawn (g.R.Source.left c.args.random.now) (g.R.Source.left c.fill.new.random) c.in-Ok-fill.ensures.sizes c.in-Ok-fill.ensures.bytes

pub returns-clause-short : goal.returns-clause-short
returns-clause-short g c = λ left need is. never_short c.carry_out.result left need c.carry_out.ensures.fault is

pub returns-in-Err-fill-clause-short : goal.returns-in-Err-fill-clause-short
returns-in-Err-fill-clause-short g c = λ left need is.
    let o : OwnerView = c.args.self.now in
    let mid = c.plan.new.self in
    let r = deed_of c.args.asked.now in
    let p = c.in-Ok-Planned.change in
    let planned : AnswersPlan {E = OutOfMemory} (Ok (verdicts.Planned p c.in-Ok-Planned.room)) r o mid =
    subst (λ (v : Verdict). AnswersPlan {E = OutOfMemory} (Ok v) r o mid) c.in-Ok-Planned.field-0-is c.in-Ok-Planned.ensures.answers in
    let sound : IsSound o = subst IsSound c.self.view_is (c.self.invariant (ap (λ (x : OwnerView). x.journal.is_closed) c.self.view_is ∙ c.requires.open)).0 in
    let limit : o.journal.limit ≤ most_store_bytes = subst (λ (x : OwnerView). x.journal.limit ≤ most_store_bytes) c.self.view_is c.journal_is_within.ensures.bound in
    let few = c.sound_owners_draw_few_keys.ensures mid (told_note p.note) p.ready.skeleton (length (p.text.items ++ deed_key r (replicate 32 0)))
    (sound_still o mid c.plan.ensures.room sound) (limit_still o mid c.plan.ensures.room most_store_bytes limit)
    planned.0.is_skeleton planned.0.fits planned.1.ends_within
    in
    let count : c.in-Ok.keys ≡ length p.ready.skeleton.keys.items =
    c.in-Ok.ensures ∙ ap length c.as_slice-count.ensures ∙ ap (λ (s : Skeleton). length s.keys.items) c.skeleton.ensures
    in
    let store = c.sound_owners_keep_a_store.ensures.store o in
    let accepted = c.requires.accepted (own_store o) store in
    let plan = are_planned o mid r p c.plan.ensures.room store planned.0 in
    falls_short o r c.in-Ok.keys (g.R.Source.left c.args.random.now) (g.R.Source.left c.fill.new.random) sound accepted
    (λ at seen. count ∙ plan at seen) (subst (λ n. 32 * n < 2 ^ 32) (sym count) few) c.in-Err-fill.ensures.told
    c.in-Err-fill.fault left need c.in-Err-fill.ensures.faults c.in-Err-fill.ensures.bytes (err_is c.in-Err-fill.fault (faults.RandomShort left need) is)

-- ---- what is published

pub returns-in-Ok-Full-clause-published : goal.returns-in-Ok-Full-clause-published
returns-in-Ok-Full-clause-published g c = λ m is rests. c.disk_stands_still.ensures.published c.args.self.now.key m rests

pub returns-in-Err-clause-published : goal.returns-in-Err-clause-published
returns-in-Err-clause-published g c = λ m is rests. c.disk_stands_still.ensures.published c.args.self.now.key m rests

pub returns-in-Err-fill-clause-published : goal.returns-in-Err-fill-clause-published
returns-in-Err-fill-clause-published g c = λ m is rests. c.disk_stands_still.ensures.published c.args.self.now.key m rests

pub returns-in_default-clause-published : goal.returns-in_default-clause-published
returns-in_default-clause-published g c = λ m is rests. c.disk_stands_still.ensures.published c.args.self.now.key m rests

pub returns-clause-published : goal.returns-clause-published
returns-clause-published g c = λ m is rests.
    let o : OwnerView = c.args.self.now in
    let r = deed_of c.args.asked.now in
    let planned : AnswersPlan {E = OutOfMemory} (Ok (verdicts.Planned c.in-Ok-Planned.change c.in-Ok-Planned.room)) r o c.plan.new.self =
    subst (λ (v : Verdict). AnswersPlan {E = OutOfMemory} (Ok v) r o c.plan.new.self) c.in-Ok-Planned.field-0-is c.in-Ok-Planned.ensures.answers in
    let limit : o.journal.limit ≤ most_store_bytes = subst (λ (x : OwnerView). x.journal.limit ≤ most_store_bytes) c.self.view_is c.journal_is_within.ensures.bound in
    let bounded : o.file_bytes ≤ most_file_bytes = subst (λ (x : OwnerView). x.file_bytes ≤ most_file_bytes) c.self.view_is (c.self.invariant (ap (λ (x : OwnerView). x.journal.is_closed) c.self.view_is ∙ c.requires.open)).0.bounded in
    let D = g.D.Disk in
    published_from r o c.plan.new.self (D.shown c.args.disk.now) (D.may_leave c.args.disk.now) (FromThenOn D.moment D.since c.args.disk.now c.carry_out.new.disk)
    c.plan.ensures.room c.carry_out.ensures.published m is limit bounded (planned.2 m is) rests

-- ---- what is done, whatever the owner stands for

pub returns-in-Ok-Full-clause-acts : goal.returns-in-Ok-Full-clause-acts
returns-in-Ok-Full-clause-acts g c =
    let o : OwnerView = c.args.self.now in
    let full : AnswersPlan {E = OutOfMemory} (Ok verdicts.Full) (deed_of c.args.asked.now) o c.plan.new.self =
    subst (λ (v : Verdict). AnswersPlan {E = OutOfMemory} (Ok v) (deed_of c.args.asked.now) o c.plan.new.self) c.in-Ok-Full.field-0-is c.in-Ok-Full.ensures.answers in
    (full.2, full.0)

pub returns-in-Err-fill-clause-acts : goal.returns-in-Err-fill-clause-acts
returns-in-Err-fill-clause-acts g c =
    let o : OwnerView = c.args.self.now in
    let r = deed_of c.args.asked.now in
    let planned : AnswersPlan {E = OutOfMemory} (Ok (verdicts.Planned c.in-Ok-Planned.change c.in-Ok-Planned.room)) r o c.plan.new.self =
    subst (λ (v : Verdict). AnswersPlan {E = OutOfMemory} (Ok v) r o c.plan.new.self) c.in-Ok-Planned.field-0-is c.in-Ok-Planned.ensures.answers in
    undrawn_acts r o c.plan.new.self (g.R.Source.left c.args.random.now) (g.R.Source.left c.fill.new.random) (g.D.Disk.shown c.args.disk.now) (g.D.Disk.shown c.args.disk.now)
    c.in-Err-fill.fault c.in-Ok.keys planned.3 c.in-Err-fill.ensures.faults (λ left need is. returns-in-Err-fill-clause-short g c left need (ap failed is))

pub returns-clause-acts : goal.returns-clause-acts
returns-clause-acts g c =
    let o : OwnerView = c.args.self.now in
    let r = deed_of c.args.asked.now in
    let mid = c.plan.new.self in
    let new = c.carry_out.new.self in
    let p = c.in-Ok-Planned.change in
    let planned : AnswersPlan {E = OutOfMemory} (Ok (verdicts.Planned p c.in-Ok-Planned.room)) r o mid =
    subst (λ (v : Verdict). AnswersPlan {E = OutOfMemory} (Ok v) r o mid) c.in-Ok-Planned.field-0-is c.in-Ok-Planned.ensures.answers in
    let drawn = c.as_slice.result.now in
    let was = g.D.Disk.shown c.args.disk.now in
    let shows = g.D.Disk.shown c.carry_out.new.disk in
    let store = c.sound_owners_keep_a_store.ensures.store o in
    let filled : length c.in-Ok-fill.drawn.items ≡ c.in-Ok.keys = c.in-Ok-fill.ensures.count in
    let count : c.in-Ok.keys ≡ length p.ready.skeleton.keys.items =
    c.in-Ok.ensures ∙ ap length c.as_slice-count.ensures ∙ ap (λ (s : Skeleton). length s.keys.items) c.skeleton.ensures
    in
    carried_acts r o new (g.R.Source.left c.args.random.now) (g.R.Source.left c.fill.new.random) was shows c.carry_out.result p.note drawn (IsCarriedOut r drawn mid new was shows)
    planned.3 (planned.0.told (own_store o) (store_still (own_store o) o mid c.plan.ensures.room store))
    (λ other seen. ap length c.as_slice.ensures ∙ filled ∙ count ∙ are_planned o mid r p c.plan.ensures.room store planned.0 other seen)
    (subst AreKeys (sym c.as_slice.ensures) c.in-Ok-fill.ensures.sizes)
    (λ x y a b. c.in-Ok-fill.ensures.bytes x y a b ∙ ap (λ (d : List (List ℕ)). joined d ++ y) (sym c.as_slice.ensures)) c.carry_out.ensures.fault
    (on_err_weaker c.carry_out.result (λ h. interrupted_from r drawn o mid was shows c.plan.ensures.room h) c.carry_out.ensures.interrupted) c.carry_out.ensures.reply
    c.carry_out.ensures.done (λ h. carried_from r drawn o mid new was shows c.plan.ensures.room h)
