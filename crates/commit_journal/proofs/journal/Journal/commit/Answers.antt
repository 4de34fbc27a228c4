use Rattle.std.proofs.Common.{◌≡◌, ◌+◌, arith, refl, ap, subst, ◌∙◌}
use Rattle.cry_base.specs.Layout.{batch_len}
use Rattle.record_format.specs.Plain.{plain_payload}
use Rattle.record_format.specs.Spelling.{spell_payload}
use Rattle.cry_io.specs.Told.{WhereBothTold}
use Rattle.batch_log.specs.Moments.{FromThenOn}
use Rattle.batch_log.proofs.Handed.{hands_nothing}
use Rattle.commit_journal.specs.Journals.{JournalState, IsBehind, next_command}
use Rattle.commit_journal.specs.Handing.{Hands, all_written, joining_writes}
use Rattle.commit_journal.specs.contracts.journal.Journal.{the_view}
use Rattle.commit_journal.proofs.JournalLemmas.{joins, payload_small}
use Rattle.commit_journal.proofs.MayHaveJoined.{may_join}
use Rattle.commit_journal.specs.Stopping.{HoldsPublished, KeepsLog, KeepsPublished}
use Rattle.commit_journal.proofs.PublishedCommits.{commit_takes_nothing_back, refused_takes_nothing_back}
use Rattle.commit_journal.proofs.StoppedCommits.{commit_keeps, commit_published, commit_hands, commit_written, holds_at_the_end, refused_keeps, refused_published, spelled_stageable, stays}
use Rattle.commit_journal.proofs.journal.Journal.commit.Goals as goal

pub refusal-requires : goal.refusal-requires
refusal-requires g c =
    omega (arith, c.payload_len-size.ensures.size, payload_small (plain_payload c.args.payload.now) c.requires.spellable)

pub returns-clause-joined : goal.returns-clause-joined
returns-clause-joined g c =
    let payload = spell_payload (plain_payload c.args.payload.now) in
    let inside = c.self.inside in
    let old = the_view inside in
    let new : JournalState = the_view (record {
      alloc = inside.alloc;
      owner = inside.owner;
      past = record {
        at = inside.past.at + (batch_len + c.payload_len-size.result);
        number = inside.past.number + 1;
        epoch = inside.past.epoch;
        tag = c.command_batch-tag.result;
        gate = 0;
      };
      begun = inside.begun;
      closed = inside.closed;
      limit = inside.limit;
      batch = c.replace-batch.new.dest;
    }) in
    let behind : IsBehind (next_command old payload) old new = record {
      owner = refl;
      batches = refl;
      epoch = refl;
      end = ap (λ n. inside.past.at + (batch_len + n)) c.payload_len-size.ensures.spelled;
      tag = c.command_batch-tag.ensures.tag c.veil_key-veil.ensures;
      limit = refl;
      open_still = refl;
    } in
    rw (← c.self.view_is)
    (joins old new (next_command old payload) c.as_slice.result.now c.veil_key-veil.result (g.D.Disk.shown c.args.disk.now) (g.D.Disk.shown c.append.new.disk)
    behind refl (c.as_slice.ensures ∙ c.command_batch-tag.ensures.spelled c.veil_key-veil.ensures) c.veil_key-veil.ensures c.in-Ok.ensures.committed)

pub returns-in_default-append-clause-interrupted : goal.returns-in_default-append-clause-interrupted
returns-in_default-append-clause-interrupted g c = λ is.
    let payload = spell_payload (plain_payload c.args.payload.now) in
    let old = the_view c.self.inside in
    rw (← c.self.view_is)
    (may_join old (next_command old payload) c.as_slice.result.now (g.D.Disk.shown c.args.disk.now) (g.D.Disk.shown c.append.new.disk)
    (c.as_slice.ensures ∙ c.command_batch-tag.ensures.spelled c.veil_key-veil.ensures) c.in_default-append.ensures.interrupted)

pub append-requires-clause-batch : goal.append-requires-clause-batch
append-requires-clause-batch g c =
    let payload = spell_payload (plain_payload c.args.payload.now) in
    let old = the_view c.self.inside in
    spelled_stageable old.owner old.tag c.as_slice.result.now (next_command old payload) (c.as_slice.ensures ∙ c.command_batch-tag.ensures.spelled c.veil_key-veil.ensures)

pub returns-in-Some-clause-time : goal.returns-in-Some-clause-time
returns-in-Some-clause-time g c =
    let D = g.D.Disk in
    let a = c.args.disk.now in
    stays (D.moment a) (D.since a) (D.shown a) (D.may_leave a) (λ s left at. g.met.D.Disk.only_now a s left at)
    (λ t s left early is leaves. g.met.D.Disk.counts_now a t s left early is leaves)

pub returns-in-Some-clause-kept : goal.returns-in-Some-clause-kept
returns-in-Some-clause-kept g c =
    let D = g.D.Disk in
    let a = c.args.disk.now in
    let payload = spell_payload (plain_payload c.args.payload.now) in
    let old = c.args.self.now in
    refused_keeps (next_command old payload) old (D.shown a) (D.may_leave a) (D.since a (D.moment a)) (λ s left at. g.met.D.Disk.only_now a s left at)

pub returns-in-Some-clause-held : goal.returns-in-Some-clause-held
returns-in-Some-clause-held g c =
    let D = g.D.Disk in
    let a = c.args.disk.now in
    let payload = spell_payload (plain_payload c.args.payload.now) in
    let old = c.args.self.now in
    refused_published (next_command old payload) old (D.shown a) (D.may_leave a) (D.since a (D.moment a)) (λ s left at. g.met.D.Disk.only_now a s left at)

pub returns-in-Some-clause-published : goal.returns-in-Some-clause-published
returns-in-Some-clause-published g c =
    let D = g.D.Disk in
    let a = c.args.disk.now in
    let payload = spell_payload (plain_payload c.args.payload.now) in
    let old = c.args.self.now in
    refused_takes_nothing_back g.row.D.Denot D.moment D.since a (next_command old payload) old (D.shown a) (D.may_leave a) (λ s left at. g.met.D.Disk.only_now a s left at)

pub returns-in-Some-clause-holds : goal.returns-in-Some-clause-holds
returns-in-Some-clause-holds g c =
    let D = g.D.Disk in
    let a = c.args.disk.now in
    let payload = spell_payload (plain_payload c.args.payload.now) in
    let old = c.args.self.now in
    holds_at_the_end (next_command old payload) old (D.shown a) (D.shown a) (D.may_leave a) (D.may_leave a) (D.since a (D.moment a)) refl
    (λ s is. g.met.D.Disk.shown_may_be_left a s is)
    (λ s left is leaves. g.met.D.Disk.counts_now a (D.moment a) s left (omega arith) is leaves)
    (refused_keeps (next_command old payload) old (D.shown a) (D.may_leave a) (D.since a (D.moment a)) (λ s left at. g.met.D.Disk.only_now a s left at))

pub returns-in_default-append-clause-kept : goal.returns-in_default-append-clause-kept
returns-in_default-append-clause-kept g c =
    let D = g.D.Disk in
    let a = c.args.disk.now in
    let payload = spell_payload (plain_payload c.args.payload.now) in
    let since = D.since c.append.new.disk (D.moment a) in
    let old = the_view c.self.inside in
    subst (λ (j : JournalState). KeepsLog (next_command j payload) j (D.shown a) (D.may_leave a) since) c.self.view_is
    (commit_keeps (next_command old payload) old c.as_slice.result.now (D.shown a) (D.may_leave a) since (c.as_slice.ensures ∙ c.command_batch-tag.ensures.spelled c.veil_key-veil.ensures) c.append.ensures.stops)

pub returns-in_default-append-clause-held : goal.returns-in_default-append-clause-held
returns-in_default-append-clause-held g c =
    let D = g.D.Disk in
    let a = c.args.disk.now in
    let payload = spell_payload (plain_payload c.args.payload.now) in
    let e = c.append.new.disk in
    let old = the_view c.self.inside in
    subst (λ (j : JournalState). HoldsPublished (next_command j payload) j (D.shown a) (D.may_leave a) (D.since e (D.moment a))) c.self.view_is
    (commit_published g.row.D.Denot D.moment D.since a e (next_command old payload) old c.as_slice.result.now (D.shown a) (D.may_leave a) (c.as_slice.ensures ∙ c.command_batch-tag.ensures.spelled c.veil_key-veil.ensures) c.append.ensures.ordered)

pub returns-in_default-append-clause-published : goal.returns-in_default-append-clause-published
returns-in_default-append-clause-published g c =
    let D = g.D.Disk in
    let a = c.args.disk.now in
    let payload = spell_payload (plain_payload c.args.payload.now) in
    let e = c.append.new.disk in
    let old = the_view c.self.inside in
    subst (λ (j : JournalState). KeepsPublished (next_command j payload) j (D.shown a) (D.may_leave a) (FromThenOn D.moment D.since a e)) c.self.view_is
    (commit_takes_nothing_back g.row.D.Denot D.moment D.since a e (next_command old payload) old c.as_slice.result.now (D.shown a) (D.may_leave a) (c.as_slice.ensures ∙ c.command_batch-tag.ensures.spelled c.veil_key-veil.ensures) c.append.ensures.shown c.append.ensures.stops c.append.ensures.ordered)

pub returns-in_default-append-clause-holds : goal.returns-in_default-append-clause-holds
returns-in_default-append-clause-holds g c =
    let D = g.D.Disk in
    let a = c.args.disk.now in
    let payload = spell_payload (plain_payload c.args.payload.now) in
    let e = c.append.new.disk in
    let old = c.args.self.now in
    holds_at_the_end (next_command old payload) old (D.shown a) (D.shown e) (D.may_leave a) (D.may_leave e) (D.since e (D.moment a)) c.append.ensures.told
    (λ s is. g.met.D.Disk.shown_may_be_left e s is)
    (λ s left is leaves. g.met.D.Disk.counts_now e (D.moment a) s left c.append.ensures.later is leaves)
    (returns-in_default-append-clause-kept g c)

pub returns-clause-kept : goal.returns-clause-kept
returns-clause-kept g c =
    let D = g.D.Disk in
    let a = c.args.disk.now in
    let payload = spell_payload (plain_payload c.args.payload.now) in
    let since = D.since c.append.new.disk (D.moment a) in
    let old = the_view c.self.inside in
    subst (λ (j : JournalState). KeepsLog (next_command j payload) j (D.shown a) (D.may_leave a) since) c.self.view_is
    (commit_keeps (next_command old payload) old c.as_slice.result.now (D.shown a) (D.may_leave a) since (c.as_slice.ensures ∙ c.command_batch-tag.ensures.spelled c.veil_key-veil.ensures) c.append.ensures.stops)

pub returns-clause-held : goal.returns-clause-held
returns-clause-held g c =
    let D = g.D.Disk in
    let a = c.args.disk.now in
    let payload = spell_payload (plain_payload c.args.payload.now) in
    let e = c.append.new.disk in
    let old = the_view c.self.inside in
    subst (λ (j : JournalState). HoldsPublished (next_command j payload) j (D.shown a) (D.may_leave a) (D.since e (D.moment a))) c.self.view_is
    (commit_published g.row.D.Denot D.moment D.since a e (next_command old payload) old c.as_slice.result.now (D.shown a) (D.may_leave a) (c.as_slice.ensures ∙ c.command_batch-tag.ensures.spelled c.veil_key-veil.ensures) c.append.ensures.ordered)

pub returns-clause-published : goal.returns-clause-published
returns-clause-published g c =
    let D = g.D.Disk in
    let a = c.args.disk.now in
    let payload = spell_payload (plain_payload c.args.payload.now) in
    let e = c.append.new.disk in
    let old = the_view c.self.inside in
    subst (λ (j : JournalState). KeepsPublished (next_command j payload) j (D.shown a) (D.may_leave a) (FromThenOn D.moment D.since a e)) c.self.view_is
    (commit_takes_nothing_back g.row.D.Denot D.moment D.since a e (next_command old payload) old c.as_slice.result.now (D.shown a) (D.may_leave a) (c.as_slice.ensures ∙ c.command_batch-tag.ensures.spelled c.veil_key-veil.ensures) c.append.ensures.shown c.append.ensures.stops c.append.ensures.ordered)

pub returns-clause-holds : goal.returns-clause-holds
returns-clause-holds g c =
    let D = g.D.Disk in
    let a = c.args.disk.now in
    let payload = spell_payload (plain_payload c.args.payload.now) in
    let e = c.append.new.disk in
    let old = c.args.self.now in
    holds_at_the_end (next_command old payload) old (D.shown a) (D.shown e) (D.may_leave a) (D.may_leave e) (D.since e (D.moment a)) c.append.ensures.told
    (λ s is. g.met.D.Disk.shown_may_be_left e s is)
    (λ s left is leaves. g.met.D.Disk.counts_now e (D.moment a) s left c.append.ensures.later is leaves)
    (returns-clause-kept g c)

pub returns-clause-written : goal.returns-clause-written
returns-clause-written g c =
    let D = g.D.Disk in
    let a = c.args.disk.now in
    let e = c.append.new.disk in
    let payload = spell_payload (plain_payload c.args.payload.now) in
    let old = the_view c.self.inside in
    subst (λ (j : JournalState). WhereBothTold (D.shown a) (D.shown e) (λ x y. y ≡ all_written (joining_writes (next_command j payload) j) x)) c.self.view_is
    (commit_written (next_command old payload) old c.as_slice.result.now c.veil_key-veil.result (D.shown a) (D.shown e) (c.as_slice.ensures ∙ c.command_batch-tag.ensures.spelled c.veil_key-veil.ensures) c.veil_key-veil.ensures c.in-Ok.ensures.written)

pub returns-clause-hands : goal.returns-clause-hands
returns-clause-hands g c =
    let D = g.D.Disk in
    let a = c.args.disk.now in
    let e = c.append.new.disk in
    let payload = spell_payload (plain_payload c.args.payload.now) in
    let old = the_view c.self.inside in
    subst (λ (j : JournalState). Hands (joining_writes (next_command j payload) j) _ (D.shown a) (D.shown e) (D.since e (D.moment a))) c.self.view_is
    (commit_hands (next_command old payload) old c.as_slice.result.now c.veil_key-veil.result _ _ (D.shown a) (D.shown e) (D.since e (D.moment a)) (c.as_slice.ensures ∙ c.command_batch-tag.ensures.spelled c.veil_key-veil.ensures) c.veil_key-veil.ensures
    (λ err. absurd (cc)) c.in-Ok.ensures.hands)

pub returns-in_default-append-clause-hands : goal.returns-in_default-append-clause-hands
returns-in_default-append-clause-hands g c =
    let D = g.D.Disk in
    let a = c.args.disk.now in
    let e = c.append.new.disk in
    let payload = spell_payload (plain_payload c.args.payload.now) in
    let old = the_view c.self.inside in
    subst (λ (j : JournalState). Hands (joining_writes (next_command j payload) j) _ (D.shown a) (D.shown e) (D.since e (D.moment a))) c.self.view_is
    (commit_hands (next_command old payload) old c.as_slice.result.now c.veil_key-veil.result _ _ (D.shown a) (D.shown e) (D.since e (D.moment a)) (c.as_slice.ensures ∙ c.command_batch-tag.ensures.spelled c.veil_key-veil.ensures) c.veil_key-veil.ensures
    (λ err. refl) c.append.ensures.hands)

pub returns-in-Some-clause-hands : goal.returns-in-Some-clause-hands
returns-in-Some-clause-hands g c =
    let D = g.D.Disk in
    let a = c.args.disk.now in
    let payload = spell_payload (plain_payload c.args.payload.now) in
    let old = c.args.self.now in
    hands_nothing (joining_writes (next_command old payload) old) _ (D.shown a) (D.shown a) (D.since a (D.moment a)) (λ s left at. (g.met.D.Disk.only_now a s left at).0)
