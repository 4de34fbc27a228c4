use Rattle.record_format.specs.Plain.{plain_payload}
use Rattle.record_format.specs.Sizes.{payload_size}
use Rattle.record_format.specs.Spelling.{spell_payload}
use Rattle.commit_journal.specs.Journals.{MayJoin, next_command}
use Rattle.std.proofs.lemmas.Result.{on_ok_weaker}
use Rattle.store_owner.proofs.HandedBatches.{added_one}
use Rattle.store_owner.proofs.StoppedCommands.{adds_one}
use Rattle.store_owner.proofs.Faulted.{left_by_fault, takes}
use Rattle.store_owner.proofs.owner.commit_within.Goals as goal

pub returns-clause-interrupted : goal.returns-clause-interrupted
returns-clause-interrupted g c =
    let payload = plain_payload c.args.payload.now in
    let shown = g.D.Disk.shown in
    left_by_fault c.commit.result (MayJoin (next_command c.args.journal.now (spell_payload payload)) c.args.journal.now (shown c.args.disk.now) (shown c.commit.new.disk))
    (c.commit.ensures.taken (takes c.args.journal.now (payload_size payload) c.requires.open c.requires.ends)) c.commit.ensures.interrupted

pub returns-clause-adds : goal.returns-clause-adds
returns-clause-adds g c =
    let D = g.D.Disk in
    let a = c.args.disk.now in
    let e = c.commit.new.disk in
    let j = c.args.journal.now in
    adds_one (next_command j (spell_payload (plain_payload c.args.payload.now))) j _ (D.shown a) (D.shown e) (D.may_leave a) (D.may_leave e) (D.since e (D.moment a))
    c.commit.ensures.kept c.commit.ensures.holds c.commit.ensures.hands

pub returns-clause-added : goal.returns-clause-added
returns-clause-added g c =
    let D = g.D.Disk in
    let a = c.args.disk.now in
    let e = c.commit.new.disk in
    let j = c.args.journal.now in
    on_ok_weaker c.commit.result
    (λ written. added_one (next_command j (spell_payload (plain_payload c.args.payload.now))) j (D.shown a) (D.shown e) c.commit.ensures.told written)
    c.commit.ensures.written
