use Rattle.std.proofs.Common.{◌++◌, length, arith, ap, ◌∙◌, length-append}
use Rattle.record_format.specs.Plain.{plain_payload}
use Rattle.record_format.specs.Spelling.{spell_payload}
use Rattle.commit_journal.specs.Image.{head_bytes, empty_slot}
use Rattle.commit_journal.specs.Journals.{command_batch}
use Rattle.commit_journal.specs.declared.batch_type.BatchType.TheVariants.{Command}
use Rattle.commit_journal.proofs.Pieces.{length-head_bytes}
use Rattle.commit_journal.proofs.BatchLemmas.{length-empty_slot, untagged_is}
use Rattle.commit_journal.proofs.batch.command_batch.Goals as goal

pub finish-requires-clause-whole : goal.finish-requires-clause-whole
finish-requires-clause-whole c =
    let payload = spell_payload (plain_payload c.args.payload.now) in
    let head = head_bytes Command c.args.number c.args.epoch.0 c.payload_len-size.result in
    let is = untagged_is c.args.batch.now.items head empty_slot payload c.begin.new.batch.items c.put_payload.new.out.items c.requires.empty c.begin.ensures.items c.put_payload.ensures.items in
    omega (arith, ap length is, length-append head (empty_slot ++ payload), length-append empty_slot payload, length-head_bytes Command c.args.number c.args.epoch.0 c.payload_len-size.result, length-empty_slot)

pub returns-clause-long : goal.returns-clause-long
returns-clause-long c =
    let payload = spell_payload (plain_payload c.args.payload.now) in
    let head = head_bytes Command c.args.number c.args.epoch.0 c.payload_len-size.result in
    let is = untagged_is c.args.batch.now.items head empty_slot payload c.begin.new.batch.items c.put_payload.new.out.items c.requires.empty c.begin.ensures.items c.put_payload.ensures.items in
    omega (
      arith,
      c.finish.ensures.grown,
      ap length is,
      length-append head (empty_slot ++ payload),
      length-append empty_slot payload,
      length-head_bytes Command c.args.number c.args.epoch.0 c.payload_len-size.result,
      length-empty_slot,
      c.payload_len-size.ensures.size,
      c.payload_len-size.ensures.spelled,
    )

pub returns-clause-spelled : goal.returns-clause-spelled
returns-clause-spelled c = λ is.
    let payload = spell_payload (plain_payload c.args.payload.now) in
    let head = head_bytes Command c.args.number c.args.epoch.0 c.payload_len-size.result in
    c.finish.ensures.spelled (command_batch c.args.number c.args.epoch.0 payload) is
    (untagged_is c.args.batch.now.items head empty_slot payload c.begin.new.batch.items c.put_payload.new.out.items c.requires.empty c.begin.ensures.items c.put_payload.ensures.items
    ∙ ap (λ n. head_bytes Command c.args.number c.args.epoch.0 n ++ (empty_slot ++ payload)) c.payload_len-size.ensures.spelled)

pub returns-clause-tag : goal.returns-clause-tag
returns-clause-tag c = λ is.
    let payload = spell_payload (plain_payload c.args.payload.now) in
    let head = head_bytes Command c.args.number c.args.epoch.0 c.payload_len-size.result in
    c.finish.ensures.tag (command_batch c.args.number c.args.epoch.0 payload) is
    (untagged_is c.args.batch.now.items head empty_slot payload c.begin.new.batch.items c.put_payload.new.out.items c.requires.empty c.begin.ensures.items c.put_payload.ensures.items
    ∙ ap (λ n. head_bytes Command c.args.number c.args.epoch.0 n ++ (empty_slot ++ payload)) c.payload_len-size.ensures.spelled)
