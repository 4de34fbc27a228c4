use Rattle.std.proofs.Common.{length, sym, ap, ◌∙◌}
use Rattle.chacha_seal.proofs.SealingLemmas.{length-masked}
use Rattle.record_format.specs.Plain.{plain_payload}
use Rattle.record_format.proofs.Lengths.{length-spell_payload}
use Rattle.commit_journal.proofs.judge.body_of.Goals as goal

pub returns-in-Ok-clause-size : goal.returns-in-Ok-clause-size
returns-in-Ok-clause-size c =
    let found = c.in-Ok.ensures.found in
    let read = plain_payload c.in-Ok.payload in (
      found.0,
      sym (length-spell_payload read found.0)
          ∙ ap length (sym found.1)
          ∙ ap length c.mask_in_place.ensures.masked
          ∙ length-masked c.args.slot.now c.args.payload.now,
    )
