use Rattle.std.proofs.Common.{ℕ, List, refl, sym, ap, ◌∙◌}
use Rattle.chacha_seal.specs.Keys.{KeyParts}
use Rattle.chacha_seal.specs.Sealing.{check_of}
use Rattle.cry_io.proofs.ToldLemmas.{told_again}
use Rattle.commit_journal.specs.Standing.{tag_behind}
use Rattle.batch_log.specs.Handing.{all_written}
use Rattle.batch_log.specs.Steps.{written_at}
use Rattle.batch_log.proofs.Lists.{written_first}
use Rattle.commit_journal.proofs.JournalLemmas.{length-nothing, image_of_nothing}
use Rattle.commit_journal.proofs.StoppedCommits.{found_hands}
use Rattle.commit_journal.proofs.journal.Journal.found.Goals as goal

pub returns-clause-stands : goal.returns-clause-stands
unfolding tag_behind
returns-clause-stands g c = record {
  batches = refl;
  epoch = refl;
  end = length-nothing c.of.result.bytes;
  tag = c.check_of-check.ensures
      ∙ ap check_of (c.bytes.ensures.bytes ∙ sym (ap (λ (key : KeyParts). key.bytes) c.of.ensures));
}

pub returns-clause-shows : goal.returns-clause-shows
returns-clause-shows g c = λ s is.
    let shown = g.D.Disk.shown in
    let zero = told_again (shown c.write_header.new.disk) (shown c.args.disk.now) s (sym c.in-Ok.ensures.told) is in
    written_first zero.0 c.header.result s
    (g.met.D.Disk.size_is_shown c.args.disk.now zero.0 zero.1 ∙ c.requires.blank)
    (c.in-Ok.ensures.written zero.0 s zero.1 is)
    ∙ c.header.ensures
    ∙ image_of_nothing c.args.owner.now.bytes c.check_of-check.result (c.check_of-check.ensures ∙ ap check_of c.bytes.ensures.bytes)

pub returns-clause-hands : goal.returns-clause-hands
returns-clause-hands g c =
    let D = g.D.Disk in
    let a = c.args.disk.now in
    let e = c.write_header.new.disk in
    found_hands c.args.owner.now.bytes c.header.result _ _ (D.shown a) (D.shown e) (D.since e (D.moment a))
    (c.header.ensures ∙ image_of_nothing c.args.owner.now.bytes c.check_of-check.result (c.check_of-check.ensures ∙ ap check_of c.bytes.ensures.bytes))
    (λ err. absurd (cc)) c.in-Ok.ensures.hands

pub returns-in_default-clause-hands : goal.returns-in_default-clause-hands
returns-in_default-clause-hands g c =
    let D = g.D.Disk in
    let a = c.args.disk.now in
    let e = c.write_header.new.disk in
    found_hands c.args.owner.now.bytes c.header.result _ _ (D.shown a) (D.shown e) (D.since e (D.moment a))
    (c.header.ensures ∙ image_of_nothing c.args.owner.now.bytes c.check_of-check.result (c.check_of-check.ensures ∙ ap check_of c.bytes.ensures.bytes))
    (λ err. refl) c.write_header.ensures.hands

pub returns-clause-written : goal.returns-clause-written
unfolding all_written
returns-clause-written g c = λ x y x_is y_is.
    c.in-Ok.ensures.written x y x_is y_is
    ∙ ap (λ (r : List ℕ). written_at 0 r x)
    (c.header.ensures ∙ image_of_nothing c.args.owner.now.bytes c.check_of-check.result (c.check_of-check.ensures ∙ ap check_of c.bytes.ensures.bytes))
