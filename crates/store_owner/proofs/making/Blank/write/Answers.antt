use Rattle.std.proofs.Common.{[], ◌∷◌, ◌++◌, ap, subst, sym, ◌∙◌}
use Rattle.commit_journal.specs.Handing.{Hands}
use Rattle.commit_journal.specs.Image.{image}
use Rattle.commit_journal.specs.Journals.{IsJournalOf}
use Rattle.record_format.specs.Plain.{PlainPayload}
use Rattle.public_fold.specs.Fitted.{told_stand}
use Rattle.public_fold.specs.Standing.{IsSeenAs}
use Rattle.store_owner.specs.Making.{first_stand, made_batches, made_note, made_writes}
use Rattle.store_owner.specs.Stopping.{ShowsWritten}
use Rattle.store_owner.proofs.making.Blank.write.Goals as goal

pub returns-clause-stands : goal.returns-clause-stands
returns-clause-stands g c = subst (λ (p : PlainPayload). IsJournalOf (made_batches p) c.write_store.new.journal) c.seal_root-payload.ensures.payload c.in-Ok.ensures.stands

pub returns-clause-seen : goal.returns-clause-seen
returns-clause-seen g c = subst (λ v. IsSeenAs v (told_stand first_stand made_note)) (sym c.settle.ensures) c.requires.seen

pub returns-clause-shows : goal.returns-clause-shows
returns-clause-shows g c = λ s is.
    c.in-Ok.ensures.shows s is ∙ ap (λ (p : PlainPayload). image c.args.owner.now (made_batches p) ++ 0 ∷ []) c.seal_root-payload.ensures.payload

pub returns-clause-hands : goal.returns-clause-hands
returns-clause-hands g c =
    let D = g.D.Disk in
    let a = c.args.disk.now in
    let b = c.write_store.new.disk in
    subst (λ (p : PlainPayload). Hands (made_writes c.args.owner.now p) (Unit {0}) (D.shown a) (D.shown b) (D.since b (D.moment a))) c.seal_root-payload.ensures.payload c.write_store.ensures.hands

pub returns-in_default-clause-hands : goal.returns-in_default-clause-hands
returns-in_default-clause-hands g c =
    let D = g.D.Disk in
    let a = c.args.disk.now in
    let b = c.write_store.new.disk in
    subst (λ (p : PlainPayload). Hands (made_writes c.args.owner.now p) (Unit {0}) (D.shown a) (D.shown b) (D.since b (D.moment a))) c.seal_root-payload.ensures.payload c.write_store.ensures.hands

pub returns-clause-handed : goal.returns-clause-handed
returns-clause-handed g c =
    let D = g.D.Disk in
    subst (λ (p : PlainPayload). ShowsWritten (made_writes c.args.owner.now p) (D.shown c.args.disk.now) (D.shown c.write_store.new.disk)) c.seal_root-payload.ensures.payload c.in-Ok.ensures.handed
