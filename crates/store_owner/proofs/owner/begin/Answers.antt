use Rattle.std.proofs.Common.{◌≡◌, Err, false, arith, sym, ap, ◌∙◌}
use Rattle.std.specs.Prelude.{is_some}
use Rattle.commit_journal.proofs.CommitLemmas.{on_err}
use Rattle.store_owner.specs.Stopping.{epoch_due}
use Rattle.commit_journal.specs.Journals.{next_epoch}
use Rattle.store_owner.proofs.HandedBatches.{added_epoch, added_none}
use Rattle.store_owner.proofs.Faulted.{takes}
use Rattle.store_owner.proofs.PublishedCommands.{adds_none_published}
use Rattle.store_owner.proofs.StoppedCommands.{adds_epoch, adds_nothing}
use Rattle.store_owner.proofs.owner.begin.Goals as goal

pub returns-in_err-epoch-in-None-clause-interrupted : goal.returns-in_err-epoch-in-None-clause-interrupted
returns-in_err-epoch-in-None-clause-interrupted g c =
    let none : c.args.journal.now.has_epoch ≡ false = sym c.requires.counts ∙ ap (λ k. is_some k) c.in-None.is in
    let fault = c.in_err-epoch-in-None.ensures.taken (takes c.args.journal.now 0 c.requires.open (let room = c.requires.room in omega (arith, room))) in
    on_err c.from_residual.result (none, c.in_err-epoch-in-None.ensures.interrupted (ap Err fault))

pub returns-in-Some-clause-adds : goal.returns-in-Some-clause-adds
returns-in-Some-clause-adds g c =
    let D = g.D.Disk in
    let a = c.args.disk.now in
    adds_nothing (epoch_due c.args.journal.now) c.args.journal.now (D.shown a) (D.may_leave a) (D.since a (D.moment a)) (λ s left at. g.met.D.Disk.only_now a s left at)

pub returns-in-Some-clause-published : goal.returns-in-Some-clause-published
returns-in-Some-clause-published g c =
    let D = g.D.Disk in
    let a = c.args.disk.now in
    adds_none_published g.row.D.Denot D.moment D.since (epoch_due c.args.journal.now) c.args.journal.now (D.shown a) (D.may_leave a) a (λ s left at. g.met.D.Disk.only_now a s left at)

pub returns-in-Some-clause-added : goal.returns-in-Some-clause-added
returns-in-Some-clause-added g c =
    let j = c.args.journal.now in
    added_none j.has_epoch (next_epoch j) j (g.D.Disk.shown c.args.disk.now) (sym c.requires.counts ∙ ap (λ k. is_some k) c.in-Some.is)

pub returns-in_err-epoch-in-None-clause-adds : goal.returns-in_err-epoch-in-None-clause-adds
returns-in_err-epoch-in-None-clause-adds g c =
    let D = g.D.Disk in
    let a = c.args.disk.now in
    let e = c.begin_epoch.new.disk in
    let j = c.args.journal.now in
    let none : j.has_epoch ≡ false = sym c.requires.counts ∙ ap (λ k. is_some k) c.in-None.is in
    adds_epoch j.has_epoch (next_epoch j) j _ (D.shown a) (D.shown e) (D.may_leave a) (D.may_leave e) (D.since e (D.moment a)) none
    c.begin_epoch.ensures.kept c.begin_epoch.ensures.holds c.begin_epoch.ensures.hands

pub returns-in_ok-epoch-in-None-clause-adds : goal.returns-in_ok-epoch-in-None-clause-adds
returns-in_ok-epoch-in-None-clause-adds g c =
    let D = g.D.Disk in
    let a = c.args.disk.now in
    let e = c.begin_epoch.new.disk in
    let j = c.args.journal.now in
    let none : j.has_epoch ≡ false = sym c.requires.counts ∙ ap (λ k. is_some k) c.in-None.is in
    adds_epoch j.has_epoch (next_epoch j) j _ (D.shown a) (D.shown e) (D.may_leave a) (D.may_leave e) (D.since e (D.moment a)) none
    c.begin_epoch.ensures.kept c.begin_epoch.ensures.holds c.begin_epoch.ensures.hands

pub returns-in_ok-epoch-in-None-clause-added : goal.returns-in_ok-epoch-in-None-clause-added
returns-in_ok-epoch-in-None-clause-added g c =
    let D = g.D.Disk in
    let j = c.args.journal.now in
    let none : j.has_epoch ≡ false = sym c.requires.counts ∙ ap (λ k. is_some k) c.in-None.is in
    added_epoch j.has_epoch (next_epoch j) j (D.shown c.args.disk.now) (D.shown c.begin_epoch.new.disk) none c.begin_epoch.ensures.told c.in_ok-epoch-in-None.ensures.written
