use Rattle.std.proofs.Common.{List, ℕ, Err, ap, arith, sym, ◌∙◌, subst}
use Rattle.cry_io.specs.Told.{WhereBothTold, WhereTold}
use Rattle.script_text.specs.Printing.{owner_line}
use Rattle.cli_base.specs.declared.status.Status.{Status}
use Rattle.cli_sessions.specs.Sessions.{version_limits}
use Rattle.cli_making.specs.Making.{EndsShort}
use Rattle.cli_base.specs.Outside.{PrintsAll, PrintsFront}
use Rattle.cli_making.proofs.MakeLemmas.{disk_failed, ends_short, is_short, makes, never_fewer, short_of, told_answers, told_drew, told_not_blank, told_not_short, told_not_undrawn, told_not_unwritten, told_printed, told_wrote}
use Rattle.cli_sessions.proofs.StopLemmas.{time_still}
use Rattle.cli_making.proofs.make.make.Goals as goal

pub returns-in-Ok-make-clause-short_only : goal.returns-in-Ok-make-clause-short_only
returns-in-Ok-make-clause-short_only g c = λ blank.
    let D = g.D.Disk in
    let left = g.R.Source.left in
    never_fewer version_limits c.in-Ok-make.owner (left c.args.random.now) (left c.make.new.random) (D.shown c.args.disk.now) (D.shown c.make.new.disk)
    (D.since c.make.new.disk (D.moment c.args.disk.now)) c.tell.result c.in-Ok-make.ensures.source_told c.in-Ok-make.ensures.made

pub returns-in-Ok-make-clause-made : goal.returns-in-Ok-make-clause-made
returns-in-Ok-make-clause-made g c = λ done.
    let D = g.D.Disk in
    let left = g.R.Source.left in
    let written = g.W.Sink.written in
    makes PrintsAll version_limits c.in-Ok-make.owner (left c.args.random.now) (left c.make.new.random) (D.shown c.args.disk.now) (D.shown c.make.new.disk)
    (D.may_leave c.make.new.disk) (D.since c.make.new.disk (D.moment c.args.disk.now))
    (written c.args.out.now) (written c.tell.new.out) c.in-Ok-make.ensures.made c.in-Ok-make.ensures.durable
    (subst (λ (key : List ℕ). WhereBothTold (written c.args.out.now) (written c.tell.new.out) (PrintsAll (owner_line key))) c.key.ensures (c.tell.ensures.printed done))

pub returns-in-Ok-make-clause-cut_short : goal.returns-in-Ok-make-clause-cut_short
returns-in-Ok-make-clause-cut_short g c = λ failed.
    let D = g.D.Disk in
    let left = g.R.Source.left in
    let written = g.W.Sink.written in
    makes PrintsFront version_limits c.in-Ok-make.owner (left c.args.random.now) (left c.make.new.random) (D.shown c.args.disk.now) (D.shown c.make.new.disk)
    (D.may_leave c.make.new.disk) (D.since c.make.new.disk (D.moment c.args.disk.now))
    (written c.args.out.now) (written c.tell.new.out) c.in-Ok-make.ensures.made c.in-Ok-make.ensures.durable
    (subst (λ (key : List ℕ). WhereBothTold (written c.args.out.now) (written c.tell.new.out) (PrintsFront (owner_line key))) c.key.ensures (c.tell.ensures.cut_short failed))

pub returns-in-Ok-make-clause-hands_some : goal.returns-in-Ok-make-clause-hands_some
returns-in-Ok-make-clause-hands_some g c = λ is. absurd (told_not_unwritten c.tell.result c.tell.ensures.answers is)

pub returns-in-Err-clause-hands_some : goal.returns-in-Err-clause-hands_some
returns-in-Err-clause-hands_some g c = λ is.
    c.in-Err.ensures.cut_short (ap (λ f. Err f) (disk_failed c.in-Err.fault (λ closed. c.in-Err.ensures.not_closed (ap (λ f. Err f) closed)) (sym c.apply_status.ensures ∙ is)))

pub returns-in-Err-clause-short : goal.returns-in-Err-clause-short
returns-in-Err-clause-short g c = λ left need is.
    is_short left need (g.R.Source.left c.args.random.now) (g.R.Source.left c.make.new.random) c.in-Err.ensures.source_told
    (c.in-Err.ensures.short left need (ap (λ f. Err f) (short_of c.in-Err.fault left need (sym c.apply_status.ensures ∙ is))))

pub returns-in-Err-clause-short_only : goal.returns-in-Err-clause-short_only
returns-in-Err-clause-short_only g c = λ blank.
    subst (λ (s : Status). WhereTold (g.R.Source.left c.args.random.now) (EndsShort s)) (sym c.apply_status.ensures)
    (ends_short c.in-Err.fault (g.R.Source.left c.args.random.now) (g.R.Source.left c.make.new.random) c.in-Err.ensures.source_told
    (λ short need is. c.in-Err.ensures.short short need (ap (λ f. Err f) is)) (λ is. c.in-Err.ensures.drew (ap (λ f. Err f) is)) (λ is. c.in-Err.ensures.not_closed (ap (λ f. Err f) is)))

pub returns-in-Ok-make-clause-answers : goal.returns-in-Ok-make-clause-answers
returns-in-Ok-make-clause-answers g c = told_answers c.tell.result c.tell.ensures.answers

pub returns-in-Ok-make-clause-not_blank : goal.returns-in-Ok-make-clause-not_blank
returns-in-Ok-make-clause-not_blank g c =
    (λ is. absurd (told_not_blank c.tell.result c.tell.ensures.answers is), λ full. absurd (full (omega (arith, c.size.ensures))))

pub returns-in-Ok-make-clause-short : goal.returns-in-Ok-make-clause-short
returns-in-Ok-make-clause-short g c = λ left need is. absurd (told_not_short c.tell.result c.tell.ensures.answers left need is)

pub returns-in-Ok-make-clause-random_fault : goal.returns-in-Ok-make-clause-random_fault
returns-in-Ok-make-clause-random_fault g c = λ is. absurd (told_not_undrawn c.tell.result c.tell.ensures.answers is)

pub returns-in-Ok-make-clause-disk_fault : goal.returns-in-Ok-make-clause-disk_fault
returns-in-Ok-make-clause-disk_fault g c = λ is. absurd (told_not_unwritten c.tell.result c.tell.ensures.answers is)

pub returns-in-Ok-make-clause-random_kept : goal.returns-in-Ok-make-clause-random_kept
returns-in-Ok-make-clause-random_kept g c = λ early. absurd (told_drew c.tell.result c.tell.ensures.answers early)

pub returns-in-Ok-make-clause-disk_kept : goal.returns-in-Ok-make-clause-disk_kept
returns-in-Ok-make-clause-disk_kept g c = λ early. absurd (told_wrote c.tell.result c.tell.ensures.answers early)

pub returns-in-Ok-make-clause-out_kept : goal.returns-in-Ok-make-clause-out_kept
returns-in-Ok-make-clause-out_kept g c = λ early. absurd (told_printed c.tell.result c.tell.ensures.answers early)

pub returns-in_default-clause-time : goal.returns-in_default-clause-time
returns-in_default-clause-time g c =
    let D = g.D.Disk in
    let a = c.args.disk.now in
    time_still (D.moment a) (D.since a) (D.shown a) (D.may_leave a) (λ s left at. g.met.D.Disk.only_now a s left at)
    (λ t s left early is leaves. g.met.D.Disk.counts_now a t s left early is leaves)
