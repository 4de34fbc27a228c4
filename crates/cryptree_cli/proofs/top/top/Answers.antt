use Rattle.std.proofs.Common.{◌≡◌, List, ℕ, Option, Some, arith, refl, sym, ap, ◌∙◌, subst}
use Rattle.std.specs.Prelude.{IfSome}
use Rattle.commit_journal.proofs.OpenedMoments.{read_throughout}
use Rattle.cli_words.specs.declared.texts.TheConstants.{HELP, VERSION}
use Rattle.cli_words.specs.declared.words.Form.TheVariants.{Help, Run, Upgrade, Version}
use Rattle.cli_words.specs.declared.words.Form.{Form}
use Rattle.cli_making.specs.Promises.Gen.{GenEnds}
use Rattle.cli_reading.specs.Promises.Audit.{AuditEnds, of_audit}
use Rattle.cli_reading.specs.Promises.List.{ListEnds, of_list}
use Rattle.cli_reading.specs.Promises.Open.{OpenEnds, of_open}
use Rattle.cli_base.specs.Promises.Text.{TextEnds}
use Rattle.cli_base.specs.World.{senses_of, world_of}
use Rattle.cli_heads.specs.Promises.Asking.{AskingEnds}
use Rattle.cli_heads.specs.Promises.Checking.{CheckEnds}
use Rattle.cli_heads.specs.Asked.Asked.{TheProof}
use Rattle.cli_words.specs.Words.{HasFewLines, form_of_words, path_in_words, text_of}
use Rattle.cli_running.specs.Promises.HeldRun.{HeldRunEnds}
use Rattle.cli_upgrading.specs.Promises.HeldUpgrade.{HeldUpgradeEnds}
use Rattle.head_tree.specs.declared.head.Head.{Head}
use Rattle.cli_words.proofs.AskedScripts.{of_asked, of_asked_audit, of_asked_check, of_asked_list, of_asked_open, of_asked_proof, of_asked_run, of_asked_upgrade}
use Rattle.cli_making.proofs.MakeLemmas.{done_or_no_memory}
use Rattle.cli_reading.proofs.Sound.{reading_ends}
use Rattle.cli_reading.proofs.SoundAudit.{audit_sound}
use Rattle.cli_reading.proofs.SoundLines.{list_sound, open_sound}
use Rattle.cryptree_cli.proofs.top.top.Goals as goal

pub returns-in-Some-Make-clause-makes : goal.returns-in-Some-Make-clause-makes
returns-in-Some-Make-clause-makes g c = λ is.
    let make = c.make.ensures in
    record {
      answers = make.answers;
      not_blank = make.not_blank;
      short = make.short;
      short_only = make.short_only;
      complete = λ blank x was enough random disk out.
          done_or_no_memory c.make.result make.answers
          (λ e. make.not_blank.0 e blank)
          (λ e. omega (arith, make.random_fault e, random))
          (λ e. omega (arith, make.disk_fault e, disk))
          (λ e. omega (arith, make.write_fault e, out))
          (λ left need e. let short = make.short left need e in omega (arith, short.had x was, short.fewer, enough));
      made = make.made;
      cut_short = make.cut_short;
      stays = make.stays;
      hands_some = make.hands_some;
      later = make.later;
      time = make.time;
      rest_kept = refl;
      random_kept = make.random_kept;
      disk_kept = make.disk_kept;
      out_kept = make.out_kept;
    }

-- ---- `run`

pub returns-in-Some-Run-None-clause-runs : goal.returns-in-Some-Run-None-clause-runs
returns-in-Some-Run-None-clause-runs g c = λ is.
    let run = c.run.ensures in
    record {
      answers = run.answers;
      first_line = run.first_line;
      key_line = run.key_line;
      judged = run.judged;
      version = run.version;
      bad_line = run.bad_line;
      short = run.short;
      asked = run.lines.0;
      answered = run.lines.1;
      lines = run.lines.2;
      takes = run.lines.3;
      read_to_end = run.read_to_end;
      read_whole_lines = run.lines.4;
      ran = run.lines.5;
      published = run.published;
      later = run.later;
      time = run.time;
      stays = run.stays;
      opening = run.lines.6;
      unasked = λ needs.
          let kept = run.unasked needs in
          ap (λ random. world_of c.run.new.input random c.run.new.disk c.run.new.out) kept.0
          ∙ ap (λ out. world_of c.run.new.input c.args.random.now c.run.new.disk out) kept.1;
      unopened = λ early.
          let kept = run.unopened early in
          ap (λ random. world_of c.run.new.input random c.run.new.disk c.run.new.out) kept.0
          ∙ ap (λ disk. world_of c.run.new.input c.args.random.now disk c.run.new.out) kept.1
          ∙ ap (λ out. world_of c.run.new.input c.args.random.now c.args.disk.now out) kept.2;
    }

pub returns-in-Some-Run-Some-clause-runs_held : goal.returns-in-Some-Run-Some-clause-runs_held
returns-in-Some-Run-Some-clause-runs_held g c = λ head asked.
    let see = senses_of g.S.Source g.R.Source g.D.Disk g.W.Sink in
    let before = world_of c.args.input.now c.args.random.now c.args.disk.now c.args.out.now in
    let after = world_of c.run_held.new.input c.run_held.new.random c.run_held.new.disk c.run_held.new.out in
    let asks = c.in-Some-Run-Some in
    of_asked_run (λ (o : Option Head). IfSome o (λ h. HeldRunEnds h see c.run_held.result before after)) (Some asks.head) (Some head)
    (form_of_words c.args.words.now.items)
    (sym c.form_of.ensures.form ∙ asks.is ∙ ap (λ f. Some f) (asks.field-0-is ∙ ap (λ h. Run h) asks.field-0-0-is)) asked c.run_held.ensures.ends

-- ---- `upgrade`

pub returns-in-Some-Upgrade-Some-clause-upgrades_held : goal.returns-in-Some-Upgrade-Some-clause-upgrades_held
returns-in-Some-Upgrade-Some-clause-upgrades_held g c = λ head asked.
    let see = senses_of g.S.Source g.R.Source g.D.Disk g.W.Sink in
    let before = world_of c.args.input.now c.args.random.now c.args.disk.now c.args.out.now in
    let held = c.upgrade_held in
    let after = world_of held.new.input held.new.random held.new.disk held.new.out in
    let asks = c.in-Some-Upgrade-Some in
    of_asked_upgrade (λ (o : Option Head). IfSome o (λ h. HeldUpgradeEnds h see held.result before after)) (Some asks.head) (Some head)
    (form_of_words c.args.words.now.items)
    (sym c.form_of.ensures.form ∙ asks.is ∙ ap (λ f. Some f) (asks.field-0-is ∙ ap (λ h. Upgrade h) asks.field-0-0-is)) asked held.ensures.ends

-- ---- `gen`

pub generate_store-requires : goal.generate_store-requires
generate_store-requires g c =
    subst (λ (o : Option Form). IfSome o HasFewLines) (c.in-Some-Gen.is ∙ ap (λ f. Some f) c.in-Some-Gen.field-0-is)
    c.form_of.ensures.few_lines

pub returns-in-Some-Gen-clause-generates : goal.returns-in-Some-Gen-clause-generates
returns-in-Some-Gen-clause-generates g c = λ seed count asked.
    let gen = c.generate_store.ensures in
    of_asked (λ n m. GenEnds (senses_of g.S.Source g.R.Source g.D.Disk g.W.Sink) c.generate_store.result
    (world_of c.args.input.now c.args.random.now c.args.disk.now c.args.out.now)
    (world_of c.args.input.now c.generate_store.new.random c.generate_store.new.disk c.generate_store.new.out) n m)
    c.in-Some-Gen.seed c.in-Some-Gen.count seed count (form_of_words c.args.words.now.items)
    (sym c.form_of.ensures.form ∙ c.in-Some-Gen.is ∙ ap (λ f. Some f) c.in-Some-Gen.field-0-is) asked
    (record {
      answers = gen.answers;
      not_blank = gen.not_blank;
      short = gen.short;
      complete = λ blank enough random disk out.
          done_or_no_memory c.generate_store.result gen.answers
          (λ e. gen.not_blank.0 e blank)
          (λ e. omega (arith, gen.random_fault e, random))
          (λ e. omega (arith, gen.disk_fault e, disk))
          (λ e. omega (arith, gen.write_fault e, out))
          enough;
      generates = gen.generates;
      later = gen.later;
      time = gen.time;
      calm = gen.calm;
      rest_kept = refl;
      blank_kept = gen.blank_kept;
      out_kept = gen.out_kept;
    })

-- ---- `list`, `open` and `audit`

pub returns-in-Some-List-clause-lists : goal.returns-in-Some-List-clause-lists
returns-in-Some-List-clause-lists g c = λ head asked.
    let read = c.read_and_print in
    let see = senses_of g.S.Source g.R.Source g.D.Disk g.W.Sink in
    let before = world_of c.args.input.now c.args.random.now c.args.disk.now c.args.out.now in
    let after = world_of read.new.input c.args.random.now read.new.disk read.new.out in
    let moments = read_throughout g.D.Disk (λ d s left at. g.met.D.Disk.only_now d s left at)
    (λ d t s left early shows leaves. g.met.D.Disk.counts_now d t s left early shows leaves)
    c.args.disk.now read.new.disk read.ensures.reads.reads_only in
    let own = c.in-Some-List.head in
    of_asked_list (λ h. ListEnds h see read.result before after) own head (form_of_words c.args.words.now.items)
    (sym c.form_of.ensures.form ∙ c.in-Some-List.is ∙ ap (λ f. Some f) c.in-Some-List.field-0-is) asked
    (reading_ends of_list list_sound own see read.result before after refl read.ensures.answers read.ensures.reads read.ensures.held
    moments read.ensures.disk_unread read.ensures.out_kept)

pub returns-in-Some-Open-clause-opens : goal.returns-in-Some-Open-clause-opens
returns-in-Some-Open-clause-opens g c = λ head asked.
    let read = c.read_and_print-in-Some-Open in
    let see = senses_of g.S.Source g.R.Source g.D.Disk g.W.Sink in
    let before = world_of c.args.input.now c.args.random.now c.args.disk.now c.args.out.now in
    let after = world_of read.new.input c.args.random.now read.new.disk read.new.out in
    let moments = read_throughout g.D.Disk (λ d s left at. g.met.D.Disk.only_now d s left at)
    (λ d t s left early shows leaves. g.met.D.Disk.counts_now d t s left early shows leaves)
    c.args.disk.now read.new.disk read.ensures.reads.reads_only in
    let own = c.in-Some-Open.head in
    let path = c.path_in.result.now in
    of_asked_open (λ h. OpenEnds h see read.result before after (path_in_words c.args.words.now.items)) own head (form_of_words c.args.words.now.items)
    (sym c.form_of.ensures.form ∙ c.in-Some-Open.is ∙ ap (λ f. Some f) c.in-Some-Open.field-0-is) asked
    (subst (λ named. OpenEnds own see read.result before after named) c.path_in.ensures
    (reading_ends (of_open path) (open_sound path) own see read.result before after refl read.ensures.answers read.ensures.reads read.ensures.held
    moments read.ensures.disk_unread read.ensures.out_kept))

pub returns-in-Some-Audit-clause-audits : goal.returns-in-Some-Audit-clause-audits
returns-in-Some-Audit-clause-audits g c = λ head asked.
    let read = c.read_and_print-in-Some-Audit in
    let see = senses_of g.S.Source g.R.Source g.D.Disk g.W.Sink in
    let before = world_of c.args.input.now c.args.random.now c.args.disk.now c.args.out.now in
    let after = world_of read.new.input c.args.random.now read.new.disk read.new.out in
    let moments = read_throughout g.D.Disk (λ d s left at. g.met.D.Disk.only_now d s left at)
    (λ d t s left early shows leaves. g.met.D.Disk.counts_now d t s left early shows leaves)
    c.args.disk.now read.new.disk read.ensures.reads.reads_only in
    let own = c.in-Some-Audit.head in
    of_asked_audit (λ h. AuditEnds h see read.result before after) own head (form_of_words c.args.words.now.items)
    (sym c.form_of.ensures.form ∙ c.in-Some-Audit.is ∙ ap (λ f. Some f) c.in-Some-Audit.field-0-is) asked
    (reading_ends of_audit audit_sound own see read.result before after refl read.ensures.answers read.ensures.reads read.ensures.held
    moments read.ensures.disk_unread read.ensures.out_kept)

-- ---- `head` and `prove`

pub returns-in-Some-Head-clause-heads : goal.returns-in-Some-Head-clause-heads
returns-in-Some-Head-clause-heads g c = λ is.
    let ask = c.ask_head in
    let moments = read_throughout g.D.Disk (λ d s left at. g.met.D.Disk.only_now d s left at)
    (λ d t s left early shows leaves. g.met.D.Disk.counts_now d t s left early shows leaves)
    c.args.disk.now ask.new.disk ask.ensures.read_only in
    record {
      answers = ask.ensures.answers;
      answered = ask.ensures.answered;
      moments = moments;
      rest_kept = refl;
      out_kept = ask.ensures.out_kept;
    }

pub returns-in-Some-Prove-clause-proves : goal.returns-in-Some-Prove-clause-proves
returns-in-Some-Prove-clause-proves g c = λ batches asked.
    let ask = c.ask_proof in
    let moments = read_throughout g.D.Disk (λ d s left at. g.met.D.Disk.only_now d s left at)
    (λ d t s left early shows leaves. g.met.D.Disk.counts_now d t s left early shows leaves)
    c.args.disk.now ask.new.disk ask.ensures.read_only in
    of_asked_proof (λ n. AskingEnds (TheProof n) (senses_of g.S.Source g.R.Source g.D.Disk g.W.Sink) ask.result
    (world_of c.args.input.now c.args.random.now c.args.disk.now c.args.out.now)
    (world_of c.args.input.now c.args.random.now ask.new.disk ask.new.out))
    c.in-Some-Prove.batches batches (form_of_words c.args.words.now.items)
    (sym c.form_of.ensures.form ∙ c.in-Some-Prove.is ∙ ap (λ f. Some f) c.in-Some-Prove.field-0-is) asked
    (record {
      answers = ask.ensures.answers;
      answered = ask.ensures.answered;
      moments = moments;
      rest_kept = refl;
      out_kept = ask.ensures.out_kept;
    })

-- ---- `check`

pub returns-in-Some-Check-clause-checks : goal.returns-in-Some-Check-clause-checks
returns-in-Some-Check-clause-checks g c = λ old new asked.
    let check = c.check in
    of_asked_check (λ first second. CheckEnds first second (senses_of g.S.Source g.R.Source g.D.Disk g.W.Sink) check.result
    (world_of c.args.input.now c.args.random.now c.args.disk.now c.args.out.now)
    (world_of check.new.input c.args.random.now c.args.disk.now check.new.out))
    c.in-Some-Check.old c.in-Some-Check.new old new (form_of_words c.args.words.now.items)
    (sym c.form_of.ensures.form ∙ c.in-Some-Check.is ∙ ap (λ f. Some f) c.in-Some-Check.field-0-is) asked
    (record {
      answers = check.ensures.answers;
      answered = check.ensures.answered;
      takes = check.ensures.takes;
      rest_kept = refl;
      out_kept = check.ensures.out_kept;
    })

-- ---- the texts

pub returns-in-Some-Help-clause-tells : goal.returns-in-Some-Help-clause-tells
returns-in-Some-Help-clause-tells g c = λ x asked.
    let form : form_of_words c.args.words.now.items ≡ Some Help =
    sym c.form_of.ensures.form ∙ c.in-Some-Help.is ∙ ap (λ f. Some f) c.in-Some-Help.field-0-is
    in
    let some : Some HELP.now ≡ Some x = sym (ap text_of form) ∙ asked in
    let text : HELP.now ≡ x = cc in
    subst (λ (t : List ℕ). TextEnds (senses_of g.S.Source g.R.Source g.D.Disk g.W.Sink) c.tell.result
    (world_of c.args.input.now c.args.random.now c.args.disk.now c.args.out.now)
    (world_of c.args.input.now c.args.random.now c.args.disk.now c.tell.new.out) t) text
    (record { answers = c.tell.ensures.done; rest_kept = refl })

pub returns-in-Some-Version-clause-tells : goal.returns-in-Some-Version-clause-tells
returns-in-Some-Version-clause-tells g c = λ x asked.
    let form : form_of_words c.args.words.now.items ≡ Some Version =
    sym c.form_of.ensures.form ∙ c.in-Some-Version.is ∙ ap (λ f. Some f) c.in-Some-Version.field-0-is
    in
    let some : Some VERSION.now ≡ Some x = sym (ap text_of form) ∙ asked in
    let text : VERSION.now ≡ x = cc in
    let out = c.tell-in-Some-Version.new.out in
    subst (λ (t : List ℕ). TextEnds (senses_of g.S.Source g.R.Source g.D.Disk g.W.Sink) c.tell-in-Some-Version.result
    (world_of c.args.input.now c.args.random.now c.args.disk.now c.args.out.now)
    (world_of c.args.input.now c.args.random.now c.args.disk.now out) t) text
    (record { answers = c.tell-in-Some-Version.ensures.done; rest_kept = refl })
