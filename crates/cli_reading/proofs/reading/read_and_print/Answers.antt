use Rattle.std.proofs.Common.{ℕ, List, Ok, subst, sym}
use Rattle.std.specs.Prelude.{is_some}
use Rattle.cli_reading.proofs.ReadingLemmas.{reads_no_bundle, reads_nothing, reads_text}
use Rattle.cli_reading.proofs.reading.read_and_print.Goals as goal
use Rattle.cli_reading.specs.Held.{MayGive}

pub returns-in-Err-clause-reads : goal.returns-in-Err-clause-reads
returns-in-Err-clause-reads g c =
    reads_no_bundle (MayGive c.args.head (g.C.ReadingCommand.gives c.args.command.now)) g.D.Disk c.in-Err.fault c.input_status.result
    (g.S.Source.left c.args.input.now) (g.S.Source.left c.read_bundle_line.new.input) c.args.disk.now
    (g.W.Sink.written c.args.out.now) c.input_status.ensures c.read_bundle_line.ensures.told c.in-Err.ensures.bytes

pub returns-in-Err-text_behind-clause-reads : goal.returns-in-Err-text_behind-clause-reads
returns-in-Err-text_behind-clause-reads g c =
    let text = c.in-Err-text_behind.ensures in
    reads_nothing (MayGive c.args.head (g.C.ReadingCommand.gives c.args.command.now)) g.D.Disk c.in-Ok.bundle
    g.C.ReadingCommand.tells_unseen (is_some c.args.head) c.in-Err-text_behind.status
    (g.S.Source.left c.args.input.now) (g.S.Source.left c.read_bundle_line.new.input) c.args.disk.now c.text_behind.new.disk
    (g.W.Sink.written c.args.out.now) text.unprinted c.read_bundle_line.ensures.told c.in-Ok.ensures.bytes
    text.gives text.reads_only

pub returns-in-Ok-text_behind-clause-reads : goal.returns-in-Ok-text_behind-clause-reads
returns-in-Ok-text_behind-clause-reads g c =
    let Gives = MayGive c.args.head (g.C.ReadingCommand.gives c.args.command.now) in
    let text = c.in-Ok-text_behind.ensures in
    let same = sym c.as_slice.ensures in
    reads_text Gives g.D.Disk c.in-Ok.bundle c.as_slice.result.now c.tell.result
    (g.S.Source.left c.args.input.now) (g.S.Source.left c.read_bundle_line.new.input) c.args.disk.now c.text_behind.new.disk
    (g.W.Sink.written c.args.out.now) (g.W.Sink.written c.tell.new.out)
    c.tell.ensures.done c.read_bundle_line.ensures.told c.in-Ok.ensures.bytes
    (λ image now. subst (λ (printed : List ℕ). Gives c.in-Ok.bundle image (Ok printed)) same (text.gives image now))
    text.reads_only
