use Rattle.std.proofs.Common.{◌≡◌, ◌≤◌, get_or, length, map, ap, ◌∙◌, arith}
use Rattle.std.proofs.lemmas.List.{take_all}
use Rattle.std.proofs.lemmas.Result.{err_from_is_err_and}
use Rattle.folder_nodes.specs.declared.rows.FileRow.{FileRow}
use Rattle.holder_client.specs.declared.reading.ReadFile.{ReadFile}
use Rattle.log_visits.proofs.Lasts.{item_at}
use Rattle.holder_client.proofs.FiledReads.{reads_begin, reads_end, reads_fail, reads_go_on, rows_more}
use Rattle.holder_client.proofs.reading.read_files.Goals as goal

pub loop-row-init : goal.loop-row-init
loop-row-init g c = record {
  present = c.requires.keys;
  rows = ap (map (λ (f : ReadFile). f.row)) c.new-files.ensures.items;
  stays = g.met.R.Records.same c.args.source.now;
  read = λ shown. reads_begin c.args.state.now (g.R.Records.log c.args.records.now) c.args.entries.now c.args.ring c.args.rows.now c.new-files.result.items c.new-files.ensures.items;
}

pub returns-in_err-file-clause-answer : goal.returns-in_err-file-clause-answer
returns-in_err-file-clause-answer g c = λ shown r o bare names of_log stand holds has.
    let p = err_from_is_err_and c.from_residual-in_err-file.result c.from_residual-in_err-file.ensures.1 in
    let rows = c.args.rows.now in
    let i = c.loop-row.row-index in
    let d : FileRow = record { id = record { 0 = 0 }; folder = record { 0 = 0 } } in
    let row = get_or rows i d in
    let own : row ≡ get_or rows i row = item_at rows i d row c.loop-row-test.true in
    rw (p.1, p.2)
    (reads_fail c.args.state.now (g.R.Records.log c.args.records.now) c.args.entries.now c.args.ring c.loop-row.ring rows i row c.loop-row.files.items c.in_err-file.field-0.0 c.loop-row-test.true own
    (c.loop-row.invariant.read shown) (λ r o of_log stand holds.
    c.in_err-file.ensures.answer (g.met.R.Records.still_shows c.args.records.now c.args.source.now c.loop-row.source c.loop-row.invariant.stays shown) r o c.args.entries.now of_log c.in_ok-clearances.ensures stand holds) r o bare names of_log stand holds has)

pub loop-row-preserved : goal.loop-row-preserved
loop-row-preserved g c =
    let rows = c.args.rows.now in
    let i = c.loop-row.row-index in
    let d : FileRow = record { id = record { 0 = 0 }; folder = record { 0 = 0 } } in
    let row = get_or rows i d in
    let own : row ≡ get_or rows i row = item_at rows i d row c.loop-row-test.true in
    record {
      present = c.in_ok-file.ensures.keys;
      rows = rows_more rows i row c.loop-row.files.items c.keep.new.files.items c.in_ok-file.file c.loop-row-test.true own c.loop-row.invariant.rows c.in_ok-file.ensures.row c.in_ok-keep.ensures;
      stays = g.met.R.Records.twice c.args.source.now c.loop-row.source c.read_file.new.source c.loop-row.invariant.stays c.in_ok-file.ensures.stays;
      read = λ shown. reads_go_on c.args.state.now (g.R.Records.log c.args.records.now) c.args.entries.now c.args.ring c.loop-row.ring c.read_file.new.ring rows i row c.loop-row.files.items c.keep.new.files.items c.in_ok-file.file c.loop-row-test.true
          own (c.loop-row.invariant.read shown) c.in_ok-keep.ensures (λ r o of_log stand holds.
          c.in_ok-file.ensures.answer (g.met.R.Records.still_shows c.args.records.now c.args.source.now c.loop-row.source c.loop-row.invariant.stays shown) r o c.args.entries.now of_log c.in_ok-clearances.ensures stand holds);
    }

pub returns-clause-answer : goal.returns-clause-answer
returns-clause-answer g c = λ shown r o bare names of_log stand holds has.
    let past : length c.args.rows.now ≤ c.loop-row.row-index = omega (arith, c.loop-row-test.false) in
    reads_end c.args.state.now (g.R.Records.log c.args.records.now) c.args.entries.now c.args.ring c.loop-row.ring c.args.rows.now c.loop-row.row-index c.loop-row.files.items past (c.loop-row.invariant.read shown) r o bare names of_log stand holds has

pub returns-clause-rows : goal.returns-clause-rows
returns-clause-rows g c = c.loop-row.invariant.rows ∙ take_all c.loop-row.row-index c.args.rows.now (omega arith)

pub returns-in_err-file-clause-stays : goal.returns-in_err-file-clause-stays
returns-in_err-file-clause-stays g c = g.met.R.Records.twice c.args.source.now c.loop-row.source c.read_file.new.source c.loop-row.invariant.stays c.in_err-file.ensures.stays

pub returns-in_err-file-clause-disk_fault : goal.returns-in_err-file-clause-disk_fault
returns-in_err-file-clause-disk_fault g c = λ is.
    let p = err_from_is_err_and c.from_residual-in_err-file.result c.from_residual-in_err-file.ensures.1 in
    let rose = c.in_err-file.ensures.disk_fault cc in
    let kept = g.met.R.Records.counts c.args.source.now c.loop-row.source c.loop-row.invariant.stays in
    omega (arith, kept, rose)

pub returns-in_err-keep-clause-stays : goal.returns-in_err-keep-clause-stays
returns-in_err-keep-clause-stays g c = g.met.R.Records.twice c.args.source.now c.loop-row.source c.read_file.new.source c.loop-row.invariant.stays c.in_ok-file.ensures.stays
