use Rattle.std.proofs.Common.{sym, ◌∙◌}
use Rattle.log_visits.specs.declared.entry_files.EntryFile.{EntryFile}
use Rattle.log_visits.proofs.ListedVisits.{later_one, next_one}
use Rattle.holder_client.proofs.reading.note_clearance.Goals as goal

pub returns-then-contains_key : goal.returns-then-contains_key
returns-then-contains_key c = λ so_far has.
    later_one (λ (e : EntryFile). e.file.0) (λ (e : EntryFile). e.clearance) c.args.clearances.now so_far c.args.entry.now (sym c.contains_key.ensures ∙ c.if-contains_key.true) has

pub returns : goal.returns
returns c = λ so_far has.
    next_one (λ (e : EntryFile). e.file.0) (λ (e : EntryFile). e.clearance) c.args.clearances.now c.insert.new.self so_far c.args.entry.now (sym c.contains_key.ensures ∙ c.if-contains_key.false) c.in_ok-insert.ensures.updates.0 has
