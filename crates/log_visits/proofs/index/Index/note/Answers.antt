use Rattle.std.proofs.lemmas.Result.{on_ok_weaker}
use Rattle.commit_journal.specs.Placed.{plain_placed}
use Rattle.log_visits.proofs.IndexKept.{batch_noted}
use Rattle.log_visits.proofs.index.Index.note.Goals as goal

pub returns-clause-noted : goal.returns-clause-noted
returns-clause-noted c =
    on_ok_weaker c.note_contents_of.result
    (λ noted log long has. batch_noted c.args.self.now (record { links = c.note_links_of.new.last; contents = c.note_contents_of.new.last }) log c.args.position (plain_placed c.args.placed.now) long has
    c.in_ok-note_links_of.ensures noted)
    c.note_contents_of.ensures.noted
