use Rattle.std.proofs.Common.{ap, sym, ◌∙◌}
use Rattle.cry_base.specs.declared.roles.Node.TheVariants.{File}
use Rattle.log_visits.specs.Placing.{PlacedContent}
use Rattle.trail_audit.proofs.Revealed.{file_form, file_seen, seen_added, seen_alike}
use Rattle.trail_audit.proofs.contents.see_file.Goals as goal

pub returns-in_default-clause-fault : goal.returns-in_default-clause-fault
returns-in_default-clause-fault c = (ap (λ (p : PlacedContent). p.at) c.found.view_is, file_form c.args.found.now.content c.args.text.now c.requires.kind ∙ c.in_default.ensures)

pub returns-clause-form : goal.returns-clause-form
returns-clause-form c = file_form c.args.found.now.content c.args.text.now c.requires.kind ∙ c.in-Some.ensures.0

pub returns-clause-seen : goal.returns-clause-seen
returns-clause-seen c =
    let found = c.args.found.now in
    let name = c.in-Some.name.now in
    let bytes = c.in-Some.bytes.now in
    seen_added c.args.seen.now.items c.push.new.self.items _ _ c.in_ok-push.ensures.items
    (seen_alike c.found.inside.batch found.batch (File (record { 0 = c.found.inside.content.now.object })) (File (record { 0 = found.content.object })) c.in_ok-name.name.items name c.in_ok-bytes.bytes.items bytes
    (ap (λ (p : PlacedContent). p.batch) c.found.view_is) (ap (λ (p : PlacedContent). File (record { 0 = p.content.object })) c.found.view_is) c.in_ok-name.ensures c.in_ok-bytes.ensures
    ∙ sym (file_seen found.batch found.content c.args.text.now name bytes c.requires.kind c.in-Some.ensures.1))
