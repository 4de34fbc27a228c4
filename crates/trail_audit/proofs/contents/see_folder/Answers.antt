use Rattle.std.proofs.Common.{[], ap, sym, ◌∙◌, refl}
use Rattle.cry_base.specs.declared.roles.Node.TheVariants.{Folder}
use Rattle.log_visits.specs.Placing.{PlacedContent}
use Rattle.log_visits.specs.Visiting.{is_folder_text}
use Rattle.trail_audit.proofs.Revealed.{folder_form, folder_seen, seen_added, seen_alike}
use Rattle.trail_audit.proofs.contents.see_folder.Goals as goal

pub returns-then-not-is_folder_text-clause-fault : goal.returns-then-not-is_folder_text-clause-fault
returns-then-not-is_folder_text-clause-fault c =
    let text = c.args.text.items in (
      ap (λ (p : PlacedContent). p.at) c.found.view_is,
      folder_form c.args.found.now.content text c.requires.kind
          ∙ ap (λ (p : PlacedContent). is_folder_text p.content.object text) (sym c.found.view_is)
          ∙ ap (is_folder_text c.found.inside.content.now.object) (sym c.as_slice.ensures)
          ∙ sym c.is_folder_text.ensures ∙ c.if-not-is_folder_text.true,
    )

pub returns-clause-form : goal.returns-clause-form
returns-clause-form c =
    let text = c.args.text.items in
    folder_form c.args.found.now.content text c.requires.kind
    ∙ ap (λ (p : PlacedContent). is_folder_text p.content.object text) (sym c.found.view_is)
    ∙ ap (is_folder_text c.found.inside.content.now.object) (sym c.as_slice.ensures)
    ∙ sym c.is_folder_text.ensures ∙ c.if-not-is_folder_text.false

pub returns-clause-seen : goal.returns-clause-seen
returns-clause-seen c =
    let found = c.args.found.now in
    let text = c.args.text.items in
    seen_added c.args.seen.now.items c.push.new.self.items _ _ c.in_ok-push.ensures.items
    (seen_alike c.found.inside.batch found.batch (Folder (record { 0 = c.found.inside.content.now.object })) (Folder (record { 0 = found.content.object })) text text c.new.result.items []
    (ap (λ (p : PlacedContent). p.batch) c.found.view_is) (ap (λ (p : PlacedContent). Folder (record { 0 = p.content.object })) c.found.view_is) refl c.new.ensures
    ∙ sym (folder_seen found.batch found.content text c.requires.kind))
