use Rattle.std.proofs.Common.{◌++◌, List, map, ap, sym, ◌∙◌}
use Rattle.std.proofs.lemmas.List.{append-nil}
use Rattle.log_visits.specs.Placing.{PlacedContent}
use Rattle.trail_audit.specs.Derived.{PlainSeen, plain_seen}
use Rattle.trail_audit.proofs.Revealed.{other_form, other_seen}
use Rattle.trail_audit.proofs.contents.see_text.Goals as goal

pub returns-clause-form : goal.returns-clause-form
returns-clause-form c =
    let kind = ap (λ (p : PlacedContent). p.content.kind) c.found.view_is in
    other_form c.args.found.now.content c.args.text.items (λ is. c.if-kind-eq-FOLDER_NAME.false (kind ∙ is)) (λ is. c.if-kind-eq-FILE_TEXT.false (kind ∙ is))

pub returns-clause-seen : goal.returns-clause-seen
returns-clause-seen c =
    let found = c.args.found.now in
    let kind = ap (λ (p : PlacedContent). p.content.kind) c.found.view_is in
    let old = map plain_seen c.args.seen.now.items in
    let nothing = other_seen found.batch found.content c.args.text.items (λ is. c.if-kind-eq-FOLDER_NAME.false (kind ∙ is)) (λ is. c.if-kind-eq-FILE_TEXT.false (kind ∙ is)) in
    sym (ap (λ (s : List PlainSeen). old ++ s) nothing ∙ append-nil old)
