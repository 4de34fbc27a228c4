use Rattle.std.proofs.Common.{◌≡◌, get_or, map, rules, sym, ap, subst, ◌∙◌}
use Rattle.commit_journal.specs.Placed.{plain_body}
use Rattle.record_format.specs.Plain.{PlainContent, plain_content}
use Rattle.record_format.specs.declared.payload.Payload.{Payload}
use Rattle.log_visits.specs.Found.{content_here}
use Rattle.log_visits.specs.Spots.{IsAt, contents_in}
use Rattle.log_visits.proofs.Lasts.{at_item, at_mapped, same_item, standing_form}
use Rattle.log_visits.proofs.records.take_content.Goals as goal

pub returns-then-content-kind-clause-found : goal.returns-then-content-kind-clause-found
returns-then-content-kind-clause-found c = λ content at kind object.
    let items = c.in-Commands.payload.contents.items in
    let i = c.args.spot.now.index in
    let all : contents_in (plain_body c.args.placed.body) ≡ map plain_content items = ap (λ b. contents_in (plain_body b)) c.in-Commands.is in
    let here = at_mapped plain_content items i c.swap_remove-content.result (at_item items i c.swap_remove-content.result (search rules) (subst (λ (p : Payload). c.swap_remove-content.result ≡ get_or p.contents.items i c.swap_remove-content.result) c.in-Commands.payload-is c.swap_remove-content.ensures.value)) in
    let same = same_item (map plain_content items) i content (plain_content c.swap_remove-content.result) (subst (λ l. IsAt l i content) all at) here in
    let own_kind = sym (ap (λ (p : PlainContent). p.kind) same) ∙ kind in
    let own_object = sym (ap (λ (p : PlainContent). p.object) same) ∙ object in
    search rules

pub returns-clause-found : goal.returns-clause-found
returns-clause-found c = λ content at kind object.
    let items = c.in-Commands.payload.contents.items in
    let i = c.args.spot.now.index in
    let all : contents_in (plain_body c.args.placed.body) ≡ map plain_content items = ap (λ b. contents_in (plain_body b)) c.in-Commands.is in
    let here = at_mapped plain_content items i c.swap_remove-content.result (at_item items i c.swap_remove-content.result (search rules) (subst (λ (p : Payload). c.swap_remove-content.result ≡ get_or p.contents.items i c.swap_remove-content.result) c.in-Commands.payload-is c.swap_remove-content.ensures.value)) in
    ap (content_here c.args.spot.now.batch c.args.spot.now.at)
    (sym (same_item (map plain_content items) i content (plain_content c.swap_remove-content.result) (subst (λ l. IsAt l i content) all at) here))

pub returns-clause-form : goal.returns-clause-form
returns-clause-form c =
    let items = c.in-Commands.payload.contents.items in
    let i = c.args.spot.now.index in
    let all : contents_in (plain_body c.args.placed.body) ≡ map plain_content items = ap (λ b. contents_in (plain_body b)) c.in-Commands.is in
    let here = at_mapped plain_content items i c.swap_remove-content.result (at_item items i c.swap_remove-content.result (search rules) (subst (λ (p : Payload). c.swap_remove-content.result ≡ get_or p.contents.items i c.swap_remove-content.result) c.in-Commands.payload-is c.swap_remove-content.ensures.value)) in
    record {
      form = standing_form c.args.placed i (plain_content c.swap_remove-content.result) c.requires (subst (λ l. IsAt l i (plain_content c.swap_remove-content.result)) (sym all) here);
      kind_is = search rules;
      object_is = search rules;
    }
