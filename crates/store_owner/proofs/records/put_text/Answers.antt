use Rattle.std.proofs.Common.{◌≤◌, ◌∷◌, [], length, map, ◌∙◌, sym, ap, subst, arith}
use Rattle.record_format.specs.Plain.{plain_content}
use Rattle.record_format.specs.Spellable.{longest_text, shortest_text}
use Rattle.journal_bytes.specs.Ringing.{content_by}
use Rattle.store_owner.proofs.RingRecords.{held, text_range}
use Rattle.store_owner.proofs.records.put_text.Goals as goal

pub put_content-requires-clause-from_one : goal.put_content-requires-clause-from_one
put_content-requires-clause-from_one c =
    let range = text_range c.seal-content.result _ _ _ _ _ (c.seal-content.ensures _ (held _ _ c.requires.sealed.key)) in
    omega (arith, c.requires.sealed.kind_from_one, range.0)

pub put_content-requires-clause-to_three : goal.put_content-requires-clause-to_three
put_content-requires-clause-to_three c =
    let range = text_range c.seal-content.result _ _ _ _ _ (c.seal-content.ensures _ (held _ _ c.requires.sealed.key)) in
    omega (arith, c.requires.sealed.kind_to_three, range.0)

pub put_content-requires-clause-shortest : goal.put_content-requires-clause-shortest
put_content-requires-clause-shortest c =
    let range = text_range c.seal-content.result _ _ _ _ _ (c.seal-content.ensures _ (held _ _ c.requires.sealed.key)) in
    subst (λ n. shortest_text c.seal-content.result.kind ≤ n) (sym range.1) (subst (λ k. shortest_text k ≤ length c.args.text.items) (sym range.0) c.requires.sealed.text_from)

pub put_content-requires-clause-longest : goal.put_content-requires-clause-longest
put_content-requires-clause-longest c =
    let range = text_range c.seal-content.result _ _ _ _ _ (c.seal-content.ensures _ (held _ _ c.requires.sealed.key)) in
    subst (λ n. n ≤ longest_text c.seal-content.result.kind) (sym range.1) (subst (λ k. length c.args.text.items ≤ longest_text k) (sym range.0) c.requires.sealed.text_to)

pub returns-clause-content : goal.returns-clause-content
returns-clause-content c =
    ap (map plain_content) c.put_content.ensures.contents
    ∙ ap (λ x. x ∷ []) (c.seal-content.ensures _ (held _ _ c.requires.sealed.key))
    ∙ ap (λ n. content_by c.args.ring.now n c.args.head c.args.text.items ∷ []) c.next.ensures.serial
