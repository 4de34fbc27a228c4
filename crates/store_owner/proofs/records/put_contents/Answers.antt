use Rattle.std.proofs.Common.{map, inl, refl, sym, ap, subst, ◌∙◌}
use Rattle.cry_base.specs.Sets.{In}
use Rattle.record_format.specs.Plain.{plain_content}
use Rattle.store_owner.proofs.RingRecords.{first_is, none_by, one_by}
use Rattle.store_owner.proofs.records.put_contents.Goals as goal

pub put_text-requires-clause-sealed : goal.put_text-requires-clause-sealed
put_text-requires-clause-sealed c =
    let item = c.in-Some.ensures.item in
    c.requires.sealed c.in-Some.head.now (subst (In c.in-Some.head.now) (sym (first_is c.args.heads.now c.in-Some.head.now item.3.0 item.1 c.requires.one)) (inl refl))

pub returns-in-Some-clause-contents : goal.returns-in-Some-clause-contents
returns-in-Some-clause-contents c =
    let item = c.in-Some.ensures.item in
    c.put_text.ensures.content ∙ sym (one_by c.args.ring.now _ c.args.text.items c.args.heads.now c.in-Some.head.now (first_is c.args.heads.now c.in-Some.head.now item.3.0 item.1 c.requires.one))

pub returns-in_default-clause-contents : goal.returns-in_default-clause-contents
returns-in_default-clause-contents c =
    ap (map plain_content) c.requires.empty ∙ none_by c.args.ring.now _ c.args.text.items c.args.heads.now c.in_default.ensures.item.3
