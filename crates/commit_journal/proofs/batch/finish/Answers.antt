use Rattle.std.proofs.Common.{◌≡◌, [], ◌∷◌, ◌++◌, length, take, drop, arith, append_assoc, ap, ◌∙◌, length-append}
use Rattle.std.proofs.lemmas.List.{length-take-le, length-drop}
use Rattle.hmac_seal.specs.Hmac.{hmac}
use Rattle.chacha_seal.specs.Sealing.{masked}
use Rattle.commit_journal.specs.Image.{Batch, batch_head, empty_slot}
use Rattle.chacha_seal.proofs.SealingLemmas.{length-masked}
use Rattle.commit_journal.proofs.BatchLemmas.{Parts, parts_of, length-empty_slot, owner_tag_is, spelled}
use Rattle.commit_journal.proofs.batch.finish.Goals as goal

pub put_tags-requires-clause-whole : goal.put_tags-requires-clause-whole
put_tags-requires-clause-whole c =
    let items = c.args.batch.now.items in
    omega (
      arith,
      ap length c.mask.ensures.items,
      length-append (take 45 items) (masked c.args.veil.now (drop 45 items)),
      length-take-le 45 items c.requires.whole,
    )

masked_is : (c : goal.After-put_tags) (b : Batch) →
    c.args.batch.now.items ≡ batch_head b ++ (empty_slot ++ b.payload) →
    c.mask.new.batch.items ≡ batch_head b ++ (empty_slot ++ masked c.args.veil.now b.payload)
masked_is c b untagged =
    let parts = parts_of b empty_slot b.payload c.args.batch.now.items length-empty_slot untagged in
    let veil = c.args.veil.now in
    c.mask.ensures.items
    ∙ ap (λ x. x ++ masked veil (drop 45 c.args.batch.now.items)) parts.front
    ∙ ap (λ x. (batch_head b ++ empty_slot) ++ masked veil x) parts.behind
    ∙ append_assoc (batch_head b) empty_slot (masked veil b.payload)

masked_parts : (c : goal.After-put_tags) (b : Batch) →
    c.args.batch.now.items ≡ batch_head b ++ (empty_slot ++ b.payload) →
    Parts b empty_slot (masked c.args.veil.now b.payload) c.mask.new.batch.items
masked_parts c b untagged =
    parts_of b empty_slot (masked c.args.veil.now b.payload) c.mask.new.batch.items length-empty_slot (masked_is c b untagged)

pub returns-clause-tag : goal.returns-clause-tag
returns-clause-tag c = λ b is untagged.
    c.put_tags.ensures.tag
    ∙ owner_tag_is c.args.owner.now.bytes c.args.previous.now c.args.veil.now empty_slot c.mask.new.batch.items b is (masked_parts c b untagged)

pub returns-clause-spelled : goal.returns-clause-spelled
returns-clause-spelled c = λ b is untagged.
    let x = c.mask.new.batch.items in
    let tag = c.put_tags.result in
    let veil = c.args.veil.now in
    let parts = masked_parts c b untagged in
    spelled c.args.owner.now.bytes c.args.previous.now veil empty_slot x tag c.put_tags.new.batch.items b is
    (masked_is c b untagged)
    (c.put_tags.ensures.tag ∙ owner_tag_is c.args.owner.now.bytes c.args.previous.now veil empty_slot x b is parts)
    (c.put_tags.ensures.items ∙ ap (λ m. x ++ (hmac veil m ++ (tag ++ 0 ∷ []))) parts.behind)

pub returns-clause-grown : goal.returns-clause-grown
returns-clause-grown c =
    let items = c.args.batch.now.items in
    omega (
      arith,
      c.put_tags.ensures.grown,
      ap length c.mask.ensures.items,
      length-append (take 45 items) (masked c.args.veil.now (drop 45 items)),
      length-take-le 45 items c.requires.whole,
      length-masked c.args.veil.now (drop 45 items),
      length-drop 45 items,
    )
