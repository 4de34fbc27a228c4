use Rattle.std.proofs.Common.{◌≡◌, ℕ, List, ◌-◌, ◌++◌, length, take, drop, ap, ◌∙◌}
use Rattle.std.proofs.lemmas.List.{length-drop}
use Rattle.chacha_seal.specs.Sealing.{masked}
use Rattle.chacha_seal.proofs.SealingLemmas.{length-masked}
use Rattle.commit_journal.proofs.BatchLemmas.{with_payload, behind_the_slot}
use Rattle.commit_journal.proofs.batch.mask.Goals as goal
use borrow.Rule.Slice.PartMut.{post_of}

pub returns-clause-items : goal.returns-clause-items
returns-clause-items c =
    let items = c.args.batch.now.items in
    let bytes = c.as_mut_slice-bytes.result.now in
    let part = c.mask_in_place.new.text in
    let veil = c.args.veil.now in
    let whole : List ℕ → List ℕ = λ b. take 45 b ++ (part ++ post_of 45 (length b - 45) b) in
    let is : part ≡ masked veil (drop 45 items) =
    c.mask_in_place.ensures.masked ∙ ap (λ p. masked veil p) (behind_the_slot bytes items c.as_mut_slice-bytes.ensures.value)
    in
    let same : length part ≡ length items - 45 = ap length is ∙ length-masked veil (drop 45 items) ∙ length-drop 45 items in
    with_payload items part c.requires same (whole bytes) (ap whole c.as_mut_slice-bytes.ensures.value)
    ∙ ap (λ p. take 45 items ++ p) is
