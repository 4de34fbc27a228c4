use Rattle.std.proofs.Common.{◌≡◌, ◌-◌, [], ◌∷◌, ◌++◌, length, take, drop, ap, ◌∙◌}
use Rattle.std.proofs.lemmas.List.{append-nil}
use Rattle.hmac_seal.specs.Hmac.{hmac}
use Rattle.chacha_seal.specs.Sealing.{owner_tag_key}
use Rattle.commit_journal.proofs.BatchLemmas.{behind_the_slot, put_thrice}
use Rattle.commit_journal.proofs.batch.put_tags.Goals as goal

check : (c : goal.After-put) → c.hmac-check.result ≡ hmac c.args.veil.now (drop 45 c.args.batch.now.items)
check c =
    let rest = behind_the_slot c.as_slice-bytes.result.now c.args.batch.now.items c.as_slice-bytes.ensures in
    c.hmac-check.ensures ∙ ap (λ m. hmac c.args.veil.now m) (append-nil _ ∙ rest)

pub returns-clause-tag : goal.returns-clause-tag
returns-clause-tag c =
    let items = c.args.batch.now.items in
    let bytes = c.as_slice-bytes.result.now in
    let key = owner_tag_key c.args.owner.now.bytes in
    let previous = c.args.previous.now in
    let rest = behind_the_slot bytes items c.as_slice-bytes.ensures in
    c.owner_tag-tag.ensures
    ∙ ap (λ b. hmac key (previous ++ (take 13 b ++ (take (length bytes - 45) (drop 45 bytes) ++ c.hmac-check.result)))) c.as_slice-bytes.ensures
    ∙ ap (λ p. hmac key (previous ++ (take 13 items ++ (p ++ c.hmac-check.result)))) rest
    ∙ ap (λ k. hmac key (previous ++ (take 13 items ++ (drop 45 items ++ k)))) (check c)

pub returns-clause-items : goal.returns-clause-items
returns-clause-items c =
    let items = c.args.batch.now.items in
    let tag = c.owner_tag-tag.result in
    put_thrice items c.put_all.new.self.items c.put_all-2.new.self.items c.put.new.self.items c.hmac-check.result tag (0 ∷ [])
    c.put_all.ensures.items c.put_all-2.ensures.items c.put.ensures.items
    ∙ ap (λ k. items ++ (k ++ (tag ++ 0 ∷ []))) (check c)
