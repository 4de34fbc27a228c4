use Rattle.std.proofs.Common.{[], ◌++◌, length, refl, ap, ◌∙◌}
use Rattle.hmac_seal.specs.Hmac.{hmac}
use Rattle.index_format.specs.Plain.{plain_body}
use Rattle.log_index.specs.Plain.{PlainCheckpoint, index_tag_key}
use Rattle.log_index.proofs.Made.{file_made}
use Rattle.log_index.proofs.writing.file_of.Goals as goal

pub returns : goal.returns
returns c =
    let owner = c.args.owner.now.bytes in
    let checkpoint = c.args.checkpoint.now in
    let p : PlainCheckpoint = record { batch = checkpoint.batch; tag = checkpoint.tag; body = plain_body c.in_ok-rows.rows } in
    let body = c.in_ok-body.body.items in
    let headed = c.put.new.out.items in
    let whole = c.put_all.new.self.items in
    let file = file_made owner p body c.reserve.new.self.items headed whole c.index_tag-tag.result c.put_all-2.new.self.items c.in_ok-len_of.field-0
    c.in_ok-body.ensures
    (c.in_ok-len_of.ensures ∙ ap length c.as_slice.ensures)
    (c.in_ok-reserve.ensures.items ∙ c.new-file.ensures)
    c.put.ensures.items
    (c.put_all.ensures.items ∙ ap (λ xs. headed ++ xs) c.as_slice-3.ensures)
    (c.index_tag-tag.ensures ∙ ap (λ xs. hmac (index_tag_key owner) (xs ++ [])) c.as_slice-4.ensures)
    c.put_all-2.ensures.items in
    (p, record { batch = refl; tag = refl; body = c.in_ok-rows.ensures }, file)
