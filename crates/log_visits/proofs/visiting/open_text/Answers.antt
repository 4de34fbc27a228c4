use Rattle.std.proofs.Common.{◌≡◌, ◌≤◌, length, None, Some, IfSome, option_map, refl, sym, ap, subst, ◌∙◌}
use Rattle.std.proofs.lemmas.Bool.{false≢true}
use Rattle.std.specs.Option.{IsSome}
use Rattle.chacha_seal.specs.Keys.{KeyParts}
use Rattle.chacha_seal.proofs.SealingLemmas.{length-sealed}
use Rattle.log_visits.specs.Found.{IsContentFor, content_here, plain_found}
use Rattle.log_visits.specs.Placing.{content_for}
use Rattle.log_visits.proofs.Following.{content_wanting, text_key_wanting, text_read, text_refused, the_one, no_one}
use Rattle.key_links.specs.Ended.{sealing_role}
use Rattle.key_links.specs.Opened.{text_of}
use Rattle.key_links.specs.Ringed.{key_of}
use Rattle.record_format.specs.Plain.{plain_content}
use Rattle.record_format.specs.Spellable.{shortest_text, longest_text}
use Rattle.record_format.specs.declared.content.ContentRecord.{ContentRecord}
use Rattle.log_visits.proofs.visiting.open_text.Goals as goal

pub returns-in_default-clause-answer : goal.returns-in_default-clause-answer
returns-in_default-clause-answer c = λ told r o go_on is_found is_told holds.
    let kind = c.args.kind in
    let object = c.args.object in
    content_wanting r o (sealing_role kind object) kind object go_on (sym is_found ∙ ap plain_found c.in_default.is)

pub returns-then-is_none-clause-answer : goal.returns-then-is_none-clause-answer
returns-then-is_none-clause-answer c = λ told r o go_on is_found is_told holds.
    let kind = c.args.kind in
    let object = c.args.object in
    let role = sealing_role kind object in
    let ring = c.args.ring.now in
    let none : key_of ring role ≡ None =
    no_one (key_of ring role) (λ there. false≢true (sym c.if-is_none.ensures ∙ c.present.ensures.there.1 (subst (λ x. IsSome (key_of ring x)) (sym c.sealing_role.ensures) there)))
    in
    text_key_wanting r o role kind object go_on (holds role is_told ∙ ap (option_map (λ (k : KeyParts). k.bytes)) none)

pub open_text-requires-clause-key : goal.open_text-requires-clause-key
open_text-requires-clause-key c =
    let kind = c.args.kind in
    let object = c.args.object in
    let ring = c.args.ring.now in
    let content = c.in-Some.found.content in
    let form : IsContentFor kind object c.in-Some.found = subst (λ o. IfSome o (IsContentFor kind object)) c.in-Some.is c.requires.found in
    let role : sealing_role content.kind content.object ≡ sealing_role kind object = ap (λ k. sealing_role k content.object) form.kind_is ∙ ap (sealing_role kind) form.object_is in
    let key = the_one (key_of ring (sealing_role kind object)) (subst (λ x. IsSome (key_of ring x)) c.sealing_role.ensures (c.present.ensures.there.0 c.if-is_none.ensures)) in (
      key.0,
      ap (key_of ring) role ∙ key.1,
    )

pub returns-in-Ok-clause-answer : goal.returns-in-Ok-clause-answer
returns-in-Ok-clause-answer c = λ told r o go_on is_found is_told holds.
    let kind = c.args.kind in
    let object = c.args.object in
    let ring = c.args.ring.now in
    let found = c.in-Some.found in
    let content = found.content in
    let plain = plain_content content in
    let there : content_for r.log kind object ≡ Some (content_here found.batch found.at plain) = sym is_found ∙ ap plain_found c.in-Some.is in
    let form : IsContentFor kind object found = subst (λ o. IfSome o (IsContentFor kind object)) c.in-Some.is c.requires.found in
    let role : sealing_role content.kind content.object ≡ sealing_role kind object = ap (λ k. sealing_role k content.object) form.kind_is ∙ ap (sealing_role kind) form.object_is in
    let key = the_one (key_of ring (sealing_role kind object)) (subst (λ x. IsSome (key_of ring x)) c.sealing_role.ensures (c.present.ensures.there.0 c.if-is_none.ensures)) in
    let held = ap (key_of ring) role ∙ key.1 in
    let text : c.open_text.new.content.cipher.items ≡ text_of key.0 plain = ap (λ (x : ContentRecord). x.cipher.items) (c.in-Ok.ensures.opened key.0 held) in
    text_read r o (sealing_role kind object) kind object go_on key.0 found.batch found.at plain
    (holds (sealing_role kind object) is_told ∙ ap (option_map (λ (k : KeyParts). k.bytes)) key.1) there ((c.in-Ok.ensures.authentic key.0 held).0 refl)
    ∙ ap (go_on found.at) (sym text)

pub returns-in-Err-clause-answer : goal.returns-in-Err-clause-answer
returns-in-Err-clause-answer c = λ told r o go_on is_found is_told holds.
    let kind = c.args.kind in
    let object = c.args.object in
    let ring = c.args.ring.now in
    let found = c.in-Some.found in
    let content = found.content in
    let plain = plain_content content in
    let there : content_for r.log kind object ≡ Some (content_here found.batch found.at plain) = sym is_found ∙ ap plain_found c.in-Some.is in
    let form : IsContentFor kind object found = subst (λ o. IfSome o (IsContentFor kind object)) c.in-Some.is c.requires.found in
    let role : sealing_role content.kind content.object ≡ sealing_role kind object = ap (λ k. sealing_role k content.object) form.kind_is ∙ ap (sealing_role kind) form.object_is in
    let key = the_one (key_of ring (sealing_role kind object)) (subst (λ x. IsSome (key_of ring x)) c.sealing_role.ensures (c.present.ensures.there.0 c.if-is_none.ensures)) in
    let held = ap (key_of ring) role ∙ key.1 in
    text_refused r o (sealing_role kind object) kind object go_on key.0 found.batch found.at plain
    (holds (sealing_role kind object) is_told ∙ ap (option_map (λ (k : KeyParts). k.bytes)) key.1) there
    (λ right. false≢true ((c.in-Err.ensures.authentic key.0 held).1 right))

pub returns-in-Ok-clause-form : goal.returns-in-Ok-clause-form
returns-in-Ok-clause-form c =
    let kind = c.args.kind in
    let object = c.args.object in
    let ring = c.args.ring.now in
    let found = c.in-Some.found in
    let content = found.content in
    let plain = plain_content content in
    let form : IsContentFor kind object found = subst (λ o. IfSome o (IsContentFor kind object)) c.in-Some.is c.requires.found in
    let role : sealing_role content.kind content.object ≡ sealing_role kind object = ap (λ k. sealing_role k content.object) form.kind_is ∙ ap (sealing_role kind) form.object_is in
    let key = the_one (key_of ring (sealing_role kind object)) (subst (λ x. IsSome (key_of ring x)) c.sealing_role.ensures (c.present.ensures.there.0 c.if-is_none.ensures)) in
    let held = ap (key_of ring) role ∙ key.1 in
    let text : c.open_text.new.content.cipher.items ≡ text_of key.0 plain = ap (λ (x : ContentRecord). x.cipher.items) (c.in-Ok.ensures.opened key.0 held) in
    let long : length c.open_text.new.content.cipher.items ≡ length plain.cipher = ap length text ∙ length-sealed key.0.bytes plain.nonce plain.cipher in (
      subst (λ n. shortest_text n ≤ length c.open_text.new.content.cipher.items) form.kind_is (subst (λ n. shortest_text plain.kind ≤ n) (sym long) form.form.text_from),
      subst (λ n. length c.open_text.new.content.cipher.items ≤ longest_text n) form.kind_is (subst (λ n. n ≤ longest_text plain.kind) (sym long) form.form.text_to),
    )
