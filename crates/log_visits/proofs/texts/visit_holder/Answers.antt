use Rattle.std.proofs.Common.{◌≡◌, ◌==◌, cond, map, option_map, refl, sym, ap, subst, ◌∙◌}
use Rattle.std.proofs.lemmas.Result.{err_from_is_err_and}
use Rattle.chacha_seal.specs.Keys.{KeyParts}
use Rattle.cry_base.specs.Store.{HolderEntry}
use Rattle.cry_base.specs.declared.roles.Role.TheVariants.{Holder}
use Rattle.log_visits.specs.Visiting.{visit, with_holder_key}
use Rattle.log_visits.proofs.Following.{still_present}
use Rattle.log_visits.proofs.Opens.{same_keys}
use Rattle.key_links.specs.Ringed.{IsWithKey}
use Rattle.role_graph.specs.Roles.{role_id}
use Rattle.log_visits.proofs.texts.visit_holder.Goals as goal

pub returns-in_err-text-clause-answer : goal.returns-in_err-text-clause-answer
unfolding visit
returns-in_err-text-clause-answer c = λ told r o of_log is_told holds.
    let p = err_from_is_err_and c.from_residual-in_err-text.result c.from_residual-in_err-text.ensures.1 in
    rw (p.1, p.2)
    (c.in_err-text.ensures.answer told r o (with_holder_key o c.args.holder.0) of_log is_told
    (λ role t. holds role t ∙ ap (option_map (λ (k : KeyParts). k.bytes)) (sym (same_keys c.reserve.new.self c.args.ring.now role c.in_ok-reserve.ensures.keys))))

pub returns-clause-answer : goal.returns-clause-answer
unfolding visit with_holder_key
returns-clause-answer c = λ told r o of_log is_told holds.
    let h = c.args.holder.0 in
    let ring = c.args.ring.now in
    let text = c.in_ok-text.field-0.text.items in
    let key : KeyParts = record { id = h; serial = c.present_serial-serial.result.0; bytes = text } in
    let is : c.holder.result ≡ key = c.holder.ensures ∙ ap (λ b. let k : KeyParts = record { id = h; serial = c.present_serial-serial.result.0; bytes = b } in k) (c.key_bytes.ensures ∙ c.as_slice.ensures) in
    let with : IsWithKey c.adopt_holder.new.self c.reserve.new.self (Holder (record { 0 = h })) key =
    subst (λ (k : KeyParts). IsWithKey c.adopt_holder.new.self c.reserve.new.self (Holder (record { 0 = k.id })) k) is c.adopt_holder.ensures.key
    in (
      record o { store = record o.store { holders = map (λ (e : HolderEntry). cond (e.number == h) (record e { key = text }) e) o.store.holders } },
      c.in_ok-text.ensures.answer told r o (with_holder_key o h) of_log is_told
          (λ role t. holds role t ∙ ap (option_map (λ (k : KeyParts). k.bytes)) (sym (same_keys c.reserve.new.self ring role c.in_ok-reserve.ensures.keys))),
      record {
        key = text;
        stored = refl;
        ringed = ap (option_map (λ (k : KeyParts). k.bytes)) with.here;
        others = λ role other. with.others role other ∙ same_keys c.reserve.new.self ring role c.in_ok-reserve.ensures.keys;
      },
    )

pub returns-clause-keys : goal.returns-clause-keys
unfolding role_id
returns-clause-keys c =
    let h = c.args.holder.0 in
    let ring = c.args.ring.now in
    let key : KeyParts = record { id = h; serial = c.present_serial-serial.result.0; bytes = c.key_bytes.result } in
    let with : IsWithKey c.adopt_holder.new.self c.reserve.new.self (Holder (record { 0 = h })) key =
    subst (λ (k : KeyParts). IsWithKey c.adopt_holder.new.self c.reserve.new.self (Holder (record { 0 = k.id })) k) c.holder.ensures c.adopt_holder.ensures.key
    in
    still_present c.args.state.now.keys.keys c.adopt_holder.new.self c.reserve.new.self (Holder (record { 0 = h })) key with
    (λ role k there. c.requires.keys role k (sym (same_keys c.reserve.new.self ring role c.in_ok-reserve.ensures.keys) ∙ there)) refl c.present_serial-serial.ensures
