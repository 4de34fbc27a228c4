use Rattle.std.proofs.Common.{◌≡◌, ◌≤◌, None, Some, option_map, refl, sym, ap, subst, ◌∙◌, ◌∷◌}
use Rattle.std.proofs.lemmas.Bool.{false≢true}
use Rattle.chacha_seal.specs.Keys.{KeyParts}
use Rattle.chacha_seal.specs.Sealing.{sealed}
use Rattle.log_visits.specs.Found.{link_here, plain_link}
use Rattle.log_visits.specs.Placing.{link_for}
use Rattle.log_visits.proofs.Following.{form_of, head_of, source_is, target_is, has_source, link_wanting, key_wanting, link_followed, link_refused, keys_kept, still_present, the_one, no_one}
use Rattle.key_links.specs.Opened.{target_of}
use Rattle.key_links.specs.Ringed.{key_of, IsWithKey}
use Rattle.log_visits.proofs.visiting.visit_edge.Goals as goal

pub returns-in_default-clause-answer : goal.returns-in_default-clause-answer
returns-in_default-clause-answer c = λ told r o is_found is_told holds.
    link_wanting r o c.args.edge.now (sym is_found ∙ ap plain_link c.in_default.is)

pub returns-then-is_none-clause-answer : goal.returns-then-is_none-clause-answer
returns-then-is_none-clause-answer c = λ told r o is_found is_told holds.
    let from = c.args.edge.now.from in
    let ring = c.args.ring.now in
    let none : key_of ring from ≡ None = no_one (key_of ring from) (λ there. false≢true (sym c.if-is_none.ensures ∙ c.present.ensures.there.1 there)) in
    key_wanting r o c.args.edge.now (holds from is_told ∙ ap (option_map (λ (k : KeyParts). k.bytes)) none)

pub open_link-requires-clause-from_one : goal.open_link-requires-clause-from_one
open_link-requires-clause-from_one c =
    let link = c.in-Some.found.link in
    let head = head_of c.args.state.now.keys c.args.edge.now c.in-Some.found.batch c.in-Some.found.at link (form_of c.args.state.now.keys c.args.edge.now c.args.found c.in-Some.found c.in-Some.is c.requires.found) in
    subst (λ n. 1 ≤ n) (sym head.kind) c.requires.kind.from_one

pub open_link-requires-clause-to_eleven : goal.open_link-requires-clause-to_eleven
open_link-requires-clause-to_eleven c =
    let link = c.in-Some.found.link in
    let head = head_of c.args.state.now.keys c.args.edge.now c.in-Some.found.batch c.in-Some.found.at link (form_of c.args.state.now.keys c.args.edge.now c.args.found c.in-Some.found c.in-Some.is c.requires.found) in
    subst (λ n. n ≤ 11) (sym head.kind) c.requires.kind.to_eleven

pub open_link-requires-clause-source : goal.open_link-requires-clause-source
open_link-requires-clause-source c =
    let keys = c.args.state.now.keys in
    let edge = c.args.edge.now in
    let link = c.in-Some.found.link in
    let head = head_of keys edge c.in-Some.found.batch c.in-Some.found.at link (form_of keys edge c.args.found c.in-Some.found c.in-Some.is c.requires.found) in
    let key = the_one (key_of c.args.ring.now edge.from) (c.present.ensures.there.0 c.if-is_none.ensures) in
    has_source keys edge link c.args.ring.now key.0 c.requires.kind head c.requires.keys key.1

pub returns-in-Ok-clause-answer : goal.returns-in-Ok-clause-answer
returns-in-Ok-clause-answer c = λ told r o is_found is_told holds.
    let keys = c.args.state.now.keys in
    let edge = c.args.edge.now in
    let ring = c.args.ring.now in
    let after = c.open_link.new.self in
    let found = c.in-Some.found in
    let link = found.link in
    let there : link_for r.stand.keys r.log edge ≡ Some (link_here found.batch found.at link) = sym is_found ∙ ap plain_link c.in-Some.is in
    let head = head_of keys edge found.batch found.at link (form_of keys edge c.args.found found c.in-Some.is c.requires.found) in
    let key = the_one (key_of ring edge.from) (c.present.ensures.there.0 c.if-is_none.ensures) in
    let source = ap (key_of ring) (source_is keys edge link c.requires.kind head) ∙ key.1 in
    let with : IsWithKey after ring edge.to (target_of key.0 link) =
    subst (λ x. IsWithKey after ring x (target_of key.0 link)) (target_is keys edge link c.requires.kind head) (c.in-Ok.ensures.opened key.0 source)
    in (
      record o { keys = (edge.to, sealed key.0.bytes link.nonce link.cipher) ∷ o.keys },
      link_followed r o edge key.0 found.batch found.at link (holds edge.from is_told ∙ ap (option_map (λ (k : KeyParts). k.bytes)) key.1)
          there ((c.in-Ok.ensures.authentic key.0 source).0 refl),
      (keys_kept told after ring edge.to (target_of key.0 link) o.keys with holds, refl),
    )

pub returns-in-Ok-clause-keys : goal.returns-in-Ok-clause-keys
returns-in-Ok-clause-keys c =
    let keys = c.args.state.now.keys in
    let edge = c.args.edge.now in
    let ring = c.args.ring.now in
    let after = c.open_link.new.self in
    let found = c.in-Some.found in
    let link = found.link in
    let head = head_of keys edge found.batch found.at link (form_of keys edge c.args.found found c.in-Some.is c.requires.found) in
    let key = the_one (key_of ring edge.from) (c.present.ensures.there.0 c.if-is_none.ensures) in
    let source = ap (key_of ring) (source_is keys edge link c.requires.kind head) ∙ key.1 in
    let with : IsWithKey after ring edge.to (target_of key.0 link) =
    subst (λ x. IsWithKey after ring x (target_of key.0 link)) (target_is keys edge link c.requires.kind head) (c.in-Ok.ensures.opened key.0 source)
    in
    still_present keys.keys after ring edge.to (target_of key.0 link) with c.requires.keys head.to_id head.to_serial

pub returns-in-Err-clause-answer : goal.returns-in-Err-clause-answer
returns-in-Err-clause-answer c = λ told r o is_found is_told holds.
    let keys = c.args.state.now.keys in
    let edge = c.args.edge.now in
    let ring = c.args.ring.now in
    let found = c.in-Some.found in
    let link = found.link in
    let there : link_for r.stand.keys r.log edge ≡ Some (link_here found.batch found.at link) = sym is_found ∙ ap plain_link c.in-Some.is in
    let head = head_of keys edge found.batch found.at link (form_of keys edge c.args.found found c.in-Some.is c.requires.found) in
    let key = the_one (key_of ring edge.from) (c.present.ensures.there.0 c.if-is_none.ensures) in
    let source = ap (key_of ring) (source_is keys edge link c.requires.kind head) ∙ key.1 in
    link_refused r o edge key.0 found.batch found.at link (holds edge.from is_told ∙ ap (option_map (λ (k : KeyParts). k.bytes)) key.1)
    there (λ right. false≢true ((c.in-Err.ensures.authentic key.0 source).1 right))

pub returns-in-Ok-clause-others : goal.returns-in-Ok-clause-others
returns-in-Ok-clause-others c = λ role other.
    let keys = c.args.state.now.keys in
    let edge = c.args.edge.now in
    let ring = c.args.ring.now in
    let after = c.open_link.new.self in
    let found = c.in-Some.found in
    let link = found.link in
    let head = head_of keys edge found.batch found.at link (form_of keys edge c.args.found found c.in-Some.is c.requires.found) in
    let key = the_one (key_of ring edge.from) (c.present.ensures.there.0 c.if-is_none.ensures) in
    let source = ap (key_of ring) (source_is keys edge link c.requires.kind head) ∙ key.1 in
    let with : IsWithKey after ring edge.to (target_of key.0 link) =
    subst (λ x. IsWithKey after ring x (target_of key.0 link)) (target_is keys edge link c.requires.kind head) (c.in-Ok.ensures.opened key.0 source)
    in
    with.others role other
