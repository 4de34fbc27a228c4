use Rattle.std.proofs.Common.{◌≡◌, ◌≢◌, option_map, sym, ap, ◌∙◌}
use Rattle.chacha_seal.specs.Keys.{KeyParts}
use Rattle.cry_base.specs.declared.roles.Role.{Role}
use Rattle.log_visits.specs.Visiting.{visit}
use Rattle.log_visits.proofs.Opens.{same_keys, on_any}
use Rattle.key_links.specs.Ringed.{key_of}
use Rattle.log_visits.proofs.opening.visit_link.Goals as goal

pub visit_edge-requires-clause-keys : goal.visit_edge-requires-clause-keys
visit_edge-requires-clause-keys c = λ role key there.
    c.requires.keys role key (sym (same_keys c.reserve.new.self c.args.ring.now role c.in_ok-reserve.ensures.keys) ∙ there)

pub returns-clause-answer : goal.returns-clause-answer
unfolding visit
returns-clause-answer c = λ told r o is_found from holds.
    c.visit_edge.ensures.answer told r o is_found from
    (λ role is_told. holds role is_told ∙ ap (option_map (λ (k : KeyParts). k.bytes)) (sym (same_keys c.reserve.new.self c.args.ring.now role c.in_ok-reserve.ensures.keys)))

pub returns-clause-others : goal.returns-clause-others
returns-clause-others c =
    on_any ((role : Role) → role ≢ c.args.edge.now.to → key_of c.visit_edge.new.ring role ≡ key_of c.args.ring.now role) c.visit_edge.result
    (λ role other. c.visit_edge.ensures.others role other ∙ same_keys c.reserve.new.self c.args.ring.now role c.in_ok-reserve.ensures.keys)
