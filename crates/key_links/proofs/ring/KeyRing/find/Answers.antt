use Rattle.std.proofs.Common.{sym, ap, ◌∙◌}
use Rattle.key_links.proofs.Ringing.{beside_found, rest_found, root_found}
use Rattle.key_links.proofs.ring.KeyRing.find.Goals as goal
use Rattle.key_links.proofs.ring.KeyRing.find.Goals.{in_default-via-in-Some+else-is_of, in_default-via-in_default}

pub returns-in-Some : goal.returns-in-Some
returns-in-Some c =
    root_found c.args.self.now.keys c.self.inside.held.rows c.self.inside.root c.args.role c.of-place.result.0 (ap (λ r. r.keys) c.self.view_is) c.of-place.ensures
    c.in-Some.key c.in-Some.is (sym c.is_of.ensures ∙ c.if-is_of.true)

pub returns-in_default : goal.returns-in_default
returns-in_default c =
    c.find.ensures
    ∙ elim c.in_default.branch [
      | in_default-via-in-Some+else-is_of w ↦ beside_found c.args.self.now.keys c.self.inside.held.rows c.self.inside.root c.args.role c.of-place.result.0 (ap (λ r. r.keys) c.self.view_is) c.of-place.ensures w.in-Some.key w.in-Some.is (sym w.is_of.ensures ∙ w.if-is_of.false)
      | in_default-via-in_default w ↦ rest_found c.args.self.now.keys c.self.inside.held.rows c.self.inside.root c.args.role c.of-place.result.0 (ap (λ r. r.keys) c.self.view_is) c.of-place.ensures (cc)
    ]
