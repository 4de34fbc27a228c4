use Rattle.std.proofs.Common.{◌++◌, ap, subst}
use Rattle.std.specs.Option.{option_to_list}
use Rattle.key_links.specs.ByKind.{IsFoundBeside}
use Rattle.key_links.proofs.BesideKeys.{cleared}
use Rattle.key_links.proofs.Ringing.{with_key}
use Rattle.key_links.proofs.ring.KeyRing.keep.Goals as goal

pub returns-clause-key : goal.returns-clause-key
returns-clause-key c =
    let old = c.args.self.now in
    let root = option_to_list c.self.inside.root in
    let root' = option_to_list c.empty_root.new.root in
    let after = root' ++ c.put.new.self.rows in
    with_key old c.put.new.self.spare after c.args.key
    (subst (λ keys. IsFoundBeside c.args.key keys after) (ap (λ r. r.keys) c.self.view_is)
    (cleared c.args.key root c.self.inside.held.rows root' c.put.new.self.rows c.place.result.0 c.place.ensures c.empty_root.ensures c.put.ensures.rows))
