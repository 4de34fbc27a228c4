use Rattle.std.proofs.Common.{◌≡◌, Some, None, sym, ap, subst, ◌∙◌}
use Rattle.std.specs.Option.{option_copied, option_map}
use Rattle.std.specs.Prelude.{IsSome}
use Rattle.std.proofs.lemmas.Bool.{false≢true}
use Rattle.key_links.specs.Ringed.{found, key_of, parts_of}
use Rattle.key_links.proofs.Ringing.{found_is}
use Rattle.key_links.proofs.ring.KeyRing.key.Goals as goal

pub unreachable-requires : goal.unreachable-requires
unfolding key_of
unreachable-requires c =
    let none : found c.args.self.now.keys c.args.role ≡ None = sym c.find.ensures ∙ ap option_copied c.in-None.is in
    false≢true (subst IsSome (ap (option_map parts_of) none) c.requires)

pub returns-clause-role : goal.returns-clause-role
returns-clause-role c =
    found_is c.args.self.now.keys c.args.role c.in-Some.key.now (sym c.find.ensures ∙ ap option_copied c.in-Some.is)

pub returns-clause-parts : goal.returns-clause-parts
unfolding key_of
returns-clause-parts c =
    let is : found c.args.self.now.keys c.args.role ≡ Some c.in-Some.key.now = sym c.find.ensures ∙ ap option_copied c.in-Some.is in
    ap (option_map parts_of) is
