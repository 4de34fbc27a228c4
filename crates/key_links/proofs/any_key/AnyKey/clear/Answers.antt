use Rattle.key_links.specs.Ringed.{parts_of}
use Rattle.kind_table.specs.declared.kinds.RoleKind.TheVariants as kind
use Rattle.key_links.proofs.Wrapped.{is_wrapped, wrap}
use Rattle.key_links.proofs.any_key.AnyKey.clear.Goals as goal

pub unreachable-requires : goal.unreachable-requires
unfolding wrap
unreachable-requires c = c.in_default.not-Clear (parts_of c.args.self.now) (is_wrapped kind.Clear c.args.self.now c.requires)
