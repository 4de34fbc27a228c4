use Rattle.std.proofs.Common.{◌≡◌, true, false}
use Rattle.std.specs.Prelude.{bytes_eq, codes}
use Rattle.cry_base.specs.Naming.{is_root_path}
use Rattle.holder_client.proofs.Besides.{root_parent}
use Rattle.holder_client.proofs.opening_path.parent_of.Goals as goal

pub returns-then-eq : goal.returns-then-eq
returns-then-eq c =
    let root : bytes_eq c.args.path.now (codes "/") ≡ true = cc in
    root_parent c.args.path.now root

pub front_of-requires-clause-other : goal.front_of-requires-clause-other
unfolding is_root_path
front_of-requires-clause-other c =
    let other : bytes_eq c.args.path.now (codes "/") ≡ false = cc in
    other
