use Rattle.kind_table.specs.Kinds.{kind_of}
use Rattle.key_links.specs.Ringed.{role_of}
use Rattle.key_links.proofs.Ends.{sealing_kind}
use Rattle.key_links.proofs.any_links.open_any.Goals as goal

pub data-requires : goal.data-requires
unfolding kind_of
data-requires c = sealing_kind (role_of c.args.key.now) c.args.content.now.kind c.args.content.now.object 1 c.requires.key c.in-1.is

pub file-requires : goal.file-requires
unfolding kind_of
file-requires c = sealing_kind (role_of c.args.key.now) c.args.content.now.kind c.args.content.now.object 2 c.requires.key c.in-2.is

pub owner-requires : goal.owner-requires
unfolding kind_of
owner-requires c = sealing_kind (role_of c.args.key.now) c.args.content.now.kind c.args.content.now.object 3 c.requires.key c.in-3.is
