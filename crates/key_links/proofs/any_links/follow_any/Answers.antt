use Rattle.std.proofs.Common.{ap}
use Rattle.key_links.specs.Ended.{kind_from, kind_to, row_numbered}
use Rattle.key_links.specs.Ringed.{role_of}
use Rattle.key_links.proofs.Ends.{source_kind}
use Rattle.key_links.proofs.any_links.follow_any.Goals as goal

pub owner-requires : goal.owner-requires
unfolding kind_from row_numbered
owner-requires c = source_kind c.args.link.now (role_of c.args.source.now) 1 c.requires.source c.in-1.is

pub holder-requires : goal.holder-requires
unfolding kind_from row_numbered
holder-requires c = source_kind c.args.link.now (role_of c.args.source.now) 2 c.requires.source c.in-2.is

pub clear-requires : goal.clear-requires
unfolding kind_from row_numbered
clear-requires c = source_kind c.args.link.now (role_of c.args.source.now) 3 c.requires.source c.in-3.is

pub sub-requires : goal.sub-requires
unfolding kind_from row_numbered
sub-requires c = source_kind c.args.link.now (role_of c.args.source.now) 4 c.requires.source c.in-4.is

pub sub-requires-in-5 : goal.sub-requires-in-5
unfolding kind_from row_numbered
sub-requires-in-5 c = source_kind c.args.link.now (role_of c.args.source.now) 5 c.requires.source c.in-5.is

pub sub-requires-in-6 : goal.sub-requires-in-6
unfolding kind_from row_numbered
sub-requires-in-6 c = source_kind c.args.link.now (role_of c.args.source.now) 6 c.requires.source c.in-6.is

pub back-requires : goal.back-requires
unfolding kind_from row_numbered
back-requires c = source_kind c.args.link.now (role_of c.args.source.now) 7 c.requires.source c.in-7.is

pub back-requires-in-8 : goal.back-requires-in-8
unfolding kind_from row_numbered
back-requires-in-8 c = source_kind c.args.link.now (role_of c.args.source.now) 8 c.requires.source c.in-8.is

pub files-requires : goal.files-requires
unfolding kind_from row_numbered
files-requires c = source_kind c.args.link.now (role_of c.args.source.now) 9 c.requires.source c.in-9.is

pub clear-requires-in-10 : goal.clear-requires-in-10
unfolding kind_from row_numbered
clear-requires-in-10 c = source_kind c.args.link.now (role_of c.args.source.now) 10 c.requires.source c.in-10.is

pub clear-requires-in-11 : goal.clear-requires-in-11
unfolding kind_from row_numbered
clear-requires-in-11 c = source_kind c.args.link.now (role_of c.args.source.now) 11 c.requires.source c.in-11.is

pub returns-in-1-clause-role : goal.returns-in-1-clause-role
unfolding kind_to row_numbered
returns-in-1-clause-role c = c.clear_behind.ensures.role (ap kind_to c.in-1.is)

pub returns-in-2-clause-role : goal.returns-in-2-clause-role
unfolding kind_to row_numbered
returns-in-2-clause-role c = c.clear_behind-in-2.ensures.role (ap kind_to c.in-2.is)

pub returns-in-3-clause-role : goal.returns-in-3-clause-role
unfolding kind_to row_numbered
returns-in-3-clause-role c = c.sub_behind.ensures.role (ap kind_to c.in-3.is)

pub returns-in-4-clause-role : goal.returns-in-4-clause-role
unfolding kind_to row_numbered
returns-in-4-clause-role c = c.back_behind.ensures.role (ap kind_to c.in-4.is)

pub returns-in-5-clause-role : goal.returns-in-5-clause-role
unfolding kind_to row_numbered
returns-in-5-clause-role c = c.files_behind.ensures.role (ap kind_to c.in-5.is)

pub returns-in-6-clause-role : goal.returns-in-6-clause-role
unfolding kind_to row_numbered
returns-in-6-clause-role c = c.sub_behind-in-6.ensures.role (ap kind_to c.in-6.is)

pub returns-in-7-clause-role : goal.returns-in-7-clause-role
unfolding kind_to row_numbered
returns-in-7-clause-role c = c.data_behind.ensures.role (ap kind_to c.in-7.is)

pub returns-in-8-clause-role : goal.returns-in-8-clause-role
unfolding kind_to row_numbered
returns-in-8-clause-role c = c.back_behind-in-8.ensures.role (ap kind_to c.in-8.is)

pub returns-in-9-clause-role : goal.returns-in-9-clause-role
unfolding kind_to row_numbered
returns-in-9-clause-role c = c.file_behind.ensures.role (ap kind_to c.in-9.is)

pub returns-in-10-clause-role : goal.returns-in-10-clause-role
unfolding kind_to row_numbered
returns-in-10-clause-role c = c.file_behind-in-10.ensures.role (ap kind_to c.in-10.is)

pub returns-in-11-clause-role : goal.returns-in-11-clause-role
unfolding kind_to row_numbered
returns-in-11-clause-role c = c.back_behind-in-11.ensures.role (ap kind_to c.in-11.is)
