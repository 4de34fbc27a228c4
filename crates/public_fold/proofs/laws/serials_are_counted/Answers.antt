use Rattle.public_fold.proofs.Serials.{keys_between, links_between, contents_between}
use Rattle.public_fold.proofs.laws.serials_are_counted.Goals as goal

pub returns : goal.returns
returns c = record { keys = keys_between; links = links_between; contents = contents_between }
