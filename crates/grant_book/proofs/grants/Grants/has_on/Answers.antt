use Rattle.std.proofs.Common.{List, ◌==◌, ◌∙◌, ap, length, not}
use Rattle.cry_base.specs.Store.{GrantEntry}
use Rattle.grant_book.proofs.Dropped.{some_passes}
use Rattle.grant_book.proofs.grants.Grants.has_on.Goals as goal

pub returns : goal.returns
returns c =
    ap not c.is_empty.ensures
    ∙ ap (λ (l : List GrantEntry). not (length l == 0)) c.grants_on.ensures.grants
    ∙ some_passes GrantEntry (λ e. e.folder == c.args.f.0) c.args.self.now.pairs
