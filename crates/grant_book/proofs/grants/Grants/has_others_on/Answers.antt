use Rattle.std.proofs.Common.{List, ◌==◌, ◌∙◌, ap, not}
use Rattle.std.specs.List.{list_any}
use Rattle.cry_base.specs.Store.{GrantEntry}
use Rattle.grant_book.proofs.Dropped.{others_stay}
use Rattle.grant_book.proofs.grants.Grants.has_others_on.Goals as goal

pub returns : goal.returns
returns c =
    c.has_others.ensures
    ∙ ap (λ (l : List GrantEntry). list_any (λ e. not (e.holder == c.args.h.0)) l) c.grants_on.ensures.grants
    ∙ others_stay c.args.self.now.pairs c.args.h.0 c.args.f.0
