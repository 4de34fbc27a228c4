use Rattle.std.proofs.Common.{◌∙◌, List, Some, ap, sym}
use Rattle.std.specs.Prelude.{slice_get}
use Rattle.cry_base.specs.Store.{GrantEntry}
use Rattle.grant_book.proofs.Dropped.{none_on, some_on}
use Rattle.grant_book.proofs.grants.Grants.first_on.Goals as goal

pub returns-in-Some : goal.returns-in-Some
returns-in-Some c =
    some_on c.args.self.now.pairs c.args.f.0 c.on.inside.0
    (ap (λ (l : List GrantEntry). slice_get l 0) (sym c.grants_on.ensures.grants) ∙ sym c.in-Some.ensures.value ∙ ap Some (sym c.on.view_is))

pub returns-in-None : goal.returns-in-None
returns-in-None c =
    none_on c.args.self.now.pairs c.args.f.0
    (ap (λ (l : List GrantEntry). slice_get l 0) (sym c.grants_on.ensures.grants) ∙ sym c.in-None.ensures.value)
