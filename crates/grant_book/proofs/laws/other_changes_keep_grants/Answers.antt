use Rattle.std.proofs.Common.{map, ap, ◌∙◌, subst, sym, ◌↔◌}
use Rattle.cry_base.specs.Sets.{In}
use Rattle.cry_base.specs.Store.{HolderEntry}
use Rattle.grant_book.proofs.laws.other_changes_keep_grants.Goals as goal

pub returns : goal.returns
returns c = λ checks pairs s t holders made grants are. record {
  numbers = ap (map (λ (e : HolderEntry). e.number)) holders ∙ are.numbers;
  made = made ∙ are.made;
  granted = λ e. subst (λ gs. In e pairs ↔ In e gs) (sym grants) (are.granted e);
}
