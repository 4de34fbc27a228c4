-- The form of what the replacement of a holder stands for.
use Rattle.std.proofs.Common.{◌≡◌, ℕ, ◌+◌, List, inl, inr, Option, Some, None, Result, Ok, Err, refl, sym, subst}
use Rattle.std.specs.Prelude.{IfOk}
use Rattle.cry_base.specs.Requests.{Request}
use Rattle.cry_base.specs.Store.{HolderEntry, Store, holder_entry}
use Rattle.folder_nodes.specs.Titles.{Titles, tree_store}
use Rattle.grant_book.specs.Granted.{Granted}
use Rattle.group_book.specs.Replacing.{granted_paths, stands_for, stands_for_entry}
use Rattle.grant_book.specs.Matching.{AreGrantsOf}
use Rattle.journal_bytes.specs.Owning.{IsStoreOf, IsTreeOf}
use Rattle.store_owner.specs.Owned.{OwnerView}
use Rattle.store_owner.specs.Sound.{granted_in, own_store}
use Rattle.cli_sessions.specs.Script.{IsReplacement}

entry_form : (s : Store) (n : ℕ) (entry : Option HolderEntry) → IsReplacement n (stands_for_entry s n entry)
unfolding stands_for_entry
entry_form s n None = inl refl
entry_form s n (Some entry) = inr (s.holders_made + 1, granted_paths s n, refl)

stands_form : (s : Store) (n : ℕ) → IsReplacement n (stands_for s n)
unfolding stands_for
stands_form s n = entry_form s n (holder_entry s n)

pub form_is : {L E : Type 0} (asked : L → List Request) (t : Store) (names : Titles) (granted : Granted) (n : ℕ) (s : Store) → IsStoreOf t names granted s → (r : Result L E)
    → IfOk r (λ l. (any : Store) → IsStoreOf t names granted any → asked l ≡ stands_for any n) → IfOk r (λ l. IsReplacement n (asked l))
form_is asked t names granted n s is (Ok l) told = subst (IsReplacement n) (sym (told s is)) (stands_form s n)
form_is asked t names granted n s is (Err fault) told = tt

-- what an owner keeps is its own store's
pub kept_as : (o : OwnerView) (t : Store) (names : Titles) (granted : Granted) → t ≡ o.state.tree → names ≡ o.names → granted.checks ≡ o.state.checks → granted.pairs ≡ o.state.pairs
    → IsStoreOf o.state.tree o.names (granted_in o) (own_store o) → IsStoreOf t names granted (own_store o)
kept_as o t names granted tree_is names_are checks_are pairs_are own = record {
  tree = subst (λ x. IsTreeOf (tree_store x names) (own_store o)) (sym tree_is) (subst (λ x. IsTreeOf (tree_store o.state.tree x) (own_store o)) (sym names_are) own.tree);
  grants = subst (λ x. AreGrantsOf x granted.pairs (own_store o)) (sym checks_are) (subst (λ x. AreGrantsOf o.state.checks x (own_store o)) (sym pairs_are) own.grants);
}
