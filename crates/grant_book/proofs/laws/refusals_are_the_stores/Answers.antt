use Rattle.std.proofs.Common.{◌≡◌, ℕ, Bool, true, false, not, List, [], ◌∷◌, sym, ap, ◌∙◌}
use Rattle.std.specs.List.{list_any}
use Rattle.cry_base.specs.Refusing.{finds_no_holder, grants_again, revokes_nothing, granted_id}
use Rattle.cry_base.specs.Store.{Store, GrantEntry, node_at}
use Rattle.cry_base.specs.declared.commands.Refusal.TheVariants.{NoHolder, HasGrant, NoGrant}
use Rattle.grant_book.specs.Granted.{is_grant}
use Rattle.grant_book.specs.Matching.{AreGrantsOf, grant_request}
use Rattle.grant_book.specs.Refused.{first_cause, refusal_of_grant}
use Rattle.grant_book.proofs.Matched.{holder_told, grant_told}
use Rattle.grant_book.proofs.laws.refusals_are_the_stores.Goals as goal

first_told : (checks : List (List ℕ)) (pairs : List GrantEntry) (s : Store) (give : Bool) (h : ℕ) (path : List ℕ) → AreGrantsOf checks pairs s
    → refusal_of_grant checks pairs give h (granted_id (node_at s path)) ≡ first_cause ((finds_no_holder s (grant_request give h path), NoHolder) ∷ (grants_again s (grant_request give h path), HasGrant) ∷ (revokes_nothing s (grant_request give h path), NoGrant) ∷ [])
unfolding finds_no_holder grants_again revokes_nothing
first_told checks pairs s true h path are =
    let stands = list_any (is_grant h (granted_id (node_at s path))) pairs in
    ap (λ a. first_cause ((a, NoHolder) ∷ (stands, HasGrant) ∷ (false, NoGrant) ∷ [])) (sym (holder_told checks pairs s are h))
    ∙ ap (λ b. first_cause ((finds_no_holder s (grant_request true h path), NoHolder) ∷ (b, HasGrant) ∷ (false, NoGrant) ∷ [])) (sym (grant_told checks pairs s are h (granted_id (node_at s path))))
first_told checks pairs s false h path are =
    let stands = list_any (is_grant h (granted_id (node_at s path))) pairs in
    ap (λ a. first_cause ((a, NoHolder) ∷ (false, HasGrant) ∷ (not stands, NoGrant) ∷ [])) (sym (holder_told checks pairs s are h))
    ∙ ap (λ b. first_cause ((finds_no_holder s (grant_request false h path), NoHolder) ∷ (false, HasGrant) ∷ (not b, NoGrant) ∷ [])) (sym (grant_told checks pairs s are h (granted_id (node_at s path))))

pub returns : goal.returns
returns c = first_told
