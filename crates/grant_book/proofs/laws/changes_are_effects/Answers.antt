use Rattle.std.proofs.Common.{◌≡◌, ℕ, suc, ◌+◌, not, ◌==◌, List, [], ◌∷◌, ◌++◌, length, length-append, ap, ◌∙◌, arith}
use Rattle.std.specs.List.{range_with_len}
use Rattle.std.proofs.lemmas.List.{map-append}
use Rattle.cry_base.specs.Clearances.{clear_number}
use Rattle.cry_base.specs.Refusing.{granted_id}
use Rattle.cry_base.specs.Stepping.{effect, with_new_holder, without_file, without_folder, without_grant}
use Rattle.cry_base.specs.Store.{Store, GrantEntry, HolderEntry, node_at}
use Rattle.grant_book.specs.Granted.{grant_of, is_grant}
use Rattle.grant_book.specs.Matching.{AreGrantsOf}
use Rattle.grant_book.proofs.Matched.{granted_more, granted_less, range_more}
use Rattle.grant_book.proofs.laws.changes_are_effects.Goals as goal

holder_added : (checks : List (List ℕ)) (pairs : List GrantEntry) (s : Store) (check key : List ℕ) → AreGrantsOf checks pairs s → AreGrantsOf (checks ++ check ∷ []) pairs (with_new_holder s key)
unfolding with_new_holder
holder_added checks pairs s check key are =
    let longer = length-append checks (check ∷ []) in
    let counted : suc (length checks) ≡ length (checks ++ check ∷ []) = omega arith in record {
      numbers =
          map-append (λ (e : HolderEntry). e.number) s.holders (record { number = s.holders_made + 1; key = key } ∷ [])
          ∙ ap (λ xs. xs ++ (s.holders_made + 1) ∷ []) are.numbers
          ∙ ap (λ n. range_with_len 1 (length checks) ++ n ∷ []) (let made = are.made in omega arith)
          ∙ range_more 1 (length checks) ∙ ap (range_with_len 1) counted;
      made = let made = are.made in omega arith;
      granted = are.granted;
    }

pub returns : goal.returns
unfolding effect without_file without_folder without_grant
returns c = record {
  holder = holder_added;
  grant = λ checks pairs s h path key are. record { numbers = are.numbers; made = are.made; granted = granted_more pairs s.grants (grant_of h (granted_id (node_at s path))) are.granted };
  revoke = λ checks pairs s h path key are. record { numbers = are.numbers; made = are.made; granted = granted_less pairs s.grants (λ e. not (is_grant h (granted_id (node_at s path)) e)) are.granted };
  folder = λ checks pairs s f are. record { numbers = are.numbers; made = are.made; granted = granted_less pairs s.grants (λ e. not (e.folder == f)) are.granted };
  file = λ checks pairs s x are. record { numbers = are.numbers; made = are.made; granted = granted_less pairs s.grants (λ e. not (e.folder == clear_number x)) are.granted };
}
