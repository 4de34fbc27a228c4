-- What looking up a file's clearance, and what a grant's number tell.
use Rattle.std.proofs.Common.{◌≡◌, ℕ, Bool, true, false, cond, Option, Some, None, refl, sym, ap, ◌∙◌}
use Rattle.cry_base.specs.Clearances.{clear_number, file_of}
use Rattle.cry_base.specs.Stepping.{without_grant}
use Rattle.cry_base.specs.Store.{Store}
use Rattle.cry_base.specs.declared.ids.FolderId.{FolderId}
use Rattle.cry_base.specs.declared.ids.FileId.{FileId}
use Rattle.grant_book.specs.Cleared.{as_file}
use Rattle.role_graph.specs.Edges.{grant_edge, has_grants}
use Rattle.role_graph.specs.Roles.{clear_of, file_role}
use Rattle.std.specs.Prelude.{List, [], ◌∷◌, ◌++◌, option_map}
use Rattle.cry_base.specs.declared.roles.Role.{Role}
use Rattle.cry_base.specs.declared.roles.Role.TheVariants.{Clear}
use Rattle.record_format.specs.Noted.Note.{Give, Take}
use Rattle.move_plan.specs.Change.{clearance_in, edges_of_first, given_on, no_change, roles_of_file, row_change, taken_from, without_roles}

pub clear_some : (b : Bool) (n : ℕ) (c : FolderId) → Some c ≡ cond b (Some (record { 0 = n })) None → (b ≡ true) × (c.0 ≡ n)
clear_some true n c e = let same : c ≡ record { 0 = n } = cc in (refl, ap (λ (z : FolderId). z.0) same)
clear_some false n c e = absurd cc

pub clear_none : (b : Bool) (n : ℕ) → None ≡ cond b (Some (let f : FolderId = record { 0 = n } in f)) None → b ≡ false
clear_none true n e = absurd cc
clear_none false n e = refl

-- what a number names
pub named_file : (o : Option ℕ) (x : FileId) → Some x ≡ option_map as_file o → o ≡ Some x.0
named_file None x e = absurd cc
named_file (Some n) x e = let same : x ≡ as_file n = cc in ap (λ (z : FileId). Some z.0) (sym same)

pub named_folder : (o : Option ℕ) → None ≡ option_map as_file o → o ≡ None
named_folder None e = refl
named_folder (Some n) e = absurd cc

-- the rows of grants
pub give_folder : (s : Store) (h f : ℕ) → file_of f ≡ None → record no_change { added = grant_edge h f ∷ [] } ≡ row_change s (Give h f)
unfolding row_change given_on
give_folder s h f e = λ i. given_on s h f (sym e i)

pub give_again : (s : Store) (h f x : ℕ) → file_of f ≡ Some x → has_grants s f ≡ true → record no_change { added = grant_edge h f ∷ [] } ≡ row_change s (Give h f)
unfolding row_change given_on
give_again s h f x e t =
    (λ i. cond (sym t i) (record no_change { added = grant_edge h f ∷ [] }) (record no_change { fresh = clear_of f ∷ []; added = edges_of_first s h x }))
    ∙ (λ i. given_on s h f (sym e i))

pub give_first : (s : Store) (h f x : ℕ) → file_of f ≡ Some x → has_grants s f ≡ false → record no_change { fresh = clear_of f ∷ []; added = edges_of_first s h x } ≡ row_change s (Give h f)
unfolding row_change given_on
give_first s h f x e t =
    (λ i. cond (sym t i) (record no_change { added = grant_edge h f ∷ [] }) (record no_change { fresh = clear_of f ∷ []; added = edges_of_first s h x }))
    ∙ (λ i. given_on s h f (sym e i))

pub take_folder : (s : Store) (h f : ℕ) → file_of f ≡ None → record no_change { removed = grant_edge h f ∷ []; wanted = clear_of f ∷ [] } ≡ row_change s (Take h f)
unfolding row_change taken_from
take_folder s h f e = λ i. taken_from s h f (sym e i)

pub take_others : (s : Store) (h f x : ℕ) → file_of f ≡ Some x → has_grants (without_grant s h f) f ≡ true → record no_change { removed = grant_edge h f ∷ []; wanted = clear_of f ∷ [] } ≡ row_change s (Take h f)
unfolding row_change taken_from
take_others s h f x e t =
    (λ i. cond (sym t i) (record no_change { removed = grant_edge h f ∷ []; wanted = clear_of f ∷ [] }) (without_roles s (clear_of f ∷ [])))
    ∙ (λ i. taken_from s h f (sym e i))

pub take_last : (s : Store) (h f x : ℕ) → file_of f ≡ Some x → has_grants (without_grant s h f) f ≡ false → without_roles s (clear_of f ∷ []) ≡ row_change s (Take h f)
unfolding row_change taken_from
take_last s h f x e t =
    (λ i. cond (sym t i) (record no_change { removed = grant_edge h f ∷ []; wanted = clear_of f ∷ [] }) (without_roles s (clear_of f ∷ [])))
    ∙ (λ i. taken_from s h f (sym e i))

-- the roles of a file that goes
pub roles_granted : (s : Store) (x : ℕ) (c : FolderId) → has_grants s (clear_number x) ≡ true → c.0 ≡ clear_number x → (let l : List Role = Clear c ∷ file_role x ∷ [] in l) ≡ roles_of_file s x
unfolding roles_of_file clearance_in clear_of
roles_granted s x c t q =
    (λ i. Clear (record { 0 = q i }) ∷ file_role x ∷ [])
    ∙ (λ i. cond (sym t i) (clear_of (clear_number x) ∷ []) [] ++ file_role x ∷ [])

pub roles_alone : (s : Store) (x : ℕ) → has_grants s (clear_number x) ≡ false → file_role x ∷ [] ≡ roles_of_file s x
unfolding roles_of_file clearance_in
roles_alone s x t = λ i. cond (sym t i) (clear_of (clear_number x) ∷ []) [] ++ file_role x ∷ []
