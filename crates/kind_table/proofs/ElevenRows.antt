-- What the tests of kinds find of the eleven rows.
use Rattle.std.proofs.Common.{◌≡◌, ◌≢◌, Bool, true, not, ◌||◌, ◌&&◌, ◌⊎◌, List, [], ◌∷◌, refl, sym, ◌∙◌, ⊎_elim, inl, inr, subst}
use Rattle.std.specs.List.{list_all}
use Rattle.std.proofs.lemmas.Bool.{false≢true, and_parts, or_cases, not-true}
use Rattle.cry_base.specs.Sets.{In}
use Rattle.kind_table.specs.Kinds.{same_kind}
use Rattle.kind_table.specs.declared.kinds.RoleKind.{RoleKind}
use Rattle.kind_table.specs.declared.kinds.RoleKind.TheVariants.{Owner, Holder, Clear, Data, File}
use Rattle.kind_table.specs.declared.eleven.TheConstants.{ELEVEN}
use Rattle.kind_table.specs.declared.table.Row.{Row}
use Rattle.kind_table.proofs.Joining.{same_kind_told}

In-list_all : (X : Type 0) (test : X → Bool) (xs : List X) (x : X) → list_all test xs ≡ true → In x xs → test x ≡ true
In-list_all X test [] x all here = absurd here
In-list_all X test (y ∷ ys) x all here =
    let both = and_parts (test y) (list_all test ys) all in
    ⊎_elim (λ (e : x ≡ y). subst (λ z. test z ≡ true) (sym e) both.0) (λ others. In-list_all X test ys x both.1 others) here

-- a kind that is neither of two
is_neither : RoleKind → RoleKind → RoleKind → Bool
is_neither a b kind = not (same_kind kind a) && not (same_kind kind b)

neither_told : (a b kind : RoleKind) → is_neither a b kind ≡ true → (kind ≢ a) × (kind ≢ b)
unfolding is_neither
neither_told a b kind t =
    let both = and_parts (not (same_kind kind a)) (not (same_kind kind b)) t in
    let differs : (c : RoleKind) → not (same_kind kind c) ≡ true → kind ≢ c = λ c u e.
    false≢true (sym (not-true (same_kind kind c) u) ∙ (same_kind_told kind c).1 e) in
    (differs a both.0, differs b both.1)

pub no_root : (r : Row) → In r ELEVEN.rows → (r.to ≢ Owner) × (r.to ≢ Holder)
unfolding is_neither same_kind
no_root r here = neither_told Owner Holder r.to (In-list_all Row (λ q. is_neither Owner Holder q.to) ELEVEN.rows r refl here)

pub no_sealing : (r : Row) → In r ELEVEN.rows → (r.from ≢ Data) × (r.from ≢ File)
unfolding is_neither same_kind
no_sealing r here = neither_told Data File r.from (In-list_all Row (λ q. is_neither Data File q.from) ELEVEN.rows r refl here)

-- a row that doesn't lead to a key that grants hand out, or begins in a root's
is_root_or_not_clear : Row → Bool
is_root_or_not_clear r = not (same_kind r.to Clear) || (same_kind r.from Owner || same_kind r.from Holder)

pub clear : (r : Row) → In r ELEVEN.rows → r.to ≡ Clear → (r.from ≡ Owner) ⊎ (r.from ≡ Holder)
unfolding is_root_or_not_clear same_kind
clear r here into = ⊎_elim
    (λ none. absurd (false≢true (sym (not-true (same_kind r.to Clear) none) ∙ (same_kind_told r.to Clear).1 into)))
    (λ roots. ⊎_elim
    (λ owner. inl ((same_kind_told r.from Owner).0 owner))
    (λ holder. inr ((same_kind_told r.from Holder).0 holder))
    (or_cases (same_kind r.from Owner) (same_kind r.from Holder) roots))
    (or_cases (not (same_kind r.to Clear)) (same_kind r.from Owner || same_kind r.from Holder) (In-list_all Row is_root_or_not_clear ELEVEN.rows r refl here))
