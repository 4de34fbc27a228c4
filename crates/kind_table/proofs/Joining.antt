-- The tests of kinds say what they are to say.
use Rattle.std.proofs.Common.{◌≡◌, ℕ, zero, suc, ◌<◌, ◌↔◌, IsTrue, refl, sym, ap, ◌∙◌, lit<}
use Rattle.std.proofs.lemmas.Bool.{and_parts, and_from}
use denote.Enum.Bare.{same_true, true_same}
use Rattle.kind_table.specs.Kinds.{place_of, same_kind}
use Rattle.kind_table.specs.Rows.{joins}
use Rattle.kind_table.specs.contracts.kinds.RoleKind.{the_type}
use Rattle.kind_table.specs.declared.kinds.RoleKind.{RoleKind}
use Rattle.kind_table.specs.declared.kinds.RoleKind.TheVariants.{Owner, Holder, Clear, Sub, Back, Files, Data, File}
use Rattle.kind_table.specs.declared.table.Row.{Row}

pub same_kind_told : (a b : RoleKind) → IsTrue (same_kind a b) ↔ (a ≡ b)
unfolding same_kind
same_kind_told a b = (same_true the_type tt a b, true_same the_type a b)

pub joins_told : (a b : RoleKind) (r : Row) → IsTrue (joins a b r) ↔ (r.from ≡ a) × (r.to ≡ b)
unfolding joins
joins_told a b r = (
  λ t. let both = and_parts (same_kind r.from a) (same_kind r.to b) t in ((same_kind_told r.from a).0 both.0, (same_kind_told r.to b).0 both.1),
  λ w. and_from (same_kind r.from a) (same_kind r.to b) ((same_kind_told r.from a).1 w.0) ((same_kind_told r.to b).1 w.1),
)

-- the kind at a place
kind_at : ℕ → RoleKind
kind_at zero = Owner
kind_at (suc zero) = Holder
kind_at (suc (suc zero)) = Clear
kind_at (suc (suc (suc zero))) = Sub
kind_at (suc (suc (suc (suc zero)))) = Back
kind_at (suc (suc (suc (suc (suc zero))))) = Files
kind_at (suc (suc (suc (suc (suc (suc zero)))))) = Data
kind_at (suc (suc (suc (suc (suc (suc (suc n))))))) = File

kind_at-place_of : (a : RoleKind) → kind_at (place_of a) ≡ a
unfolding kind_at place_of
kind_at-place_of Owner = refl
kind_at-place_of Holder = refl
kind_at-place_of Clear = refl
kind_at-place_of Sub = refl
kind_at-place_of Back = refl
kind_at-place_of Files = refl
kind_at-place_of Data = refl
kind_at-place_of File = refl

-- two kinds at one place are one
pub same_place : (a b : RoleKind) → place_of a ≡ place_of b → a ≡ b
same_place a b e = sym (kind_at-place_of a) ∙ (ap kind_at e ∙ kind_at-place_of b)

pub place_of-below : (a : RoleKind) → place_of a < 8
unfolding place_of
place_of-below Owner = lit< tt
place_of-below Holder = lit< tt
place_of-below Clear = lit< tt
place_of-below Sub = lit< tt
place_of-below Back = lit< tt
place_of-below Files = lit< tt
place_of-below Data = lit< tt
place_of-below File = lit< tt
