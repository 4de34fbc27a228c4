-- The kinds of the roles of records.
use Rattle.std.proofs.Common.{◌≡◌, ℕ, Some, Option, refl, ap, ◌∙◌}
use Rattle.cry_base.specs.declared.roles.Role.{Role}
use Rattle.key_links.specs.Ended.{kind_from, role_with, sealing_role, source_role}
use Rattle.kind_table.specs.Kinds.{kind_of}
use Rattle.kind_table.specs.declared.kinds.RoleKind.{RoleKind}
use Rattle.kind_table.specs.declared.kinds.RoleKind.TheVariants.{Owner, Holder, Clear, Sub, Back, Files, Data, File}
use Rattle.record_format.specs.declared.link.LinkRecord.{LinkRecord}

pub kind_of_with : (kind : RoleKind) (id : ℕ) → kind_of (role_with kind id) ≡ kind
unfolding kind_of role_with
kind_of_with Owner id = refl
kind_of_with Holder id = refl
kind_of_with Clear id = refl
kind_of_with Sub id = refl
kind_of_with Back id = refl
kind_of_with Files id = refl
kind_of_with Data id = refl
kind_of_with File id = refl

-- the role that a link of this number leads from is of the row's kind
pub source_kind : (r : LinkRecord) (role : Role) (number : ℕ) → role ≡ source_role r → r.kind ≡ number → kind_of role ≡ kind_from number
source_kind r role number is at = ap kind_of is ∙ kind_of_with (kind_from r.kind) r.from_id ∙ ap kind_from at

-- the role whose key seals contents of this kind
pub sealing_kind : (role : Role) (kind object number : ℕ) → role ≡ sealing_role kind object → kind ≡ number → kind_of role ≡ kind_of (sealing_role number object)
sealing_kind role kind object number is at = ap kind_of is ∙ ap (λ n. kind_of (sealing_role n object)) at

-- what one place has is one
pub one : {X : Type 0} (o : Option X) (x y : X) → o ≡ Some x → o ≡ Some y → x ≡ y
one o x y a b = cc
