-- What keys are for, as the definitions count and compare them.
use Rattle.std.specs.Prelude.{ℕ, Bool, ◌&&◌, ◌||◌, nat_lt, ◌==◌, List, [], ◌∷◌}
use Rattle.cry_base.specs.declared.roles.Role.{Role}
use Rattle.cry_base.specs.declared.roles.Role.TheVariants.{Owner, Holder, Clear, Sub, Back, Files, Data, File}

-- the roles of a holder, a folder and a file
unfoldable pub holder_role : ℕ → Role
holder_role h = Holder (record { 0 = h })

unfoldable pub clear_of : ℕ → Role
clear_of f = Clear (record { 0 = f })

unfoldable pub sub_of : ℕ → Role
sub_of f = Sub (record { 0 = f })

unfoldable pub back_of : ℕ → Role
back_of f = Back (record { 0 = f })

unfoldable pub files_of : ℕ → Role
files_of f = Files (record { 0 = f })

unfoldable pub data_of : ℕ → Role
data_of f = Data (record { 0 = f })

unfoldable pub file_role : ℕ → Role
file_role x = File (record { 0 = x })

-- the place of a role's variant in their order
unfoldable pub variant_of : Role → ℕ
variant_of Owner = 0
variant_of (Holder h) = 1
variant_of (Clear f) = 2
variant_of (Sub f) = 3
variant_of (Back f) = 4
variant_of (Files f) = 5
variant_of (Data f) = 6
variant_of (File x) = 7

-- the number of the folder, file or holder that it is for, and 0 for the owner's
unfoldable pub role_id : Role → ℕ
role_id Owner = 0
role_id (Holder h) = h.0
role_id (Clear f) = f.0
role_id (Sub f) = f.0
role_id (Back f) = f.0
role_id (Files f) = f.0
role_id (Data f) = f.0
role_id (File x) = x.0

-- whether two roles are one
unfoldable pub same_role : Role → Role → Bool
same_role a b = variant_of a == variant_of b && role_id a == role_id b

-- whether a stands before b: by variant, and then by number
unfoldable pub role_before : Role → Role → Bool
role_before a b = nat_lt (variant_of a) (variant_of b) || (variant_of a == variant_of b && nat_lt (role_id a) (role_id b))

-- the owner's key and the holders' keys are never renewed
unfoldable pub is_root_role : Role → Bool
is_root_role role = nat_lt (variant_of role) 2

-- the keys that names and files are sealed under, and those that grants hand out
unfoldable pub is_sealing_role : Role → Bool
is_sealing_role role = nat_lt 5 (variant_of role)

unfoldable pub is_clear_role : Role → Bool
is_clear_role role = variant_of role == 2

-- the five roles of a folder
unfoldable pub folder_roles : ℕ → List Role
folder_roles f = clear_of f ∷ sub_of f ∷ back_of f ∷ files_of f ∷ data_of f ∷ []
