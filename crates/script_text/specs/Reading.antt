-- Lines that are read. This project's own, docs/PROGRAM.md, "Lines".
use Rattle.std.specs.Prelude.{◌≡◌, ℕ, ◌+◌, ◌<◌, ◌≤◌, ◌^◌, ◌==◌, ◌&&◌, nat_le, nat_lt, nat_eq, List, ◌∷◌, ◌++◌, length, take, drop, Option}
use Rattle.std.specs.Prelude.{Some, None, Ok, if◌then◌else◌, codes, decimal, position, option_map, option_and_then}
use Rattle.std.specs.Cmp.Lexicographic.{pointwise}
use Rattle.std.specs.Result.{result_ok}
use Rattle.std.specs.Str.Parse.{digits_value}
use Rattle.hex.specs.Hex.{decode_sized}
use Rattle.cry_base.specs.declared.client.Bundle.{Bundle}
use Rattle.cry_base.specs.declared.client.Bundle.TheVariants.{Owner, Holder}

-- a number from 1 to 4,294,967,295 in decimal, without leading zeros
pub record IsNumber (field : List ℕ) (number : ℕ) : Type 0 where
  pub spelled : field ≡ decimal number
  pub from_one : 1 ≤ number
  pub fits : number < 2 ^ 32

-- 32 key bytes as 64 hexadecimal digits, in either case
abbrev pub IsKey : List ℕ → List ℕ → Type 0
IsKey field key = decode_sized field 32 ≡ Ok key

-- `owner HEX64`
pub record IsOwnerLine (line key : List ℕ) : Type 0 where
  pub digits : List ℕ
  pub spelled : line ≡ codes "owner " ++ digits
  pub is_key : IsKey digits key

-- `holder N HEX64`
pub record IsHolderLine (line : List ℕ) (holder : ℕ) (key : List ℕ) : Type 0 where
  pub number : List ℕ
  pub digits : List ℕ
  pub spelled : line ≡ codes "holder " ++ (number ++ 32 ∷ digits)
  pub is_number : IsNumber number holder
  pub is_key : IsKey digits key

-- the line is one of a bundle, and of this one
abbrev pub IsBundleLine : List ℕ → Bundle → Type 0
IsBundleLine line (Owner key) = IsOwnerLine line key
IsBundleLine line (Holder holder key) = IsHolderLine line holder.0 key

-- the number that a field spells
unfoldable pub number_of : List ℕ → Option ℕ
number_of field =
    let number = digits_value 10 field in
    if pointwise nat_eq (decimal number) field && (nat_le 1 number && nat_lt number (2 ^ 32)) then Some number else None

-- the key that a field spells
unfoldable pub key_of : List ℕ → Option (List ℕ)
key_of field = result_ok (decode_sized field 32)

-- what stands behind a word that the line begins with
unfoldable pub behind : List ℕ → List ℕ → Option (List ℕ)
behind word line = if pointwise nat_eq (take (length word) line) word then Some (drop (length word) line) else None

-- a holder's number and key, with one space between them
unfoldable pub holder_of : List ℕ → Option Bundle
holder_of fields =
    option_and_then (λ space.
    option_and_then (λ holder. option_map (Holder (record { 0 = holder })) (key_of (drop (space + 1) fields)))
    (number_of (take space fields)))
    (position (λ byte. byte == 32) fields)

-- the bundle of what stands behind `owner `, or else of what stands behind `holder `
abbrev pub bundle_behind : Option (List ℕ) → Option (List ℕ) → Option Bundle
bundle_behind (Some digits) fields = option_map Owner (key_of digits)
bundle_behind None fields = option_and_then holder_of fields

-- the bundle that a line spells, and none where it spells none
unfoldable pub bundle_of : List ℕ → Option Bundle
bundle_of line = bundle_behind (behind (codes "owner ") line) (behind (codes "holder ") line)

-- the hash that a line `node HEX64` spells, and none where it spells none
unfoldable pub node_of : List ℕ → Option (List ℕ)
node_of line = option_and_then key_of (behind (codes "node ") line)
