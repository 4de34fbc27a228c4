-- Command lines that are read. This project's own, docs/PROGRAM.md, "Lines".
use Rattle.std.specs.Prelude.{◌≡◌, ℕ, ◌+◌, ◌≤◌, Bool, ◌==◌, ◌&&◌, not, nat_eq, List, [], ◌∷◌, ◌++◌, length, take, drop, Option, Some, None}
use Rattle.std.specs.Prelude.{IsSome, Result, Ok, Err, if◌then◌else◌, codes, position, option_map, option_and_then}
use Rattle.std.specs.Cmp.Lexicographic.{pointwise}
use Rattle.std.specs.List.{AllPass, list_all}
use Rattle.std.specs.Result.{result_ok}
use Rattle.hex.specs.Hex.{decode_of}
use Rattle.cry_base.specs.declared.commands.Command.{Command}
use Rattle.cry_base.specs.Requests.{Request, request_of}
use Rattle.cry_base.specs.Requests.Request.{AddHolder, MakeFolder, WriteFile, Remove, Rename, Relocate, Grant, Revoke}
use Rattle.script_text.specs.Reading.{IsNumber, number_of, behind}
use Rattle.script_text.specs.declared.fault.LineFault.{LineFault}
use Rattle.script_text.specs.declared.fault.LineFault.TheVariants.{BadLine, OutOfMemory}

-- any byte but a space and a newline
abbrev pub is_field_byte : ℕ → Bool
is_field_byte byte = not (byte == 32) && not (byte == 10)

-- one or more bytes other than space and newline
pub record IsField (field : List ℕ) : Type 0 where
  pub from_one : 1 ≤ length field
  pub bytes : AllPass is_field_byte field

-- two hexadecimal digits for each byte, in either case
abbrev pub IsHex : List ℕ → List ℕ → Type 0
IsHex digits bytes = decode_of digits ≡ Ok bytes

-- a word and a field
pub record IsFieldLine (word line field : List ℕ) : Type 0 where
  pub spelled : line ≡ word ++ field
  pub is_field : IsField field

-- a word and two fields, with one space between them
pub record IsTwoFieldLine (word line first second : List ℕ) : Type 0 where
  pub spelled : line ≡ word ++ (first ++ 32 ∷ second)
  pub is_first : IsField first
  pub is_second : IsField second

-- a word, a holder's number and a field
pub record IsGrantLine (word line : List ℕ) (holder : ℕ) (path : List ℕ) : Type 0 where
  pub number : List ℕ
  pub spelled : line ≡ word ++ (number ++ 32 ∷ path)
  pub is_number : IsNumber number holder
  pub is_path : IsField path

-- a space and digits, or nothing where there are no bytes
abbrev pub IsHexBehind : List ℕ → List ℕ → Type 0
IsHexBehind [] bytes = bytes ≡ []
IsHexBehind (byte ∷ digits) bytes = (byte ≡ 32) × IsHex digits bytes

-- `write FIELD HEX`
pub record IsWriteLine (line path bytes : List ℕ) : Type 0 where
  pub hex : List ℕ
  pub spelled : line ≡ codes "write " ++ (path ++ hex)
  pub is_path : IsField path
  pub is_hex : IsHexBehind hex bytes

-- the line, without its newline, is a command's, and asks for this
abbrev pub IsCommandLine : List ℕ → Request → Type 0
IsCommandLine line AddHolder = line ≡ codes "holder"
IsCommandLine line (MakeFolder path) = IsFieldLine (codes "mkdir ") line path
IsCommandLine line (WriteFile path bytes) = IsWriteLine line path bytes
IsCommandLine line (Remove path) = IsFieldLine (codes "rm ") line path
IsCommandLine line (Rename path name) = IsTwoFieldLine (codes "rename ") line path name
IsCommandLine line (Relocate path into) = IsTwoFieldLine (codes "move ") line path into
IsCommandLine line (Grant holder path) = IsGrantLine (codes "grant ") line holder path
IsCommandLine line (Revoke holder path) = IsGrantLine (codes "revoke ") line holder path

-- whether it is a field
unfoldable pub is_field : List ℕ → Bool
is_field field = not (length field == 0) && list_all is_field_byte field

-- the field, where it is one
unfoldable pub field_of : List ℕ → Option (List ℕ)
field_of field = if is_field field then Some field else None

-- where the first space is
abbrev pub first_space : List ℕ → Option ℕ
first_space fields = position (λ byte. byte == 32) fields

-- a request about one field
unfoldable pub field_request : (List ℕ → Request) → List ℕ → Option Request
field_request ask fields = option_map ask (field_of fields)

-- a request about the fields before and behind the first space
unfoldable pub two_field_request : (List ℕ → List ℕ → Request) → List ℕ → Option Request
two_field_request ask fields =
    option_and_then (λ space.
    option_and_then (λ first. option_map (ask first) (field_of (drop (space + 1) fields))) (field_of (take space fields)))
    (first_space fields)

-- a request about a holder and a field
unfoldable pub grant_request : (ℕ → List ℕ → Request) → List ℕ → Option Request
grant_request ask fields =
    option_and_then (λ space.
    option_and_then (λ holder. option_map (ask holder) (field_of (drop (space + 1) fields))) (number_of (take space fields)))
    (first_space fields)

-- the bytes that digits spell
unfoldable pub bytes_of : List ℕ → Option (List ℕ)
bytes_of digits = result_ok (decode_of digits)

-- a file's path, and its bytes by their digits
unfoldable pub file_request : List ℕ → List ℕ → Option Request
file_request path digits = option_and_then (λ field. option_map (WriteFile field) (bytes_of digits)) (field_of path)

-- the digits are behind the space, where there is one
abbrev pub write_parts : List ℕ → Option ℕ → Option Request
write_parts fields (Some space) = file_request (take space fields) (drop (space + 1) fields)
write_parts fields None = file_request fields []

unfoldable pub write_request : List ℕ → Option Request
write_request fields = write_parts fields (first_space fields)

-- what stands behind a line's word is read as the word asks, and a line with another word otherwise
abbrev pub after_word : Option (List ℕ) → (List ℕ → Option Request) → Option Request → Option Request
after_word (Some fields) read other = read fields
after_word None read other = other

-- what a line asks for, and none where it is no command's
unfoldable pub request_in : List ℕ → Option Request
request_in line =
    if pointwise nat_eq line (codes "holder") then Some AddHolder else
    after_word (behind (codes "mkdir ") line) (field_request MakeFolder) (
    after_word (behind (codes "write ") line) write_request (
    after_word (behind (codes "rm ") line) (field_request Remove) (
    after_word (behind (codes "rename ") line) (two_field_request Rename) (
    after_word (behind (codes "move ") line) (two_field_request Relocate) (
    after_word (behind (codes "grant ") line) (grant_request Grant) (
    after_word (behind (codes "revoke ") line) (grant_request Revoke) None))))))

-- the answer to a line that asks for this: only a line that asks for something may find no memory
abbrev pub Reads : Result Command LineFault → Option Request → Type 0
Reads (Ok command) asked = asked ≡ Some (request_of command)
Reads (Err BadLine) asked = asked ≡ None
Reads (Err OutOfMemory) asked = IsSome asked
