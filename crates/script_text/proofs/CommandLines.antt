-- A command's line is read as what it asks for, and no other line as a command's.
use Rattle.std.proofs.Common.{◌≡◌, ℕ, ◌+◌, Bool, true, false, cond, List, [], ◌∷◌, ◌++◌, length, take, drop, Option, Some, None, Result, Ok, Err, refl, sym, ap, subst, ◌∙◌}
use Rattle.std.specs.Prelude.{nat_eq, codes, position, option_map, ◌↔◌, IfOk, IsSome}
use Rattle.std.specs.Cmp.Lexicographic.{pointwise}
use Rattle.std.proofs.lemmas.List.{append-nil, take_at, drop_at, drop-drop}
use Rattle.std.proofs.lemmas.Option.{option_and_then_some, same_Some}
use Rattle.std.proofs.lemmas.Slice.Eq.{bytes_eq-Decides}
use Rattle.hex.specs.Hex.{decode_of, decode_pairs}
use Rattle.cry_base.specs.Requests.{Request, request_of}
use Rattle.cry_base.specs.declared.commands.Command.{Command}
use Rattle.cry_base.specs.Requests.Request.{AddHolder, MakeFolder, WriteFile, Remove, Rename, Relocate, Grant, Revoke}
use Rattle.script_text.specs.Commands.{IsField, IsFieldLine, IsTwoFieldLine, IsGrantLine, IsWriteLine, IsHex, IsHexBehind, IsCommandLine, field_of, field_request, two_field_request, grant_request, bytes_of, file_request, write_parts, write_request, after_word, request_in, Reads}
use Rattle.script_text.specs.Reading.{IsNumber, behind, number_of}
use Rattle.script_text.specs.declared.fault.LineFault.{LineFault}
use Rattle.script_text.specs.declared.fault.LineFault.TheVariants.{BadLine, OutOfMemory}
use Rattle.script_text.proofs.BundleLines.{cut_found, value_told}
use Rattle.script_text.proofs.Fields.{behind_told, is_space, cut_told, cut_at, no_cut, field_told, field_found, no_space_in}
use Rattle.script_text.proofs.Numbers.{number_told, number_found}

pub map_some : {A B : Type 0} (f : A → B) (o : Option A) (y : B) → option_map f o ≡ Some y → (x : A) × (o ≡ Some x) × (f x ≡ y)
map_some f (Some x) y is = (x, refl, same_Some (f x) y is)
map_some f None y is = cc

-- what is read from a line's fields is what they ask for
field_line_told : (ask : List ℕ → Request) (word line fields : List ℕ) (request : Request) → line ≡ word ++ fields → field_request ask fields ≡ Some request
    → (field : List ℕ) × (ask field ≡ request) × IsFieldLine word line field
unfolding field_request
field_line_told ask word line fields request spelled is =
    let found = map_some ask (field_of fields) request is in
    let told = field_told fields found.0 found.1 in
    (found.0, found.2, record { spelled = spelled ∙ ap (λ f. word ++ f) told.0; is_field = subst IsField told.0 told.1 })

two_field_line_told : (ask : List ℕ → List ℕ → Request) (word line fields : List ℕ) (request : Request) → line ≡ word ++ fields → two_field_request ask fields ≡ Some request
    → (first : List ℕ) × (second : List ℕ) × (ask first second ≡ request) × IsTwoFieldLine word line first second
unfolding two_field_request
two_field_line_told ask word line fields request spelled is =
    option_and_then_some _ (position is_space fields) request is
    (λ space at_space then. option_and_then_some _ (field_of (take space fields)) request then
    (λ first is_first last.
    let found = map_some (ask first) (field_of (drop (space + 1) fields)) request last in
    let front = field_told (take space fields) first is_first in
    let back = field_told (drop (space + 1) fields) found.0 found.1 in (
      first,
      found.0,
      found.2,
      record {
        spelled = spelled ∙ ap (λ f. word ++ f) (cut_told fields space at_space ∙ ap (λ f. f ++ 32 ∷ drop (space + 1) fields) front.0 ∙ ap (λ f. first ++ 32 ∷ f) back.0);
        is_first = subst IsField front.0 front.1;
        is_second = subst IsField back.0 back.1;
      },
    )))

grant_line_told : (ask : ℕ → List ℕ → Request) (word line fields : List ℕ) (request : Request) → line ≡ word ++ fields → grant_request ask fields ≡ Some request
    → (holder : ℕ) × (path : List ℕ) × (ask holder path ≡ request) × IsGrantLine word line holder path
unfolding grant_request
grant_line_told ask word line fields request spelled is =
    option_and_then_some _ (position is_space fields) request is
    (λ space at_space then. option_and_then_some _ (number_of (take space fields)) request then
    (λ holder is_number last.
    let found = map_some (ask holder) (field_of (drop (space + 1) fields)) request last in
    let back = field_told (drop (space + 1) fields) found.0 found.1 in (
      holder,
      found.0,
      found.2,
      record {
        number = take space fields;
        spelled = spelled ∙ ap (λ f. word ++ f) (cut_told fields space at_space ∙ ap (λ f. take space fields ++ 32 ∷ f) back.0);
        is_number = number_told (take space fields) holder is_number;
        is_path = subst IsField back.0 back.1;
      },
    )))

file_told : (path digits : List ℕ) (request : Request) → file_request path digits ≡ Some request
    → (bytes : List ℕ) × (WriteFile path bytes ≡ request) × IsField path × (bytes_of digits ≡ Some bytes)
unfolding file_request
file_told path digits request is =
    option_and_then_some _ (field_of path) request is
    (λ field is_path then.
    let found = map_some (WriteFile field) (bytes_of digits) request then in
    let told = field_told path field is_path in
    (found.0, ap (λ p. WriteFile p found.0) told.0 ∙ found.2, told.1, found.1))

hex_told : (digits bytes : List ℕ) → bytes_of digits ≡ Some bytes → IsHex digits bytes
unfolding bytes_of
hex_told digits bytes is = value_told (decode_of digits) bytes is

no_digits : (bytes : List ℕ) → bytes_of [] ≡ Some bytes → bytes ≡ []
unfolding bytes_of decode_pairs
no_digits bytes is = sym (same_Some [] bytes is)

write_parts_told : (line fields : List ℕ) (request : Request) (at : Option ℕ) → line ≡ codes "write " ++ fields → position is_space fields ≡ at → write_parts fields at ≡ Some request
    → (path : List ℕ) × (bytes : List ℕ) × (WriteFile path bytes ≡ request) × IsWriteLine line path bytes
write_parts_told line fields request (Some space) spelled at_space is =
    let told = file_told (take space fields) (drop (space + 1) fields) request is in (
      take space fields,
      told.0,
      told.1,
      record {
        hex = 32 ∷ drop (space + 1) fields;
        spelled = spelled ∙ ap (λ f. codes "write " ++ f) (cut_told fields space at_space);
        is_path = told.2;
        is_hex = (refl, hex_told (drop (space + 1) fields) told.0 told.3);
      },
    )
write_parts_told line fields request None spelled at_space is =
    let told = file_told fields [] request is in (
      fields,
      told.0,
      told.1,
      record {
        hex = [];
        spelled = spelled ∙ ap (λ f. codes "write " ++ f) (sym (append-nil fields));
        is_path = told.2;
        is_hex = no_digits told.0 told.3;
      },
    )

write_line_told : (line fields : List ℕ) (request : Request) → line ≡ codes "write " ++ fields → write_request fields ≡ Some request
    → (path : List ℕ) × (bytes : List ℕ) × (WriteFile path bytes ≡ request) × IsWriteLine line path bytes
unfolding write_request
write_line_told line fields request spelled is = write_parts_told line fields request (position is_space fields) spelled refl is

-- a line is read by its word
by_word : {P : Type 0} (word line : List ℕ) (read : List ℕ → Option Request) (other : Option Request) (request : Request) (at : Option (List ℕ))
    → behind word line ≡ at → after_word at read other ≡ Some request
    → ((fields : List ℕ) → line ≡ word ++ fields → read fields ≡ Some request → P) → (other ≡ Some request → P) → P
by_word word line read other request (Some fields) at is here there = here fields (behind_told word line fields at) is
by_word word line read other request None at is here there = there is

by_whole : {P : Type 0} (test : Bool) (asked request : Request) (other : Option Request) → cond test (Some asked) other ≡ Some request
    → (test ≡ true → asked ≡ request → P) → (other ≡ Some request → P) → P
by_whole true asked request other is here there = here refl (same_Some asked request is)
by_whole false asked request other is here there = there is

-- what is read is what the line asks for
pub command_told : (line : List ℕ) (request : Request) → request_in line ≡ Some request → IsCommandLine line request
unfolding request_in
command_told line request is =
    let P : Request → Type 0 = IsCommandLine line in
    by_whole (pointwise nat_eq line (codes "holder")) AddHolder request _ is
    (λ same asked. subst P asked ((bytes_eq-Decides line (codes "holder")).0 same))
    (λ is. by_word (codes "mkdir ") line (field_request MakeFolder) _ request (behind (codes "mkdir ") line) refl is
    (λ fields spelled asks. let t = field_line_told MakeFolder (codes "mkdir ") line fields request spelled asks in subst P t.1 t.2)
    (λ is. by_word (codes "write ") line write_request _ request (behind (codes "write ") line) refl is
    (λ fields spelled asks. let t = write_line_told line fields request spelled asks in subst P t.2 t.3)
    (λ is. by_word (codes "rm ") line (field_request Remove) _ request (behind (codes "rm ") line) refl is
    (λ fields spelled asks. let t = field_line_told Remove (codes "rm ") line fields request spelled asks in subst P t.1 t.2)
    (λ is. by_word (codes "rename ") line (two_field_request Rename) _ request (behind (codes "rename ") line) refl is
    (λ fields spelled asks. let t = two_field_line_told Rename (codes "rename ") line fields request spelled asks in subst P t.2 t.3)
    (λ is. by_word (codes "move ") line (two_field_request Relocate) _ request (behind (codes "move ") line) refl is
    (λ fields spelled asks. let t = two_field_line_told Relocate (codes "move ") line fields request spelled asks in subst P t.2 t.3)
    (λ is. by_word (codes "grant ") line (grant_request Grant) _ request (behind (codes "grant ") line) refl is
    (λ fields spelled asks. let t = grant_line_told Grant (codes "grant ") line fields request spelled asks in subst P t.2 t.3)
    (λ is. by_word (codes "revoke ") line (grant_request Revoke) _ request (behind (codes "revoke ") line) refl is
    (λ fields spelled asks. let t = grant_line_told Revoke (codes "revoke ") line fields request spelled asks in subst P t.2 t.3)
    (λ is. cc))))))))

field_found_in : (ask : List ℕ → Request) (field : List ℕ) → IsField field → field_request ask field ≡ Some (ask field)
unfolding field_request
field_found_in ask field is = ap (option_map ask) (field_found field is)

front_of : (front rest : List ℕ) → take (length front) (front ++ 32 ∷ rest) ≡ front
front_of front rest = take_at front (32 ∷ rest) (length front) refl

back_of : (front rest : List ℕ) → drop (length front + 1) (front ++ 32 ∷ rest) ≡ rest
back_of front rest = sym (drop-drop 1 (length front) (front ++ 32 ∷ rest)) ∙ ap (drop 1) (drop_at front (32 ∷ rest) (length front) refl)

two_fields_found : (ask : List ℕ → List ℕ → Request) (first second : List ℕ) → IsField first → IsField second
    → two_field_request ask (first ++ 32 ∷ second) ≡ Some (ask first second)
unfolding two_field_request
two_fields_found ask first second is_first is_second =
    rw (cut_at first second (no_space_in first is_first), front_of first second, field_found first is_first, back_of first second, field_found second is_second) refl

grant_found : (ask : ℕ → List ℕ → Request) (number path : List ℕ) (holder : ℕ) → IsNumber number holder → IsField path
    → grant_request ask (number ++ 32 ∷ path) ≡ Some (ask holder path)
unfolding grant_request
grant_found ask number path holder is_number is_path =
    rw (cut_found number path holder is_number, front_of number path, number_found number holder is_number, back_of number path, field_found path is_path) refl

file_found : (path digits bytes : List ℕ) → IsField path → IsHex digits bytes → file_request path digits ≡ Some (WriteFile path bytes)
unfolding file_request bytes_of
file_found path digits bytes is_path is_hex = rw (field_found path is_path, is_hex) refl

write_found : (path hex bytes : List ℕ) → IsField path → IsHexBehind hex bytes → write_request (path ++ hex) ≡ Some (WriteFile path bytes)
unfolding write_request decode_pairs
write_found path [] bytes is_path is_hex =
    rw (append-nil path, no_cut path (no_space_in path is_path), is_hex) (file_found path [] [] is_path refl)
write_found path (byte ∷ digits) bytes is_path is_hex =
    rw (is_hex.0, cut_at path digits (no_space_in path is_path), front_of path digits, back_of path digits) (file_found path digits bytes is_path is_hex.1)

-- a line's word says how the rest is read
mkdir_word : (fields : List ℕ) → request_in (codes "mkdir " ++ fields) ≡ field_request MakeFolder fields
unfolding request_in behind
mkdir_word fields = refl

write_word : (fields : List ℕ) → request_in (codes "write " ++ fields) ≡ write_request fields
unfolding request_in behind
write_word fields = refl

rm_word : (fields : List ℕ) → request_in (codes "rm " ++ fields) ≡ field_request Remove fields
unfolding request_in behind
rm_word fields = refl

rename_word : (fields : List ℕ) → request_in (codes "rename " ++ fields) ≡ two_field_request Rename fields
unfolding request_in behind
rename_word fields = refl

move_word : (fields : List ℕ) → request_in (codes "move " ++ fields) ≡ two_field_request Relocate fields
unfolding request_in behind
move_word fields = refl

grant_word : (fields : List ℕ) → request_in (codes "grant " ++ fields) ≡ grant_request Grant fields
unfolding request_in behind
grant_word fields = refl

revoke_word : (fields : List ℕ) → request_in (codes "revoke " ++ fields) ≡ grant_request Revoke fields
unfolding request_in behind
revoke_word fields = refl

holder_word : request_in (codes "holder") ≡ Some AddHolder
unfolding request_in
holder_word = refl

-- a command's line is read
pub command_found : (line : List ℕ) (request : Request) → IsCommandLine line request → request_in line ≡ Some request
command_found line AddHolder is = ap request_in is ∙ holder_word
command_found line (MakeFolder path) is = ap request_in is.spelled ∙ mkdir_word path ∙ field_found_in MakeFolder path is.is_field
command_found line (WriteFile path bytes) is = ap request_in is.spelled ∙ write_word (path ++ is.hex) ∙ write_found path is.hex bytes is.is_path is.is_hex
command_found line (Remove path) is = ap request_in is.spelled ∙ rm_word path ∙ field_found_in Remove path is.is_field
command_found line (Rename path name) is = ap request_in is.spelled ∙ rename_word (path ++ 32 ∷ name) ∙ two_fields_found Rename path name is.is_first is.is_second
command_found line (Relocate path into) is = ap request_in is.spelled ∙ move_word (path ++ 32 ∷ into) ∙ two_fields_found Relocate path into is.is_first is.is_second
command_found line (Grant holder path) is = ap request_in is.spelled ∙ grant_word (is.number ++ 32 ∷ path) ∙ grant_found Grant is.number path holder is.is_number is.is_path
command_found line (Revoke holder path) is = ap request_in is.spelled ∙ revoke_word (is.number ++ 32 ∷ path) ∙ grant_found Revoke is.number path holder is.is_number is.is_path

-- a line asks for one thing
pub one_command : (line : List ℕ) (one other : Request) → IsCommandLine line one → IsCommandLine line other → one ≡ other
one_command line one other is_one is_other = same_Some one other (sym (command_found line one is_one) ∙ command_found line other is_other)

pub asked_for : {A : Type 0} (asked : Option A) → IsSome asked → (request : A) × (asked ≡ Some request)
asked_for (Some request) is = (request, refl)
asked_for None is = cc

-- what an answer says of the line
pub ok_told : (line : List ℕ) (r : Result Command LineFault) → Reads r (request_in line) → IfOk r (λ command. IsCommandLine line (request_of command))
ok_told line (Ok command) reads = command_told line (request_of command) reads
ok_told line (Err fault) reads = tt

pub no_memory_told : (line : List ℕ) (r : Result Command LineFault) → Reads r (request_in line) → r ≡ Err OutOfMemory → (request : Request) × IsCommandLine line request
no_memory_told line (Ok command) reads is = cc
no_memory_told line (Err BadLine) reads is = cc
no_memory_told line (Err OutOfMemory) reads is = let asked = asked_for (request_in line) reads in (asked.0, command_told line asked.0 asked.1)

pub bad_line_told : (line : List ℕ) (r : Result Command LineFault) → Reads r (request_in line) → (r ≡ Err BadLine) ↔ ((request : Request) → ¬ IsCommandLine line request)
bad_line_told line (Ok command) reads = (λ is request spelled. cc, λ none. absurd (none (request_of command) (command_told line (request_of command) reads)))
bad_line_told line (Err BadLine) reads = (λ is request spelled. let found = command_found line request spelled in cc, λ none. refl)
bad_line_told line (Err OutOfMemory) reads = (
  λ is request spelled. cc,
  λ none. let asked = asked_for (request_in line) reads in absurd (none asked.0 (command_told line asked.0 asked.1)),
)
