-- The words that the program takes. This project's own, docs/PROGRAM.md, "The program".
use Rattle.std.specs.Prelude.{◌≡◌, ◌<◌, ◌≤◌, ◌+◌, ◌^◌, ◌&&◌, ◌==◌, nat_le, nat_lt, ℕ, List, [], ◌∷◌, take, drop, Bool, Option, Some, None}
use Rattle.std.specs.Prelude.{codes, decimal, if◌then◌else◌, nat_eq, option_and_then, option_map, position}
use Rattle.std.specs.Cmp.Lexicographic.{pointwise}
use Rattle.std.specs.Str.Parse.{digits_value}
use Rattle.cry_base.specs.Listed.{Listed}
use Rattle.head_tree.specs.declared.head.Head.{Head}
use Rattle.script_text.specs.Reading.{key_of}
use Rattle.cli_words.specs.declared.texts.TheConstants.{HELP, VERSION}
use Rattle.cli_words.specs.declared.words.Form.{Form}
use Rattle.cli_words.specs.declared.words.Form.TheVariants.{Make, Run, Serve, Upgrade, Open, Audit, Gen, Prove, Check, Help, Version}
use Rattle.cli_words.specs.declared.words.Form.TheVariants as forms

-- the word is spelled by these bytes
abbrev pub is_word : Listed ℕ → List ℕ → Bool
is_word word spelling = pointwise nat_eq word.items spelling

-- one word that asks for a text of the program's own
abbrev pub option_form : Listed ℕ → Option Form
option_form word =
    if is_word word (codes "--help") then Some Help
    else (if is_word word (codes "--version") then Some Version else None)

-- STORE RANDOM COMMAND
abbrev pub command_form : Listed ℕ → Option Form
command_form word =
    if is_word word (codes "make") then Some Make
    else (if is_word word (codes "run") then Some (Run None)
    else (if is_word word (codes "serve") then Some Serve
    else (if is_word word (codes "upgrade") then Some (Upgrade None)
    else (if is_word word (codes "list") then Some (forms.List None) else (if is_word word (codes "audit") then Some (Audit None)
    else (if is_word word (codes "head") then Some forms.Head else None))))))

-- the word spells this number in decimal digits, without a sign or leading zeros
pub record IsNumber (word : List ℕ) (number : ℕ) : Type 0 where
  pub spelled : word ≡ decimal number
  pub fits : number < 2 ^ 64

-- the number that a word spells
unfoldable pub number_of : List ℕ → Option ℕ
number_of word =
    let number = digits_value 10 word in
    if pointwise nat_eq (decimal number) word && nat_lt number (2 ^ 64) then Some number else None

-- so is a count of lines, up to 50,000
abbrev pub few_lines : ℕ → Option ℕ
few_lines count = if nat_le count 50000 then Some count else None

unfoldable pub count_of : List ℕ → Option ℕ
count_of word = option_and_then few_lines (number_of word)

-- STORE RANDOM COMMAND NUMBER COUNT
unfoldable pub script_form : Listed ℕ → Listed ℕ → Listed ℕ → Option Form
script_form word number count =
    if is_word word (codes "gen")
    then option_and_then (λ seed. option_map (Gen seed) (count_of count.items)) (number_of number.items) else None

-- a number of batches, from 0 to 4,294,967,294
abbrev pub few_batches : ℕ → Option ℕ
few_batches count = if nat_lt count 4294967295 then Some count else None

unfoldable pub batches_of : List ℕ → Option ℕ
batches_of word = option_and_then few_batches (number_of word)

-- a head: `N:HEX64`, a number of batches and a root
unfoldable pub head_of : List ℕ → Option Head
head_of word =
    option_and_then (λ colon.
    option_and_then (λ batches. option_map (λ root. record { batches = batches; root = root }) (key_of (drop (colon + 1) word)))
    (batches_of (take colon word)))
    (position (λ byte. byte == 58) word)

-- STORE RANDOM COMMAND M
unfoldable pub proof_form : Listed ℕ → Option Form
proof_form batches = option_map Prove (batches_of batches.items)

-- a command that may have HEAD as its last word
unfoldable pub head_form : (Option Head → Form) → Listed ℕ → Option Form
head_form asks word = option_map (λ head. asks (Some head)) (head_of word.items)

-- STORE RANDOM COMMAND PATH, STORE RANDOM COMMAND M and STORE RANDOM COMMAND HEAD
abbrev pub longer_command_form : Listed ℕ → Listed ℕ → Option Form
longer_command_form word more =
    if is_word word (codes "open") then Some (Open None) else (if is_word word (codes "prove") then proof_form more
    else (if is_word word (codes "run") then head_form Run more else (if is_word word (codes "upgrade") then head_form Upgrade more
    else (if is_word word (codes "list") then head_form forms.List more
    else (if is_word word (codes "audit") then head_form Audit more else None)))))

-- STORE RANDOM COMMAND OLD NEW
unfoldable pub heads_form : Listed ℕ → Listed ℕ → Option Form
heads_form old new = option_and_then (λ first. option_map (Check first) (head_of new.items)) (head_of old.items)

-- and STORE RANDOM COMMAND PATH HEAD
abbrev pub longest_command_form : Listed ℕ → Listed ℕ → Listed ℕ → Option Form
longest_command_form word one other =
    if is_word word (codes "check") then heads_form one other
    else (if is_word word (codes "open") then head_form Open other else script_form word one other)

-- a form that asks for lines asks for no more than the most
abbrev pub HasFewLines : Form → Type 0
HasFewLines (Gen seed count) = count ≤ 50000
HasFewLines form = Unit {0}

-- the form that the words are of, and none where they are of no form that is built
abbrev pub form_of_words : List (Listed ℕ) → Option Form
form_of_words (only ∷ []) = option_form only
form_of_words (store ∷ random ∷ command ∷ []) = command_form command
form_of_words (store ∷ random ∷ command ∷ more ∷ []) = longer_command_form command more
form_of_words (store ∷ random ∷ command ∷ one ∷ other ∷ []) = longest_command_form command one other
form_of_words _ = None

-- the path that they name
abbrev pub path_in_words : List (Listed ℕ) → List ℕ
path_in_words (store ∷ random ∷ command ∷ path ∷ []) = path.items
path_in_words (store ∷ random ∷ command ∷ path ∷ head ∷ []) = path.items
path_in_words _ = []

-- ---- what the words ask for

-- the words ask for a store to be made
abbrev pub IsMake : List (Listed ℕ) → Type 0
IsMake words = form_of_words words ≡ Some Make

-- or for the store of this number and so many lines
abbrev pub AsksGen : List (Listed ℕ) → ℕ → ℕ → Type 0
AsksGen words seed count = form_of_words words ≡ Some (Gen seed count)

-- the words ask for commands to be applied, to a store whose log goes on from this head where they name one
abbrev pub AsksRun : List (Listed ℕ) → Option Head → Type 0
AsksRun words head = form_of_words words ≡ Some (Run head)

-- the words ask for commands to be applied, and for lines of readers' sessions between them
abbrev pub IsServe : List (Listed ℕ) → Type 0
IsServe words = form_of_words words ≡ Some Serve

-- the words ask for a store to be made one of version 2, whose log goes on from this head where they name one
abbrev pub AsksUpgrade : List (Listed ℕ) → Option Head → Type 0
AsksUpgrade words head = form_of_words words ≡ Some (Upgrade head)

-- the words ask for a key's view, of a log that goes on from this head where they name one
abbrev pub AsksList : List (Listed ℕ) → Option Head → Type 0
AsksList words head = form_of_words words ≡ Some (forms.List head)

-- or for the one line of it that has a path
abbrev pub AsksOpen : List (Listed ℕ) → Option Head → Type 0
AsksOpen words head = form_of_words words ≡ Some (Open head)

-- or for all that it leads to
abbrev pub AsksAudit : List (Listed ℕ) → Option Head → Type 0
AsksAudit words head = form_of_words words ≡ Some (Audit head)

-- the words ask for the head of a log
abbrev pub IsHead : List (Listed ℕ) → Type 0
IsHead words = form_of_words words ≡ Some forms.Head

-- or for the proof that it begins with so many batches
abbrev pub AsksProof : List (Listed ℕ) → ℕ → Type 0
AsksProof words batches = form_of_words words ≡ Some (Prove batches)

-- or for a test of such a proof, between two heads
abbrev pub AsksCheck : List (Listed ℕ) → Head → Head → Type 0
AsksCheck words old new = form_of_words words ≡ Some (Check old new)

-- the text that the words ask for, where they ask for one
abbrev pub text_of : Option Form → Option (List ℕ)
text_of (Some Help) = Some HELP.now
text_of (Some Version) = Some VERSION.now
text_of _ = None
