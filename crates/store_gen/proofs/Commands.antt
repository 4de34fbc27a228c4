-- Each line of a generated script is a command's line.
use Rattle.std.proofs.Common.{◌≡◌, ℕ, zero, suc, ◌+◌, ◌<◌, true, List, [], ◌∷◌, ◌++◌, map, Option, Some, Ok, refl, ap, sym, ◌∙◌, subst, inl, inr, ⊎_elim, arith}
use Rattle.std.specs.Prelude.{decimal}
use Rattle.std.proofs.lemmas.Bool.{and_from}
use Rattle.std.proofs.lemmas.List.Sums.{AllPass-from_list_all}
use Rattle.hex.specs.Hex.{IsBytes, decode_of}
use Rattle.hex.proofs.HexLemmas.{decode_of-encode_lower}
use Rattle.cry_base.specs.Texts.{hex_of}
use Rattle.cry_base.specs.Sets.{In}
use Rattle.cry_base.specs.Requests.{Request}
use Rattle.cry_base.specs.Requests.Request.{MakeFolder, WriteFile}
use Rattle.cry_base.specs.Stepping.{effect}
use Rattle.cry_base.specs.Store.{Store}
use Rattle.cry_base.proofs.Members.{In-append}
use Rattle.script_text.specs.Commands.{IsField, is_field_byte, IsCommandLine, request_in}
use Rattle.script_text.specs.Reading.{IsNumber}
use Rattle.script_text.proofs.HexText.{lower_byte}
use Rattle.script_text.proofs.CommandLines.{command_found}
use Rattle.store_gen.specs.Rule.{IsReady, asks, advanced, change_of, drawn, drawn_requests, folder_path, opening, first, requests}
use Rattle.store_gen.specs.Spelling.{spelled}
use Rattle.store_gen.specs.Standing.{Stands}
use Rattle.store_gen.specs.declared.change.Change.{Change}
use Rattle.store_gen.specs.declared.change.Change.TheVariants as change
use Rattle.store_gen.specs.declared.generator.Generator.{Generator}
use Rattle.store_gen.proofs.Accepted.{Suits, kept, suited, advanced_stands}
use Rattle.store_gen.proofs.Folders.{below_eight}
use Rattle.store_gen.proofs.Opening.{opened_store, opened_stands}

digit_byte : (n : ℕ) → n < 8 → is_field_byte (48 + n) ≡ true
digit_byte = below_eight (λ n. is_field_byte (48 + n) ≡ true) refl refl refl refl refl refl refl refl

folder_field : (m : ℕ) → m < 8 → IsField (folder_path m)
folder_field m h = record { from_one = omega arith; bytes = AllPass-from_list_all is_field_byte (folder_path m) (and_from _ _ (digit_byte m h) refl) }

file_field : (m letter k : ℕ) → m < 8 → is_field_byte letter ≡ true → k < 8 → IsField (folder_path m ++ 47 ∷ letter ∷ (48 + k) ∷ [])
file_field m letter k h l g = record {
  from_one = omega arith;
  bytes = AllPass-from_list_all is_field_byte (folder_path m ++ 47 ∷ letter ∷ (48 + k) ∷ []) (and_from _ _ (digit_byte m h) (and_from _ _ l (and_from _ _ (digit_byte k g) refl)));
}

holder_number : (who : ℕ) → who < 4 → IsNumber (decimal (who + 1)) (who + 1)
holder_number who h = record { spelled = refl; from_one = omega arith; fits = omega arith }

one_byte : (b : ℕ) → b < 256 → IsBytes (b ∷ [])
one_byte b h zero = h
one_byte b h (suc k) = omega arith

byte_digits : (b : ℕ) → b < 256 → decode_of (hex_of (b ∷ [])) ≡ Ok (b ∷ [])
byte_digits b h = ap (λ (d : List ℕ). decode_of d) (sym (lower_byte b h)) ∙ decode_of-encode_lower (b ∷ []) (one_byte b h)

write_line : (m letter k b : ℕ) → m < 8 → is_field_byte letter ≡ true → k < 8 → b < 256
    → IsCommandLine (spelled (WriteFile (folder_path m ++ 47 ∷ letter ∷ (48 + k) ∷ []) (b ∷ []))) (WriteFile (folder_path m ++ 47 ∷ letter ∷ (48 + k) ∷ []) (b ∷ []))
write_line m letter k b h l g f = record { hex = 32 ∷ hex_of (b ∷ []); spelled = refl; is_path = file_field m letter k h l g; is_hex = (refl, byte_digits b f) }

change_line : (g : Generator) → IsReady g → (c : Change) → Suits g c → IsCommandLine (spelled (asks c)) (asks c)
change_line g ready (change.Write folder file byte) suits = write_line folder 102 file byte suits.0 refl suits.1 suits.2
change_line g ready (change.Grant who folder) suits =
    record { number = decimal (who + 1); spelled = refl; is_number = holder_number who suits.0; is_path = folder_field folder suits.1 }
change_line g ready (change.Revoke who folder) suits =
    record { number = decimal (who + 1); spelled = refl; is_number = holder_number who suits.0; is_path = folder_field folder suits.1 }
change_line g ready (change.Move file from into) suits =
    let within : from < 8 = subst (λ (f : ℕ). f < 8) (sym suits.2) (ready.within file suits.0) in
    record { spelled = refl; is_first = file_field from 116 file within refl suits.0; is_second = folder_field into suits.1 }

drawn_lines : (count : ℕ) (g : Generator) (s : Store) → Stands g s → (r : Request) → In r (drawn_requests count g) → IsCommandLine (spelled r) r
unfolding drawn_requests
drawn_lines zero g s stands r i = absurd i
drawn_lines (suc count) g s stands r i =
    let now = advanced_stands g s stands in
    let c : Change = change_of (advanced g) in
    let suits = suited (advanced g) now.ready in
    let line = kept (advanced g) s 1 now (omega arith) c suits in
    ⊎_elim
    (λ (same : r ≡ asks c). subst (λ (x : Request). IsCommandLine (spelled x) x) (sym same) (change_line (advanced g) now.ready c suits))
    (λ later. drawn_lines count (drawn g) (effect s (asks c) []) (line.1 []) r later)
    i

mkdir_line : (n : ℕ) → n < 8 → IsCommandLine (spelled (MakeFolder (folder_path n))) (MakeFolder (folder_path n))
mkdir_line n h = record { spelled = refl; is_field = folder_field n h }

-- each of a list's lines
abbrev AreLines : List Request → Type 0
AreLines [] = Unit {0}
AreLines (r ∷ rs) = IsCommandLine (spelled r) r × AreLines rs

one_of_lines : (rs : List Request) → AreLines rs → (r : Request) → In r rs → IsCommandLine (spelled r) r
one_of_lines [] all r i = absurd i
one_of_lines (x ∷ rs) all r i =
    ⊎_elim (λ (same : r ≡ x). subst (λ (y : Request). IsCommandLine (spelled y) y) (sym same) all.0) (λ later. one_of_lines rs all.1 r later) i

opening_lines : AreLines opening
unfolding opening
opening_lines = (
  mkdir_line 0 (omega arith),
  (
    mkdir_line 1 (omega arith),
    (
      mkdir_line 2 (omega arith),
      (
        mkdir_line 3 (omega arith),
        (
          mkdir_line 4 (omega arith),
          (
            mkdir_line 5 (omega arith),
            (
              mkdir_line 6 (omega arith),
              (
                mkdir_line 7 (omega arith),
                (
                  first_write 0 (omega arith),
                  (
                    first_write 1 (omega arith),
                    (
                      first_write 2 (omega arith),
                      (
                        first_write 3 (omega arith),
                        (
                          first_write 4 (omega arith),
                          (
                            first_write 5 (omega arith),
                            (
                              first_write 6 (omega arith),
                              (
                                first_write 7 (omega arith),
                                (refl, (refl, (refl, (refl, tt)))),
                              ),
                            ),
                          ),
                        ),
                      ),
                    ),
                  ),
                ),
              ),
            ),
          ),
        ),
      ),
    ),
  ),
)
  where
    first_write : (n : ℕ) (h : n < 8)
        → IsCommandLine (spelled (WriteFile (folder_path n ++ 47 ∷ 116 ∷ (48 + n) ∷ []) (0 ∷ []))) (WriteFile (folder_path n ++ 47 ∷ 116 ∷ (48 + n) ∷ []) (0 ∷ []))
    first_write n h = write_line n 116 n 0 h refl h (omega arith)

pub script_line : (seed count : ℕ) (r : Request) → In r (requests seed count) → IsCommandLine (spelled r) r
unfolding requests
script_line seed count r i =
    ⊎_elim (one_of_lines opening opening_lines r) (drawn_lines count (first seed) (opened_store [] [] [] []) (opened_stands seed [] [] [] []) r)
    ((In-append Request r opening (drawn_requests count (first seed))).0 i)

all_read : (rs : List Request) → ((r : Request) → In r rs → IsCommandLine (spelled r) r) → map request_in (map spelled rs) ≡ map Some rs
all_read [] lines = refl
all_read (r ∷ rs) lines =
    ap (λ (o : Option Request). o ∷ map request_in (map spelled rs)) (command_found (spelled r) r (lines r (inl refl)))
    ∙ ap (λ (os : List (Option Request)). Some r ∷ os) (all_read rs (λ x i. lines x (inr i)))

pub script_read : (seed count : ℕ) → map request_in (map spelled (requests seed count)) ≡ map Some (requests seed count)
script_read seed count = all_read (requests seed count) (script_line seed count)
