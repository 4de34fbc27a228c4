-- No line of a generated script holds a newline.
use Rattle.std.proofs.Common.{◌≡◌, ◌≢◌, ℕ, zero, suc, ◌+◌, ◌/◌, ◌%◌, ◌<◌, Bool, true, false, cond, not, List, [], ◌∷◌, ◌++◌, refl, ap, sym, subst, ⊎_elim, arith}
use Rattle.std.specs.Prelude.{◌==◌, nat_lt, codes}
use Rattle.std.specs.List.{All, list_all}
use Rattle.std.proofs.lemmas.Bool.{and_from, and_parts, ne_eqb, false≢true}
use Rattle.std.proofs.lemmas.List.Sums.{AllPass-from_list_all}
use Rattle.cry_base.specs.Sets.{In}
use Rattle.cry_base.specs.Texts.{hex_of, hex_digit}
use Rattle.cry_base.specs.Requests.{Request}
use Rattle.cry_base.specs.Stepping.{effect}
use Rattle.cry_base.specs.Store.{Store}
use Rattle.cry_base.proofs.Members.{In-append}
use Rattle.store_gen.specs.Rule.{asks, advanced, change_of, drawn, drawn_requests, folder_path, opening, first, requests}
use Rattle.store_gen.specs.Spelling.{spelled}
use Rattle.store_gen.specs.Standing.{Stands}
use Rattle.store_gen.specs.declared.change.Change.{Change}
use Rattle.store_gen.specs.declared.change.Change.TheVariants as change
use Rattle.store_gen.specs.declared.generator.Generator.{Generator}
use Rattle.store_gen.proofs.Accepted.{Suits, kept, suited, advanced_stands}
use Rattle.store_gen.proofs.Lines.{one_digit}
use Rattle.store_gen.proofs.Opening.{opened_store, opened_stands}

abbrev is_plain : ℕ → Bool
is_plain byte = not (byte == 10)

abbrev is_one_line : Request → Bool
is_one_line r = list_all is_plain (spelled r)

plain : (byte : ℕ) → 10 < byte → is_plain byte ≡ true
plain byte above = ap not (ne_eqb byte 10 (λ same. absurd (omega arith)))

plain_hex : (d : ℕ) → is_plain (hex_digit d) ≡ true
unfolding hex_digit
plain_hex d = elim (nat_lt d 10) as (λ b. is_plain (cond b (48 + d) (87 + d)) ≡ true) [ true ↦ plain (48 + d) (omega arith) | false ↦ plain (87 + d) (omega arith) ]

plain_grant : (word : List ℕ) → ((rest : List ℕ) → list_all is_plain rest ≡ true → list_all is_plain (word ++ rest) ≡ true) → (who m : ℕ) → (digits : List ℕ) → digits ≡ (49 + who) ∷ []
    → list_all is_plain (word ++ (digits ++ 32 ∷ folder_path m)) ≡ true
plain_grant word goes_on who m digits is =
    subst (λ (d : List ℕ). list_all is_plain (word ++ (d ++ 32 ∷ folder_path m)) ≡ true) (sym is)
    (goes_on ((49 + who) ∷ 32 ∷ folder_path m) (and_from _ _ (plain (49 + who) (omega arith)) (and_from _ _ (plain (48 + m) (omega arith)) refl)))

change_plain : (g : Generator) (c : Change) → Suits g c → is_one_line (asks c) ≡ true
unfolding hex_of
change_plain g (change.Write folder file byte) suits =
    and_from _ _ (plain (48 + folder) (omega arith)) (and_from _ _ (plain (48 + file) (omega arith))
    (and_from _ _ (plain_hex (byte / 16)) (and_from _ _ (plain_hex (byte % 16)) refl)))
change_plain g (change.Grant who folder) suits = plain_grant (codes "grant ") (λ rest h. h) who folder _ (one_digit who suits.0)
change_plain g (change.Revoke who folder) suits = plain_grant (codes "revoke ") (λ rest h. h) who folder _ (one_digit who suits.0)
change_plain g (change.Move file from into) suits =
    and_from _ _ (plain (48 + from) (omega arith)) (and_from _ _ (plain (48 + file) (omega arith)) (and_from _ _ (plain (48 + into) (omega arith)) refl))

drawn_plain : (count : ℕ) (g : Generator) (s : Store) → Stands g s → list_all is_one_line (drawn_requests count g) ≡ true
unfolding drawn_requests
drawn_plain zero g s stands = refl
drawn_plain (suc count) g s stands =
    let now = advanced_stands g s stands in
    let suits = suited (advanced g) now.ready in
    let line = kept (advanced g) s 1 now (omega arith) (change_of (advanced g)) suits in
    and_from _ _ (change_plain (advanced g) (change_of (advanced g)) suits) (drawn_plain count (drawn g) (effect s (asks (change_of (advanced g))) []) (line.1 []))

opening_plain : list_all is_one_line opening ≡ true
unfolding opening hex_of hex_digit
opening_plain = refl

one_of_all : (p : Request → Bool) (rs : List Request) → list_all p rs ≡ true → (r : Request) → In r rs → p r ≡ true
one_of_all p [] all r i = absurd i
one_of_all p (x ∷ rs) all r i =
    let parts = and_parts (p x) (list_all p rs) all in
    ⊎_elim (λ (same : r ≡ x). subst (λ (y : Request). p y ≡ true) (sym same) parts.0) (λ later. one_of_all p rs parts.1 r later) i

no_newline : (line : List ℕ) → list_all is_plain line ≡ true → All (λ byte. byte ≢ 10) line
no_newline line passes = λ k d h same.
    false≢true (subst (λ (z : ℕ). not (z == 10) ≡ true) same (AllPass-from_list_all is_plain line passes k d h))

pub script_one_line : (seed count : ℕ) (r : Request) → In r (requests seed count) → All (λ byte. byte ≢ 10) (spelled r)
unfolding requests
script_one_line seed count r i =
    no_newline (spelled r)
    (⊎_elim (one_of_all is_one_line opening opening_plain r)
    (one_of_all is_one_line (drawn_requests count (first seed)) (drawn_plain count (first seed) (opened_store [] [] [] []) (opened_stands seed [] [] [] [])) r)
    ((In-append Request r opening (drawn_requests count (first seed))).0 i))
