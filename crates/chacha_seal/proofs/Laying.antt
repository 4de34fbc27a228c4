-- The loops that lay the stream over a text, a word at a time.
use Rattle.std.proofs.Common.{◌≡◌, ℕ, ◌+◌, ◌*◌, ◌/◌, ◌%◌, ◌^◌, ◌<◌, ◌≤◌, List, length, take, get_or, set, bit_xor, arith, refl, ap, sym, ◌∙◌}
use Rattle.std.specs.Int.{w32, to_le_bytes}
use Rattle.std.proofs.lemmas.Grind.{common_steps}
use Rattle.std.proofs.lemmas.List.{append-nil, drop_all, take_all}
use Rattle.rand_chacha.specs.ChaCha.{ChaCha, key_of, next_word, word_at}
use Rattle.chacha_seal.specs.Stream.{laid, stream_byte, word_for, xor_from, xor_stream}
use Rattle.chacha_seal.proofs.StreamLemmas.{lay_more, length-xor_from}

-- the generator of this key and number whose next word has the place `word`
abbrev pub at_word : List ℕ → ℕ → ℕ → ChaCha
at_word key number word = record { key = key_of key; stream = number; word_pos = word }

-- before any byte the text is as it was
pub laid_none : (key : List ℕ) (number i : ℕ) (text : List ℕ) → i ≡ 0 → text ≡ laid key number i text
unfolding xor_from
laid_none key number i text none = rw none refl

pub length-laid : (key : List ℕ) (number i : ℕ) (before text : List ℕ)
    → text ≡ laid key number i before → length text ≡ length before
length-laid key number i before text done =
    let parts : length (take i before) ≡ length (xor_from key number 0 (take i before))
    = sym (length-xor_from key number 0 (take i before)) in
    rw done (grind (arith, common_steps, parts))

-- byte k of the word at a place is byte k behind that place
pub byte_of_word : (key : List ℕ) (number at k i : ℕ) (word : List ℕ)
    → word ≡ word_for key number at → at % 4 ≡ 0 → k < 4 → i ≡ at + k
    → get_or word k 0 ≡ stream_byte key number i
unfolding stream_byte
byte_of_word key number at k i word same whole inside place =
    let behind : at / 4 ≡ i / 4 = omega arith in
    let within : k ≡ i % 4 = omega arith in
    let at_both : word_for key number at ≡ word_for key number i
    = ap (λ pos. to_le_bytes w32 (word_at 10 (key_of key) number pos)) behind in
    ap (λ w. get_or w k 0) (same ∙ at_both) ∙ ap (λ n. get_or (word_for key number i) n 0) within

-- the text with this byte laid over the one at place i
abbrev pub over : List ℕ → ℕ → ℕ → List ℕ
over text i byte = set text i (bit_xor (get_or text i 0) byte)

-- one byte more
pub laid_more : (key : List ℕ) (number i next : ℕ) (before text : List ℕ) (byte : ℕ)
    → i < length before → next ≡ i + 1 → text ≡ laid key number i before → byte ≡ stream_byte key number i
    → over text i byte ≡ laid key number next before
laid_more key number i next before text byte below after done same =
    rw (same, after) (lay_more key number i before text below done)

-- four bytes more
pub laid_word : (key : List ℕ) (number at : ℕ) (before text word : List ℕ)
    → at % 4 ≡ 0 → word ≡ word_for key number at → text ≡ laid key number at before → at + 4 ≤ length before
    → over (over (over (over text at (get_or word 0 0)) (at + 1) (get_or word 1 0)) (at + 2) (get_or word 2 0)) (at + 3) (get_or word 3 0)
    ≡ laid key number (at + 4) before
laid_word key number at before text word whole same done below =
    laid_more key number (at + 3) (at + 4) before _ _ (omega arith) (omega arith)
    (laid_more key number (at + 2) (at + 3) before _ _ (omega arith) (omega arith)
    (laid_more key number (at + 1) (at + 2) before _ _ (omega arith) (omega arith)
    (laid_more key number at (at + 1) before text _ (omega arith) refl done
    (byte_of_word key number at 0 at word same whole (omega arith) (omega arith)))
    (byte_of_word key number at 1 (at + 1) word same whole (omega arith) refl))
    (byte_of_word key number at 2 (at + 2) word same whole (omega arith) refl))
    (byte_of_word key number at 3 (at + 3) word same whole (omega arith) refl)

-- behind the last byte nothing changes
pub laid_past : (key : List ℕ) (number i j : ℕ) (before : List ℕ) → length before ≤ i → length before ≤ j
    → laid key number i before ≡ laid key number j before
laid_past key number i j before whole past =
    rw (take_all i before whole, drop_all i before whole, take_all j before past, drop_all j before past) refl

-- no byte is left
pub laid_all : (key : List ℕ) (number i : ℕ) (before : List ℕ)
    → length before ≤ i → laid key number i before ≡ xor_stream key number before
unfolding xor_stream
laid_all key number i before whole = rw (take_all i before whole, drop_all i before whole, append-nil) refl

-- a word is drawn: it is the one at its place, and the generator stands behind it
pub drawn_word : (key : List ℕ) (number i : ℕ) (words : ChaCha) (drawn : ℕ) (after : ChaCha)
    → words ≡ at_word key number i → (drawn, after) ≡ next_word 10 words → i < 2 ^ 64
    → (after ≡ at_word key number (i + 1)) × (to_le_bytes w32 drawn ≡ word_for key number (4 * i))
drawn_word key number i words drawn after before step bound =
    let stepped : (drawn, after) ≡ next_word 10 (at_word key number i) = step ∙ ap (next_word 10) before in
    let next : (i + 1) % 2 ^ 68 ≡ i + 1 = omega arith in
    let place : i ≡ 4 * i / 4 = omega arith in (
      ap (λ (p : ℕ × ChaCha). p.1) stepped ∙ ap (at_word key number) next,
      ap (λ (p : ℕ × ChaCha). to_le_bytes w32 p.0) stepped
          ∙ ap (λ pos. to_le_bytes w32 (word_at 10 (key_of key) number pos)) place,
    )
