-- Six keys that were drawn are the pieces of their bytes, and who stands for the journal of the last five is made by them.
use Rattle.std.proofs.Common.{◌≡◌, ℕ, ◌+◌, ◌*◌, ◌<◌, List, Result, Ok, Err, Option, [], ◌∷◌, ◌++◌, length, take, drop, slice_index_or, None, arith, sym, ap, subst, ◌∙◌, length-append}
use Rattle.std.proofs.lemmas.List.Elements.{All-head, All-tail}
use Rattle.std.proofs.Math.Seq.{take-append_seam, drop-append-add}
use Rattle.std.specs.Prelude.{IfOk, OnOk}
use Rattle.commit_journal.specs.Handing.{Hands}
use Rattle.commit_journal.specs.Image.{Batch, image}
use Rattle.cry_base.specs.Listed.{Listed}
use Rattle.cry_base.specs.declared.limits.Limits.{Limits}
use Rattle.cry_io.specs.Told.{WhereBothTold, WhereTold}
use Rattle.key_links.specs.Fresh.{fresh_draw_len, fresh_image, piece}
use Rattle.journal_bytes.specs.Bytes.{image_of}
use Rattle.store_owner.specs.declared.apply_fault.ApplyFault.{ApplyFault}
use Rattle.store_owner.specs.declared.apply_fault.ApplyFault.TheVariants as answers
use Rattle.store_owner.specs.Drawing.{AreKeys, DrawsKeys, IsFillFault, joined}
use Rattle.store_owner.specs.Stopping.{ShowsWritten}
use Rattle.store_owner.specs.Making.{IsMade, IsMadeJournal, Makes, fresh_writes, made_batches, made_with, made_writes, root_keys, root_payload}
use Rattle.store_owner.specs.Counted.{root_counted}
use Rattle.store_owner.specs.Owned.{IsOwnerOf, OwnerView}
use Rattle.store_owner.proofs.MadeOwner.{batches_are}

abbrev IsLong : List ℕ → Type 0
IsLong key = length key ≡ 32

here : (key rest : List ℕ) → IsLong key → piece (key ++ rest) 0 ≡ key
here key rest long = ap (λ n. take n (key ++ rest)) (sym long) ∙ take-append_seam key rest

behind : (key rest : List ℕ) (i : ℕ) → IsLong key → piece (key ++ rest) (i + 1) ≡ piece rest i
behind key rest i long =
    let ahead : 32 * (i + 1) ≡ length key + 32 * i = omega (arith, long) in
    ap (λ n. take 32 (drop n (key ++ rest))) ahead ∙ ap (take 32) (drop-append-add key rest (32 * i))

-- six keys, each with its bytes
module _ (a b c d e f : List ℕ) (la : IsLong a) (lb : IsLong b) (lc : IsLong c) (ld : IsLong d) (le : IsLong e) (lf : IsLong f) where
  abbrev pub last_two : List ℕ
  last_two = e ++ (f ++ [])

  abbrev pub last_three : List ℕ
  last_three = d ++ (e ++ (f ++ []))

  abbrev pub last_four : List ℕ
  last_four = c ++ (d ++ (e ++ (f ++ [])))

  abbrev pub last_five : List ℕ
  last_five = b ++ (c ++ (d ++ (e ++ (f ++ []))))

  pub first_here : a ≡ piece (a ++ last_five) 0
  first_here = sym (here a last_five la)

  second : piece (a ++ last_five) 1 ≡ b
  second = behind a last_five 0 la ∙ here b last_four lb

  third : piece (a ++ last_five) 2 ≡ c
  third = behind a last_five 1 la ∙ behind b last_four 0 lb ∙ here c last_three lc

  fourth : piece (a ++ last_five) 3 ≡ d
  fourth = behind a last_five 2 la ∙ behind b last_four 1 lb ∙ behind c last_three 0 lc ∙ here d last_two ld

  fifth : piece (a ++ last_five) 4 ≡ e
  fifth = behind a last_five 3 la ∙ behind b last_four 2 lb ∙ behind c last_three 1 lc ∙ behind d last_two 0 ld ∙ here e (f ++ []) le

  sixth : piece (a ++ last_five) 5 ≡ f
  sixth = behind a last_five 4 la ∙ behind b last_four 3 lb ∙ behind c last_three 2 lc ∙ behind d last_two 1 ld ∙ behind e (f ++ []) 0 le ∙ here f [] lf

  pub rest_here : b ∷ c ∷ d ∷ e ∷ f ∷ [] ≡ root_keys (a ++ last_five)
  rest_here = λ i. sym second i ∷ sym third i ∷ sym fourth i ∷ sym fifth i ∷ sym sixth i ∷ []

  pub all_long : length (a ++ last_five) ≡ fresh_draw_len
  all_long = simp length-append (omega (arith, la, lb, lc, ld, le, lf))

-- what six keys are by their bytes
pub record ArePieces (keys : List (List ℕ)) : Type 0 where
  pub first : slice_index_or keys 0 [] ≡ piece (joined keys) 0
  pub rest : drop 1 keys ≡ root_keys (joined keys)
  pub long : length (joined keys) ≡ fresh_draw_len
  pub first_long : length (slice_index_or keys 0 []) ≡ 32
  pub rest_long : AreKeys (drop 1 keys)

pub six_pieces : (keys : List (List ℕ)) → length keys ≡ 6 → AreKeys keys → ArePieces keys
six_pieces [] six sizes = absurd (omega arith)
six_pieces (a ∷ []) six sizes = absurd (omega arith)
six_pieces (a ∷ b ∷ []) six sizes = absurd (omega arith)
six_pieces (a ∷ b ∷ c ∷ []) six sizes = absurd (omega arith)
six_pieces (a ∷ b ∷ c ∷ d ∷ []) six sizes = absurd (omega arith)
six_pieces (a ∷ b ∷ c ∷ d ∷ e ∷ []) six sizes = absurd (omega arith)
six_pieces (a ∷ b ∷ c ∷ d ∷ e ∷ f ∷ []) six sizes =
    let la = All-head IsLong a (b ∷ c ∷ d ∷ e ∷ f ∷ []) sizes in
    let on_b = All-tail IsLong a (b ∷ c ∷ d ∷ e ∷ f ∷ []) sizes in
    let lb = All-head IsLong b (c ∷ d ∷ e ∷ f ∷ []) on_b in
    let on_c = All-tail IsLong b (c ∷ d ∷ e ∷ f ∷ []) on_b in
    let lc = All-head IsLong c (d ∷ e ∷ f ∷ []) on_c in
    let on_d = All-tail IsLong c (d ∷ e ∷ f ∷ []) on_c in
    let ld = All-head IsLong d (e ∷ f ∷ []) on_d in
    let on_e = All-tail IsLong d (e ∷ f ∷ []) on_d in
    let le = All-head IsLong e (f ∷ []) on_e in
    let lf = All-head IsLong f [] (All-tail IsLong e (f ∷ []) on_e) in
    record {
      first = first_here a b c d e f la lb lc ld le lf;
      rest = rest_here a b c d e f la lb lc ld le lf;
      long = all_long a b c d e f la lb lc ld le lf;
      first_long = la;
      rest_long = on_b;
    }
six_pieces (a ∷ b ∷ c ∷ d ∷ e ∷ f ∷ g ∷ more) six sizes = absurd (omega arith)

-- the first of the keys is the owner's, the others are the root's
module _ (owner : List ℕ) (rest keys : List (List ℕ)) (six : length keys ≡ 6) (sizes : AreKeys keys) (owner_is : owner ≡ slice_index_or keys 0 []) (rest_is : rest ≡ drop 1 keys) where
  pub five_left : length rest ≡ 5
  five_left = ap length (rest_is ∙ (six_pieces keys six sizes).rest)

  pub rest_keys : AreKeys rest
  rest_keys = subst AreKeys (sym rest_is) (six_pieces keys six sizes).rest_long

  owner_piece : owner ≡ piece (joined keys) 0
  owner_piece = owner_is ∙ (six_pieces keys six sizes).first

  rest_pieces : rest ≡ root_keys (joined keys)
  rest_pieces = rest_is ∙ (six_pieces keys six sizes).rest

  pub fresh_are : made_writes owner (root_payload owner rest) ≡ fresh_writes (joined keys)
  fresh_are = λ i. made_writes (owner_piece i) (root_payload (owner_piece i) (rest_pieces i))

  pub is_made : (limits : Limits) (o : OwnerView) → o.key ≡ owner → IsOwnerOf (made_with rest) o → IsMadeJournal owner limits.store_bytes o.journal → o.counter ≡ None
      → o.file_bytes ≡ limits.file_bytes → o.tally ≡ root_counted → IsMade (joined keys) limits o
  is_made limits o key_is is journal none bounded counted = record {
    all_drawn = (six_pieces keys six sizes).long;
    same_key = key_is ∙ owner_piece;
    owner = subst (λ (ks : List (List ℕ)). IsOwnerOf (made_with ks) o) rest_pieces is;
    journal = subst (λ (k : List ℕ). IsMadeJournal k limits.store_bytes o.journal) owner_piece journal;
    not_counted = none;
    same_file_bytes = bounded;
    counted = counted;
  }

  pub shows_fresh : image_of (piece (joined keys) 0) (made_with (root_keys (joined keys))) ++ 0 ∷ [] ≡ fresh_image (joined keys)
      → image owner (made_batches (root_payload owner rest)) ++ 0 ∷ [] ≡ fresh_image (joined keys)
  unfolding image_of
  shows_fresh fresh =
      ap (λ (bs : List Batch). image owner bs ++ 0 ∷ []) (batches_are owner rest)
      ∙ (λ i. image_of (owner_piece i) (made_with (rest_pieces i)) ++ 0 ∷ [])
      ∙ fresh

-- what a store's making comes to, at its end
pub makes_all : (result : Result OwnerView ApplyFault) (limits : Limits) (drawn : List ℕ) (before after was shows : Option (List ℕ)) (since : List ℕ → List ℕ → Type 0)
    → IfOk result (IsMade drawn limits) → OnOk result (WhereTold shows (λ s. s ≡ fresh_image drawn)) → OnOk result (ShowsWritten (fresh_writes drawn) was shows)
    → length drawn ≡ fresh_draw_len → WhereBothTold before after (λ x y. x ≡ drawn ++ y) → Hands (fresh_writes drawn) (Unit {0}) was shows since
    → IfOk result (Makes limits before after was shows since)
makes_all (Ok o) limits drawn before after was shows since is fresh all long bytes hands = record {
  hands = record { drawn = drawn; all_drawn = long; next_bytes = bytes; hands = hands; handed = λ done. all };
  owner = is;
  fresh = fresh;
}
makes_all (Err fault) limits drawn before after was shows since is fresh all long bytes hands = tt

-- once six keys were drawn their bytes are gone
pub six_are_gone : (keys : List (List ℕ)) → length keys ≡ 6 → AreKeys keys → (x y : List ℕ) → x ≡ joined keys ++ y → length x ≡ fresh_draw_len + length y
six_are_gone keys six sizes x y is = ap length is ∙ length-append (joined keys) y ∙ ap (λ n. n + length y) (six_pieces keys six sizes).long

-- a source that ended before the last byte of six keys
pub short_of_six : (fault : ApplyFault) (before after : Option (List ℕ)) (left need : ℕ) → IsFillFault {T = Listed (List ℕ)} 6 (Err fault) → WhereBothTold before after (DrawsKeys 6 (Err fault))
    → fault ≡ answers.RandomShort left need → (need ≡ fresh_draw_len) × (left < fresh_draw_len) × WhereBothTold before after (λ x y. (length x ≡ left) × (y ≡ []))
short_of_six fault before after left need told bytes is =
    let small : 32 * 6 < 4294967296 = omega arith in
    let t = subst (λ (f : ApplyFault). IsFillFault {T = Listed (List ℕ)} 6 (Err f)) is told small in
    let drew = subst (λ (f : ApplyFault). WhereBothTold before after (DrawsKeys 6 (Err f))) is bytes in
    (t.0, omega (arith, t.0, t.1), λ x y was now. ((drew x y was now).0 small, (drew x y was now).1))
