-- The payload of a step as a ring makes it, and the ring after it.
use Rattle.std.proofs.Common.{◌≡◌, ⊎_elim, inl, inr, ℕ, ◌+◌, ◌*◌, ◌<◌, List, [], ◌∷◌, ◌++◌, length, map, Option, Some, arith, refl, sym, ap, subst, ◌∙◌}
use Rattle.std.specs.Prelude.{IsSome, unwrap_or}
use Rattle.std.specs.List.{sum_by}
use Rattle.std.proofs.lemmas.List.{length-map}
use Rattle.std.proofs.lemmas.List.Sums.{sum_by-cons}
use Rattle.chacha_seal.specs.Keys.{KeyParts}
use Rattle.chacha_seal.specs.Serials.{Counting, serial_of}
use Rattle.chacha_seal.proofs.SealingLemmas.{length-sealed}
use Rattle.cry_base.specs.Sets.{In}
use Rattle.cry_base.specs.declared.roles.Edge.{Edge}
use Rattle.cry_base.specs.declared.roles.Role.{Role}
use Rattle.cry_base.proofs.Members.{In-append}
use Rattle.key_links.specs.Ended as ended
use Rattle.key_links.specs.Ringed.{Ringed, key_of}
use Rattle.key_links.specs.Sealed.{sealed_content, sealed_link}
use Rattle.move_plan.specs.Change.{Change}
use Rattle.record_format.specs.Plain.{PlainContent, PlainPayload}
use Rattle.record_format.specs.Sizes.{content_size, note_size, payload_size}
use Rattle.record_format.specs.Told.{told_note}
use Rattle.record_format.specs.declared.link.LinkRecord.{LinkRecord}
use Rattle.record_format.specs.declared.note.Note.{Note}
use Rattle.record_format.specs.declared.note.Note.TheVariants.{Root, NewHolder, NewFolder, NewFile, Rewrite, NameFile, NameFolder, DropFile, DropFolder, ShiftFile, ShiftFolder, Give, Take, StrictRoot, Upgrade}
use Rattle.role_graph.specs.Roles.{data_of, file_role}
use Rattle.public_fold.specs.Heads.{IsSkeleton, content_head}
use Rattle.public_fold.specs.KeyStep.{KeyState, Stepped, content_of, contents_from, given, key_step, keys_then, keys_without, link_of, links_from, newest, next_serial, numbered, published, published_edges, renewed, step_with}
use Rattle.public_fold.specs.Lengths.{content_len, note_len, payload_len}
use Rattle.public_fold.specs.Records.{Content, Link, Piece, sealing_role, text_of}
use Rattle.public_fold.specs.declared.heads.ContentHead.{ContentHead}
use Rattle.public_fold.specs.declared.heads.Skeleton.{Skeleton}
use Rattle.public_fold.proofs.Serials.{keys_between, numbered-length}
use Rattle.journal_bytes.specs.Bytes.{content_record, link_record, step_payload}
use Rattle.journal_bytes.specs.Keys.{bytes_in, with_bytes}
use Rattle.journal_bytes.specs.Ringing.{content_by, contents_by, held_key, key_after, key_for, links_by}
use Rattle.journal_bytes.specs.Sealing.{HoldsKeys, IsSealable, IsTold, WillHave, keys_with, skeleton_size}
use Rattle.journal_bytes.proofs.Ascending.{step_between, step_rises}
use Rattle.journal_bytes.proofs.GivenKeys.{will_have}
use Rattle.journal_bytes.proofs.StepKeys.{key_then, newest-in, newest-kept, newest-split}

-- ---- records under present keys

held_is : (ring : Ringed) (role : Role) (key : KeyParts) → key_of ring role ≡ Some key → held_key ring role ≡ key
unfolding held_key
held_is ring role key is = ap (λ o. unwrap_or o (key_for role 0 [])) is

-- the ring has the newest keys of the roles, with these bytes
abbrev HasNewest : Ringed → List KeyParts → List (Role × ℕ) → Type 0
HasNewest ring keys newer = (r : Role) (m : ℕ) → newest newer r ≡ Some m → key_of ring r ≡ Some (key_for r m (bytes_in keys m))

links_are : (ring : Ringed) (keys : List KeyParts) (newer : List (Role × ℕ)) (n : ℕ) (es : List Edge) → HasNewest ring keys newer
    → ((l : Link) → In l (links_from newer n es) → newest newer l.edge.from ≡ Some l.from_serial)
    → ((l : Link) → In l (links_from newer n es) → newest newer l.edge.to ≡ Some l.to_serial)
    → links_by ring n (links_from newer n es) ≡ map (link_record keys) (links_from newer n es)
unfolding links_from numbered link_of links_by link_record
links_are ring keys newer n [] has sources targets = refl
links_are ring keys newer n (e ∷ es) has sources targets =
    let l : Link = link_of newer (e, n) in
    let from = held_is ring e.from (key_for e.from l.from_serial (bytes_in keys l.from_serial)) (has e.from l.from_serial (sources l (inl refl))) in
    let to = held_is ring e.to (key_for e.to l.to_serial (bytes_in keys l.to_serial)) (has e.to l.to_serial (targets l (inl refl))) in
    ap (λ a. sealed_link e.kind a (held_key ring e.to) n ∷ links_by ring (n + 1) (links_from newer (n + 1) es)) from
    ∙ ap (λ b. sealed_link e.kind (key_for e.from l.from_serial (bytes_in keys l.from_serial)) b n ∷ links_by ring (n + 1) (links_from newer (n + 1) es)) to
    ∙ ap (λ ls. link_record keys l ∷ ls) (links_are ring keys newer (n + 1) es has (λ x i. sources x (inr i)) (λ x i. targets x (inr i)))

pub sealing_same : (p : Piece) → ended.sealing_role p.kind p.object ≡ sealing_role p
unfolding sealing_role data_of file_role
sealing_same p = refl

contents_are : (ring : Ringed) (keys : List KeyParts) (newer : List (Role × ℕ)) (text : List ℕ) (n : ℕ) (ps : List Piece) → HasNewest ring keys newer
    → ((c : Content) → In c (contents_from newer n ps) → newest newer (sealing_role c.piece) ≡ Some c.key_serial)
    → ((c : Content) → In c (contents_from newer n ps) → text_of c.piece ≡ text)
    → contents_by ring n text (map content_head (contents_from newer n ps)) ≡ map (content_record keys) (contents_from newer n ps)
unfolding contents_from numbered content_of contents_by content_record
contents_are ring keys newer text n [] has sealing texts = refl
contents_are ring keys newer text n (p ∷ ps) has sealing texts =
    let c : Content = content_of newer (p, n) in
    let key : KeyParts = key_for (sealing_role p) c.key_serial (bytes_in keys c.key_serial) in
    let held = ap (held_key ring) (sealing_same p) ∙ held_is ring (sealing_role p) key (has (sealing_role p) c.key_serial (sealing c (inl refl))) in
    ap (λ a. sealed_content p.kind a p.object n text ∷ contents_by ring (n + 1) text (map content_head (contents_from newer (n + 1) ps))) held
    ∙ ap (λ t. sealed_content p.kind key p.object n t ∷ contents_by ring (n + 1) text (map content_head (contents_from newer (n + 1) ps))) (sym (texts c (inl refl)))
    ∙ ap (λ cs. content_record keys c ∷ cs) (contents_are ring keys newer text (n + 1) ps has (λ x i. sealing x (inr i)) (λ x i. texts x (inr i)))

-- ---- how many bytes they have

length-links_by : (ring : Ringed) (n : ℕ) (links : List Link) → length (links_by ring n links) ≡ length links
unfolding links_by
length-links_by ring n [] = refl
length-links_by ring n (l ∷ links) = let more = length-links_by ring (n + 1) links in omega (arith, more)

texts_weigh : (ring : Ringed) (n : ℕ) (text : List ℕ) (cs : List Content) → ((c : Content) → In c cs → text_of c.piece ≡ text)
    → sum_by content_size (contents_by ring n text (map content_head cs)) ≡ sum_by content_len cs
unfolding contents_by content_len sealed_content
texts_weigh ring n text [] texts = refl
texts_weigh ring n text (c ∷ cs) texts =
    let h = content_head c in
    let r = content_by ring n h text in
    let first : length r.cipher ≡ length text = length-sealed (held_key ring (ended.sealing_role h.kind h.object)).bytes n text in
    let same : length (text_of c.piece) ≡ length text = ap length (texts c (inl refl)) in
    let more = texts_weigh ring (n + 1) text cs (λ x i. texts x (inr i)) in
    omega (arith, first, same, more, sum_by-cons content_size r (contents_by ring (n + 1) text (map content_head cs)), sum_by-cons content_len c cs)

note_weighs : (note : Note) → note_size note ≡ note_len (told_note note)
unfolding told_note note_len
note_weighs Root = refl
note_weighs (NewHolder h check) = refl
note_weighs (NewFolder f p) = refl
note_weighs (NewFile x f) = refl
note_weighs (Rewrite x) = refl
note_weighs (NameFile x) = refl
note_weighs (NameFolder f) = refl
note_weighs (DropFile x) = refl
note_weighs (DropFolder f) = refl
note_weighs (ShiftFile x g) = refl
note_weighs (ShiftFolder g q) = refl
note_weighs (Give h f) = refl
note_weighs (Take h f) = refl
note_weighs StrictRoot = refl
note_weighs Upgrade = refl

pub payload_weighs : (step : Stepped) (s : Skeleton) (text : List ℕ) (note : Note) (ring : Ringed) (n m : ℕ) (links : List LinkRecord) (contents : List PlainContent) → IsTold step s text
    → links ≡ links_by ring n s.links.items → contents ≡ contents_by ring m text s.contents.items
    → payload_size (record { note = note; links = links; contents = contents }) ≡ payload_len (told_note note) step
unfolding payload_len
payload_weighs step s text note ring n m links contents told links_is contents_is =
    let first = note_weighs note in
    let second : length links ≡ length step.links = ap length links_is ∙ length-links_by ring n s.links.items ∙ ap length told.is_skeleton.links in
    let third : sum_by content_size contents ≡ sum_by content_len step.contents =
    ap (sum_by content_size) contents_is ∙ ap (λ hs. sum_by content_size (contents_by ring m text hs)) told.is_skeleton.contents ∙ texts_weigh ring m text step.contents told.is_text in
    omega (arith, first, second, third)

one_more : (a b : ℕ) → a * (1 + b) ≡ a + a * b
one_more a b = omega arith

heads_weigh : (ring : Ringed) (n : ℕ) (text : List ℕ) (hs : List ContentHead) → sum_by content_size (contents_by ring n text hs) ≡ (58 + length text) * length hs
unfolding contents_by sealed_content
heads_weigh ring n text [] = omega arith
heads_weigh ring n text (h ∷ hs) =
    let r = content_by ring n h text in
    let first : length r.cipher ≡ length text = length-sealed (held_key ring (ended.sealing_role h.kind h.object)).bytes n text in
    let more = heads_weigh ring (n + 1) text hs in
    let whole = sum_by-cons content_size r (contents_by ring (n + 1) text hs) in
    let product : (58 + length text) * (1 + length hs) ≡ (58 + length text) + (58 + length text) * length hs = one_more (58 + length text) (length hs) in
    omega (arith, first, more, whole, product)

pub skeleton_weighs : (s : Skeleton) (text : List ℕ) (note : Note) (ring : Ringed) (n m : ℕ) (links : List LinkRecord) (contents : List PlainContent)
    → links ≡ links_by ring n s.links.items → contents ≡ contents_by ring m text s.contents.items
    → payload_size (record { note = note; links = links; contents = contents }) ≡ skeleton_size (told_note note) s (length text)
skeleton_weighs s text note ring n m links contents links_is contents_is =
    let first = note_weighs note in
    let second : length links ≡ length s.links.items = ap length links_is ∙ length-links_by ring n s.links.items in
    let third : sum_by content_size contents ≡ (58 + length text) * length s.contents.items =
    ap (sum_by content_size) contents_is ∙ heads_weigh ring m text s.contents.items in
    omega (arith, first, second, third)

-- a role that will have a key has one once the keys were given
pub gets_key : (old new : Ringed) (n : ℕ) (heads given : List (Role × ℕ)) (drawn : List (List ℕ)) (role : Role) → heads ≡ given → length drawn ≡ length given
    → key_of new role ≡ key_after (key_of old role) n heads drawn role → WillHave old given role → IsSome (key_of new role)
gets_key old new n heads whole drawn role same long made will =
    subst (λ (o : Option KeyParts). IsSome o) (sym (made ∙ ap (λ g. key_after (key_of old role) n g drawn role) same)) (will_have (key_of old role) n whole drawn role long will)

abbrev payload_with : Note → List PlainContent → List LinkRecord → PlainPayload
payload_with note contents links = record { note = note; links = links; contents = contents }

abbrev counting : ℕ → ℕ → Counting
counting epoch count = record { epoch = epoch; count = count }

epoch_stays : (k : KeyState) (before : List Edge) (c : Change) (pieces : List Piece) (counter : Counting) → counter ≡ record { epoch = k.epoch; count = k.count } → counter.epoch ≡ (key_step k before c pieces).after.epoch
unfolding key_step step_with published
epoch_stays k before c pieces counter is = ap (λ (x : Counting). x.epoch) is

-- ---- where the counter stands between

pub links_told : (ring : Ringed) (counter between : Counting) (heads given : List (Role × ℕ)) (start links : List LinkRecord) (slice due : List Link)
    → links ≡ start ++ links_by ring (serial_of between.epoch between.count) slice → start ≡ [] → slice ≡ due → between ≡ record { epoch = counter.epoch; count = counter.count + length heads } → heads ≡ given
    → links ≡ links_by ring (serial_of counter.epoch (counter.count + length given)) due
links_told ring counter between heads whole start links slice due is empty same at whose =
    is ∙ ap (λ z. z ++ links_by ring (serial_of between.epoch between.count) slice) empty
    ∙ ap (λ (b : Counting). links_by ring (serial_of b.epoch b.count) slice) at
    ∙ ap (λ g. links_by ring (serial_of counter.epoch (counter.count + length g)) slice) whose
    ∙ ap (links_by ring (serial_of counter.epoch (counter.count + length whole))) same

pub between_told : (counter first second : Counting) (X Y : Type 0) (heads given : List X) (slice due : List Y)
    → first ≡ record { epoch = counter.epoch; count = counter.count + length heads } → heads ≡ given
    → second ≡ record { epoch = first.epoch; count = first.count + length slice } → slice ≡ due
    → second ≡ record { epoch = counter.epoch; count = counter.count + length given + length due }
between_told counter first second X Y heads whole slice due first_is whose second_is same =
    second_is
    ∙ ap (λ (b : Counting). counting b.epoch (b.count + length slice)) first_is
    ∙ ap (λ g. counting counter.epoch (counter.count + length g + length slice)) whose
    ∙ ap (λ z. counting counter.epoch (counter.count + length whole + length z)) same

pub last_told : (counter second third : Counting) (X : Type 0) (n m : ℕ) (slice due : List X)
    → second ≡ record { epoch = counter.epoch; count = counter.count + n + m } → third ≡ record { epoch = second.epoch; count = second.count + length slice } → slice ≡ due
    → third ≡ record { epoch = counter.epoch; count = counter.count + n + m + length due }
last_told counter second third X n m slice due second_is third_is same =
    third_is
    ∙ ap (λ (b : Counting). counting b.epoch (b.count + length slice)) second_is
    ∙ ap (λ z. counting counter.epoch (counter.count + n + m + length z)) same

pub contents_told : (ring : Ringed) (counter second : Counting) (n m : ℕ) (text : List ℕ) (contents : List PlainContent) (slice due : List ContentHead)
    → contents ≡ contents_by ring (serial_of second.epoch second.count) text slice → slice ≡ due → second ≡ record { epoch = counter.epoch; count = counter.count + n + m }
    → contents ≡ contents_by ring (serial_of counter.epoch (counter.count + n + m)) text due
contents_told ring counter second n m text contents slice due is same at =
    is
    ∙ ap (λ (b : Counting). contents_by ring (serial_of b.epoch b.count) text slice) at
    ∙ ap (contents_by ring (serial_of counter.epoch (counter.count + n + m)) text) same

pub links_count : (ring : Ringed) (n : ℕ) (links : List LinkRecord) (due : List Link) → links ≡ links_by ring n due → length links ≡ length due
links_count ring n links due is = ap length is ∙ length-links_by ring n due

length-contents_by : (ring : Ringed) (n : ℕ) (text : List ℕ) (heads : List ContentHead) → length (contents_by ring n text heads) ≡ length heads
unfolding contents_by
length-contents_by ring n text [] = refl
length-contents_by ring n text (h ∷ heads) = let more = length-contents_by ring (n + 1) text heads in omega (arith, more)

pub contents_count : (ring : Ringed) (n : ℕ) (text : List ℕ) (contents : List PlainContent) (due : List ContentHead) → contents ≡ contents_by ring n text due → length contents ≡ length due
contents_count ring n text contents due is = ap length is ∙ length-contents_by ring n text due

links_long : (k : KeyState) (before : List Edge) (c : Change) (pieces : List Piece) → length (key_step k before c pieces).links ≡ length (published_edges before c (renewed k before c))
unfolding key_step step_with published links_from
links_long k before c pieces =
    let es = published_edges before c (renewed k before c) in
    length-map (numbered (next_serial k + length (given k c (renewed k before c))) es) _ ∙ numbered-length Edge (next_serial k + length (given k c (renewed k before c))) es

contents_long : (k : KeyState) (before : List Edge) (c : Change) (pieces : List Piece) → length (key_step k before c pieces).contents ≡ length pieces
unfolding key_step step_with published contents_from
contents_long k before c pieces =
    let n = next_serial k + length (given k c (renewed k before c)) + length (published_edges before c (renewed k before c)) in
    length-map (numbered n pieces) _ ∙ numbered-length Piece n pieces

-- a step takes a serial for each key, link and content
pub counted_after : (k : KeyState) (before : List Edge) (c : Change) (pieces : List Piece) (counter : Counting) (s : Skeleton)
    → counter ≡ record { epoch = k.epoch; count = k.count } → IsSkeleton (key_step k before c pieces) s
    → counter.count + length s.keys.items + length s.links.items + length s.contents.items ≡ (key_step k before c pieces).after.count
unfolding key_step step_with published
counted_after k before c pieces counter s is skeleton =
    let start = ap (λ (x : Counting). x.count) is in
    let keys_many = ap length skeleton.keys in
    let links_many = ap length skeleton.links in
    let contents_many = ap length skeleton.contents ∙ length-map (key_step k before c pieces).contents content_head in
    omega (arith, start, keys_many, links_many, links_long k before c pieces, contents_many, contents_long k before c pieces)

-- ---- a whole step

module _ (keys : List KeyParts) (k : KeyState) (before : List Edge) (c : Change) (pieces : List Piece) (drawn : List (List ℕ)) (old new : Ringed) (counter : Counting) (s : Skeleton)
    (holds : HoldsKeys keys k old counter) (can : IsSealable (key_step k before c pieces)) (shape : IsSkeleton (key_step k before c pieces) s) (long : length drawn ≡ length s.keys.items)
    (made : (r : Role) → key_of new r ≡ key_after (key_of old r) (serial_of counter.epoch counter.count) s.keys.items drawn r) where
  first_is : serial_of counter.epoch counter.count ≡ next_serial k
  unfolding next_serial
  first_is = ap (λ (x : Counting). serial_of x.epoch x.count) holds.is_counted

  given_long : length drawn ≡ length (renewed k before c ++ c.fresh)
  unfolding key_step step_with published given
  given_long = long ∙ ap length shape.keys ∙ numbered-length Role (next_serial k) (renewed k before c ++ c.fresh)

  has_after : HasNewest new (keys_with keys (key_step k before c pieces) drawn) (key_step k before c pieces).after.keys
  unfolding key_step step_with published keys_then given
  has_after r m e =
      made r
      ∙ ap (λ n. key_after (key_of old r) n s.keys.items drawn r) first_is
      ∙ ap (λ g. key_after (key_of old r) (next_serial k) g drawn r) shape.keys
      ∙ key_then keys (key_of old) k.keys (next_serial k) (renewed k before c ++ c.fresh) (renewed k before c ++ c.gone) drawn
      holds.has_present holds.drawn_below holds.present_below given_long can.given_once r m e

  second_is : serial_of counter.epoch (counter.count + length s.keys.items) ≡ next_serial k + length (key_step k before c pieces).given
  second_is = let keys_long = ap length shape.keys in omega (arith, first_is, keys_long)

  third_is : serial_of counter.epoch (counter.count + length s.keys.items + length s.links.items)
      ≡ next_serial k + length (key_step k before c pieces).given + length (published_edges before c (renewed k before c))
  third_is =
      let keys_many = ap length shape.keys in
      let links_many = ap length shape.links in omega (arith, first_is, keys_many, links_many, links_long k before c pieces)

  pub payload_is : (text : List ℕ) → ((x : Content) → In x (key_step k before c pieces).contents → text_of x.piece ≡ text) → (note : Note) (links : List LinkRecord) (contents : List PlainContent)
      → links ≡ links_by new (serial_of counter.epoch (counter.count + length s.keys.items)) s.links.items
      → contents ≡ contents_by new (serial_of counter.epoch (counter.count + length s.keys.items + length s.links.items)) text s.contents.items
      → record { note = note; links = links; contents = contents } ≡ step_payload (keys_with keys (key_step k before c pieces) drawn) note (key_step k before c pieces)
  unfolding step_payload key_step step_with published
  payload_is text texts note links contents links_is contents_is =
      let step = key_step k before c pieces in
      let all = keys_with keys step drawn in
      let newer = keys_then k c (renewed k before c) in
      let es = published_edges before c (renewed k before c) in
      let n = next_serial k + length (given k c (renewed k before c)) in
      let first : links ≡ map (link_record all) step.links =
      links_is
      ∙ ap (λ m. links_by new m s.links.items) second_is
      ∙ ap (links_by new n) shape.links
      ∙ links_are new all newer n es has_after can.sources can.targets in
      let second : contents ≡ map (content_record all) step.contents =
      contents_is
      ∙ ap (λ m. contents_by new m text s.contents.items) third_is
      ∙ ap (contents_by new (n + length es) text) shape.contents
      ∙ contents_are new all newer text (n + length es) pieces has_after can.sealing texts in
      ap (payload_with note contents) first ∙ ap (λ x. payload_with note x (map (link_record all) step.links)) second

  below_after : (r : Role) (m : ℕ) → newest (key_step k before c pieces).after.keys r ≡ Some m → m < next_serial (key_step k before c pieces).after
  unfolding key_step step_with published keys_then
  below_after r m e =
      let top = next_serial (key_step k before c pieces).after in
      ⊎_elim
      (λ here. let w = newest-in (given k c (renewed k before c)) r m here in
      subst (λ n. n < top) w.2 (keys_between k before c pieces w.0 w.1).1)
      (λ there.
      let low = holds.present_below r m (newest-kept (renewed k before c ++ c.gone) k.keys r m there.1) in
      let rises = step_rises k before c pieces in omega arith)
      (newest-split (given k c (renewed k before c)) (keys_without (renewed k before c ++ c.gone) k.keys) r m e)

  pub holds_after : (after : Counting) → after ≡ record { epoch = counter.epoch; count = counter.count + length s.keys.items + length s.links.items + length s.contents.items }
      → HoldsKeys (keys_with keys (key_step k before c pieces) drawn) (key_step k before c pieces).after new after
  holds_after after is =
      let step = key_step k before c pieces in
      record {
        has_present = has_after;
        drawn_below = λ key i.
            ⊎_elim
            (λ old_one. let low = holds.drawn_below key old_one in let rises = step_rises k before c pieces in omega arith)
            (λ new_one. (step_between k before c pieces drawn).below key new_one)
            ((In-append KeyParts key keys (with_bytes step.given drawn)).0 i);
        present_below = below_after;
        is_counted = is ∙ ap (λ n. counting counter.epoch n) (counted_after k before c pieces counter s holds.is_counted shape) ∙ ap (λ n. counting n step.after.count) (epoch_stays k before c pieces counter holds.is_counted);
      }
