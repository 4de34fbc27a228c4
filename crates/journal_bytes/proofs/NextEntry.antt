-- What the next entries add to a journal, and when they may come.
use Rattle.std.proofs.Common.{◌≡◌, inl, ℕ, ◌+◌, ◌*◌, ◌≤◌, Bool, true, false, cond, not, List, [], ◌∷◌, ◌++◌, length, replicate, None, All, append-nil, arith, refl, sym, ap, ◌∙◌}
use Rattle.std.specs.List.{sum_by}
use Rattle.std.proofs.lemmas.List.{length-append, length-map}
use Rattle.std.proofs.lemmas.List.Elements.{All-head}
use Rattle.std.proofs.lemmas.List.Sums.{sum_by-cons}
use Rattle.cry_base.specs.Refusing.{refusal_of}
use Rattle.cry_base.specs.Requests.{Request}
use Rattle.cry_base.specs.Requests.Request.{AddHolder, MakeFolder, WriteFile, Remove, Rename, Relocate, Grant, Revoke}
use Rattle.cry_base.specs.Sets.{In}
use Rattle.cry_base.specs.Stepping.{effect}
use Rattle.cry_base.specs.Store.{Store}
use Rattle.cry_base.specs.declared.roles.Edge.{Edge}
use Rattle.cry_base.specs.declared.roles.Role.{Role}
use Rattle.role_graph.specs.Edges.{edges}
use Rattle.move_plan.specs.Change.{Change, change_of, no_change, row_change}
use Rattle.move_plan.specs.Noting.{note_of}
use Rattle.public_fold.specs.Journal.{Journal, Stand, nothing, first_key, note_step, entry_step, entry_store, stand_then, stand_after, store_of}
use Rattle.public_fold.specs.Journal.Entry.{Session, Did}
use Rattle.public_fold.specs.KeyStep.{KeyState, content_of, contents_from, dirty_left, given, key_step, keys_then, links_from, next_epoch, next_serial, numbered, planned, published, published_edges, renewed, step_with, is_strict}
use Rattle.public_fold.specs.Lengths.{content_len, entry_payload, note_len, payload_len}
use Rattle.public_fold.specs.Preparing.{begun, begun_keys}
use Rattle.public_fold.specs.Records.{Piece, pieces_of, text_of}
use Rattle.public_fold.specs.Valid.{IsValid}
use Rattle.public_fold.proofs.Accepting.{accepted}
use Rattle.public_fold.proofs.Counting.{journal_counted}
use Rattle.public_fold.proofs.HeldMarks.{begun_strict}
use Rattle.public_fold.proofs.Keeping.{journal_tree}
use Rattle.public_fold.proofs.Prefixes.{stand_after-append}
use Rattle.public_fold.proofs.Serials.{numbered-length}
use Rattle.journal_bytes.specs.Script.{draws_of, due_payload}
use Rattle.journal_bytes.specs.Texting.{due_key, due_text}
use Rattle.journal_bytes.proofs.DueTexts.{sealed}
use Rattle.journal_bytes.proofs.Sealable.{pieces_due}
use Rattle.journal_bytes.proofs.ToldSkeleton.{same_many}

-- ---- the journal once the session is begun

abbrev pub between : Journal → Bool → Journal
between m has_begun = m ++ cond has_begun [] (Session ∷ [])

pub stand_between : (m : Journal) (has_begun : Bool) → stand_after nothing (between m has_begun) ≡ begun (not has_begun) (stand_after nothing m)
unfolding stand_after stand_then entry_store entry_step begun_keys
stand_between m true = ap (stand_after nothing) (append-nil m)
stand_between m false = stand_after-append nothing m (Session ∷ [])

-- ---- what a step has, whatever the epoch

pub begun_renewed : (new : Bool) (k : KeyState) (before : List Edge) (c : Change) → renewed (begun_keys new k) before c ≡ renewed k before c
unfolding renewed planned dirty_left begun_keys next_epoch
begun_renewed true k before c = refl
begun_renewed false k before c = refl

abbrev pub piece_len : Piece → ℕ
piece_len p = 58 + length (text_of p)

contents_sum : (keys : List (Role × ℕ)) (n : ℕ) (ps : List Piece) → sum_by content_len (contents_from keys n ps) ≡ sum_by piece_len ps
unfolding contents_from numbered content_of content_len
contents_sum keys n [] = refl
contents_sum keys n (p ∷ ps) =
    sum_by-cons content_len (content_of keys (p, n)) (contents_from keys (n + 1) ps)
    ∙ ap (λ k. piece_len p + k) (contents_sum keys (n + 1) ps)
    ∙ sym (sum_by-cons piece_len p ps)

module _ (k : KeyState) (before : List Edge) (c : Change) (pieces : List Piece) where
  pub given_many : length (key_step k before c pieces).given ≡ length (renewed k before c ++ c.fresh)
  unfolding key_step step_with published given
  given_many = numbered-length Role (next_serial k) (renewed k before c ++ c.fresh)

  pub links_many : length (key_step k before c pieces).links ≡ length (published_edges before c (renewed k before c))
  unfolding key_step step_with published links_from
  links_many =
      let es = published_edges before c (renewed k before c) in
      let n = next_serial k + length (given k c (renewed k before c)) in
      length-map (numbered n es) _ ∙ numbered-length Edge n es

  contents_many : length (key_step k before c pieces).contents ≡ length pieces
  unfolding key_step step_with published contents_from
  contents_many =
      let n = next_serial k + length (given k c (renewed k before c)) + length (published_edges before c (renewed k before c)) in
      length-map (numbered n pieces) _ ∙ numbered-length Piece n pieces

  contents_long : sum_by content_len (key_step k before c pieces).contents ≡ sum_by piece_len pieces
  unfolding key_step step_with published
  contents_long =
      contents_sum (keys_then k c (renewed k before c)) (next_serial k + length (given k c (renewed k before c)) + length (published_edges before c (renewed k before c))) pieces

module _ (at : Stand) (r : Request) where
  abbrev pub due : List (List ℕ) → List Piece
  due drawn = pieces_of (note_of at.store r []) (effect at.store r (first_key drawn))

  -- the change, where the session has begun an epoch and where it hasn't
  abbrev change_begun : Bool → Change
  change_begun new = change_of (is_strict (begun_keys new at.keys)) at.store (note_of at.store r [])

  same_begun : (new : Bool) → change_begun new ≡ change_of (is_strict at.keys) at.store (note_of at.store r [])
  same_begun new = ap (λ strict. change_of strict at.store (note_of at.store r [])) (begun_strict new at.keys)

  pub given_begun : (new : Bool) (drawn other : List (List ℕ)) → length (entry_step (begun new at) (Did r drawn)).given ≡ length (entry_step at (Did r other)).given
  unfolding entry_step note_step
  given_begun new drawn other =
      let k = begun_keys new at.keys in
      let c = change_of (is_strict at.keys) at.store (note_of at.store r []) in
      given_many k (edges at.store) (change_begun new) (due drawn)
      ∙ ap (λ (x : Change). length (renewed k (edges at.store) x ++ x.fresh)) (same_begun new)
      ∙ ap (λ plan. length (plan ++ c.fresh)) (begun_renewed new at.keys (edges at.store) c)
      ∙ sym (given_many at.keys (edges at.store) c (due other))

  pub links_begun : (new : Bool) (drawn other : List (List ℕ)) → length (entry_step (begun new at) (Did r drawn)).links ≡ length (entry_step at (Did r other)).links
  unfolding entry_step note_step
  links_begun new drawn other =
      let k = begun_keys new at.keys in
      let c = change_of (is_strict at.keys) at.store (note_of at.store r []) in
      links_many k (edges at.store) (change_begun new) (due drawn)
      ∙ ap (λ (x : Change). length (published_edges (edges at.store) x (renewed k (edges at.store) x))) (same_begun new)
      ∙ ap (λ plan. length (published_edges (edges at.store) c plan)) (begun_renewed new at.keys (edges at.store) c)
      ∙ sym (links_many at.keys (edges at.store) c (due other))

  pub contents_due : (new : Bool) (drawn : List (List ℕ)) → length (entry_step (begun new at) (Did r drawn)).contents ≡ length (due drawn)
  unfolding entry_step note_step
  contents_due new drawn = contents_many (begun_keys new at.keys) (edges at.store) (change_begun new) (due drawn)

  pub payload_due : (new : Bool) (drawn : List (List ℕ)) → entry_payload (begun new at) (Did r drawn)
      ≡ note_len (note_of at.store r []) + 8 + 98 * length (entry_step at (Did r drawn)).links + sum_by piece_len (due drawn)
  unfolding entry_payload payload_len
  payload_due new drawn =
      let n = note_len (note_of at.store r []) + 8 in
      ap (λ l. n + 98 * l + sum_by content_len (entry_step (begun new at) (Did r drawn)).contents) (links_begun new drawn drawn)
      ∙ ap (λ l. n + 98 * length (entry_step at (Did r drawn)).links + l)
      (unfold entry_step note_step in contents_long (begun_keys new at.keys) (edges at.store) (change_begun new) (due drawn))

-- ---- how long its text is

few_sum : (n : ℕ) (ps : List Piece) → length ps ≤ 1 → ((p : Piece) → In p ps → length (text_of p) ≡ n) → sum_by piece_len ps ≡ (58 + n) * length ps
few_sum n [] few texts = omega arith
few_sum n (p ∷ []) few texts = let t = texts p (inl refl) in let sum = sum_by-cons piece_len p [] in omega (arith, t, sum)
few_sum n (p ∷ q ∷ ps) few texts = absurd (omega arith)

abbrev pub text_long : Store → Request → List ℕ → ℕ
text_long s r key = length (due_text s r ++ due_key r key)

pub due_weighs : (m : Journal) (r : Request) (drawn : List (List ℕ)) (file_bytes : ℕ) → IsValid m → refusal_of (store_of m) r file_bytes ≡ None
    → sum_by piece_len (due (stand_after nothing m) r drawn) ≡ (58 + text_long (store_of m) r (first_key drawn)) * length (due (stand_after nothing m) r drawn)
unfolding store_of
due_weighs m r drawn file_bytes valid none =
    let s = (stand_after nothing m).store in
    few_sum (text_long s r (first_key drawn)) (due (stand_after nothing m) r drawn)
    (pieces_due (note_of s r []) (effect s r (first_key drawn))).0
    (λ p i. ap length (sealed s r (first_key drawn) [] (accepted s r file_bytes none) (journal_counted m) (journal_tree m valid) p i))

draws_for_holder : (m : Journal) → 1 ≤ draws_of m AddHolder
unfolding draws_of entry_step note_step note_of change_of row_change no_change
draws_for_holder m =
    let at = stand_after nothing m in
    let c = change_of (is_strict at.keys) at.store (note_of at.store AddHolder []) in
    let plan = renewed at.keys (edges at.store) c in
    let many = given_many at.keys (edges at.store) c (due at AddHolder []) in
    let joined : length (plan ++ c.fresh) ≡ length plan + 1 = length-append plan c.fresh in
    omega (arith, many, joined)

key_long : (m : Journal) (r : Request) (drawn : List (List ℕ)) → length drawn ≡ draws_of m r → All (λ (key : List ℕ). length key ≡ 32) drawn
    → length (due_key r (first_key drawn)) ≡ length (due_key r (replicate 32 0))
unfolding due_key first_key
key_long m AddHolder [] many sizes = let some = draws_for_holder m in absurd (omega (arith, many, some))
key_long m AddHolder (key ∷ drawn) many sizes = All-head (λ (key : List ℕ). length key ≡ 32) key drawn sizes
key_long m (MakeFolder path) drawn many sizes = refl
key_long m (WriteFile path bytes) drawn many sizes = refl
key_long m (Remove path) drawn many sizes = refl
key_long m (Rename path name) drawn many sizes = refl
key_long m (Relocate path into) drawn many sizes = refl
key_long m (Grant h path) drawn many sizes = refl
key_long m (Revoke h path) drawn many sizes = refl

-- a payload is as long as it is due, whatever keys were drawn, and in whatever epoch
pub payload_weighs : (m : Journal) (new : Bool) (r : Request) (drawn : List (List ℕ)) (file_bytes : ℕ) → IsValid m → refusal_of (store_of m) r file_bytes ≡ None
    → length drawn ≡ draws_of m r → All (λ (key : List ℕ). length key ≡ 32) drawn → entry_payload (begun new (stand_after nothing m)) (Did r drawn) ≡ due_payload m r
unfolding due_payload store_of begun_keys first_key
payload_weighs m new r drawn file_bytes valid none many sizes =
    let at = stand_after nothing m in
    let other : List (List ℕ) = replicate 32 0 ∷ [] in
    let n = note_len (note_of at.store r []) + 8 in
    let text : text_long at.store r (first_key drawn) ≡ text_long at.store r (replicate 32 0) =
    length-append (due_text at.store r) (due_key r (first_key drawn)) ∙ ap (λ k. length (due_text at.store r) + k) (key_long m r drawn many sizes)
    ∙ sym (length-append (due_text at.store r) (due_key r (replicate 32 0)))
    in
    let pieces : sum_by piece_len (due at r drawn) ≡ sum_by piece_len (due at r other) =
    due_weighs m r drawn file_bytes valid none
    ∙ ap (λ k. (58 + k) * length (due at r drawn)) text
    ∙ ap (λ k. (58 + text_long at.store r (replicate 32 0)) * k) (same_many at.store r (first_key drawn) (first_key other) file_bytes none)
    ∙ sym (due_weighs m r other file_bytes valid none)
    in
    payload_due at r new drawn
    ∙ ap (λ l. n + 98 * l + sum_by piece_len (due at r drawn)) (links_begun at r false drawn other)
    ∙ ap (λ l. n + 98 * length (entry_step at (Did r other)).links + l) pieces
    ∙ sym (payload_due at r false other)
