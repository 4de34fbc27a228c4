-- Each batch that is read stands behind the header, so no record that fails at a visit stands at its end.
use Rattle.std.proofs.Common.{◌≡◌, ⊎_elim, ℕ, zero, suc, ◌+◌, ◌-◌, ◌≤◌, Bool, true, false, ◌==◌, List, [], ◌∷◌, ◌++◌, length, take, drop, Option, Some, None, Result, Ok, Err, arith, refl, ap, subst}
use Rattle.std.specs.Prelude.{codes, if◌then◌else◌, nat_le, slice_index, slice_range}
use Rattle.std.specs.Str.{bytes_eq}
use Rattle.hmac_seal.specs.Hmac.{hmac}
use Rattle.chacha_seal.specs.Sealing.{check_of, masked, veil_of}
use Rattle.commit_journal.specs.Answering.{Fault, Damaged, NotAStore, Tampered, WrongKey, and_then}
use Rattle.commit_journal.specs.Log.{PlainTurn, before, body_of, check_in, gate_in, goes_on, head_at, payload_in, placed_body, published_turn, slot_in, start_at, start_of, tag_due, tag_in, turn_of}
use Rattle.commit_journal.specs.Logs.{holder_log, recovered_turn, tagged_recovered, turn_by, unowned_start, unowned_start_of, walk_at, writer_log}
use Rattle.commit_journal.specs.Placed.{PlainBody, Commands, NewEpoch, PlainPlaced}
use Rattle.commit_journal.specs.Places.{content_offset}
use Rattle.commit_journal.proofs.Epochs.{holder_too}
use Rattle.commit_journal.proofs.Walks.{Turns}
use Rattle.cry_base.specs.Layout.{batch_len, header_len}
use Rattle.cry_base.specs.Sets.{In}
use Rattle.cry_base.specs.declared.client.Bundle.{Bundle}
use Rattle.cry_base.specs.declared.client.Bundle.TheVariants as bundles
use Rattle.cry_base.proofs.Members.{In-flat_map}
use Rattle.log_visits.specs.Judging.{bundle_log}
use Rattle.log_visits.specs.Placing.{PlacedContent, body_contents, contents_at, log_contents}
use Rattle.journal_bytes.proofs.OpenedKeys.{same_ok, then_told}
use Rattle.record_format.specs.Plain.{PlainContent}
use Rattle.record_format.specs.Sizes.{content_size}
use Rattle.reader_laws.specs.Failing.{IsOfRecord}

-- a turn's batch stands at its place, and the next one behind it
abbrev Moves : ℕ → PlainTurn → Type 0
Moves at t = (t.placed.place ≡ at + 45) × (at ≤ t.past.at)

abbrev MovesOn : Turns → Type 0
MovesOn turn = (from : PlainTurn) (rest : List ℕ) (t : PlainTurn) → turn from.past rest ≡ Ok (Some t) → Moves from.past.at t

turn_moves : (from : PlainTurn) (head : _) (batch : List ℕ) (body : PlainBody) (t : PlainTurn) → turn_of from.past head batch body ≡ t → Moves from.past.at t
turn_moves from head batch body t same = subst (Moves from.past.at) same (refl, omega arith)

same_turn : (a b : PlainTurn) → (let r : Result (Option PlainTurn) Fault = Ok (Some a) in r) ≡ Ok (Some b) → a ≡ b
same_turn a b e = cc

none_moves : (at : ℕ) (b : Bool) (fault : Fault) (t : PlainTurn) → (if b then Err fault else Ok None) ≡ Ok (Some t) → Moves at t
none_moves at true fault t e = absurd cc
none_moves at false fault t e = absurd cc

published_moves : (from : PlainTurn) (head : _) (batch : List ℕ) (t : PlainTurn) → published_turn from.past head batch ≡ Ok (Some t) → Moves from.past.at t
unfolding published_turn
published_moves from head batch t =
    let judged = placed_body from.past (body_of head (masked (slot_in batch) (payload_in head.size batch))) in
    let go_on : PlainBody → Result (Option PlainTurn) Fault = λ body. Ok (Some (turn_of from.past head batch body)) in
    let fault : Fault = Tampered head.number (from.past.at + 13) in
    elim (bytes_eq (hmac (slot_in batch) (payload_in head.size batch)) (check_in head.size batch)) as (λ b. (if b then and_then judged go_on else (if gate_in head.size batch == 1 then Err fault else Ok None)) ≡ Ok (Some t) → Moves from.past.at t) [
      | true ↦ λ e. let w = then_told PlainBody (Option PlainTurn) judged go_on (Some t) e in turn_moves from head batch w.0 t (same_turn (turn_of from.past head batch w.0) t w.2)
      | false ↦ none_moves from.past.at (gate_in head.size batch == 1) fault t
    ]

holder_moves : MovesOn (turn_by published_turn)
unfolding turn_by
holder_moves from rest t e =
    let w = then_told _ (Option PlainTurn) (head_at from.past rest) (λ head. published_turn from.past head (take (batch_len + head.size) rest)) (Some t) e in
    published_moves from w.0 (take (batch_len + w.0.size) rest) t w.2

recovered_on : (owner : List ℕ) (from : PlainTurn) (head : _) (batch : List ℕ) (t : PlainTurn) → tagged_recovered owner from.past head batch ≡ Ok (Some t) → Moves from.past.at t
unfolding tagged_recovered recovered_turn
recovered_on owner from head batch t =
    let judged = placed_body from.past (body_of head (masked (veil_of owner head.epoch.0 head.number) (payload_in head.size batch))) in
    let go_on : PlainBody → Result (Option PlainTurn) Fault = λ body. Ok (Some (turn_of from.past head batch body)) in
    elim (bytes_eq (tag_due owner from.past.tag head.size batch) (tag_in head.size batch)) as (λ b. (if b then and_then judged go_on else Err (Tampered head.number (from.past.at + 77 + head.size))) ≡ Ok (Some t) → Moves from.past.at t) [
      | true ↦ λ e. let w = then_told PlainBody (Option PlainTurn) judged go_on (Some t) e in turn_moves from head batch w.0 t (same_turn (turn_of from.past head batch w.0) t w.2)
      | false ↦ λ e. absurd cc
    ]

recovered_moves : (owner : List ℕ) → MovesOn (turn_by (tagged_recovered owner))
unfolding turn_by
recovered_moves owner from rest t e =
    let w = then_told _ (Option PlainTurn) (head_at from.past rest) (λ head. tagged_recovered owner from.past head (take (batch_len + head.size) rest)) (Some t) e in
    recovered_on owner from w.0 (take (batch_len + w.0.size) rest) t w.2

-- ---- the walk

abbrev AreBehind : ℕ → List PlainPlaced → Type 0
AreBehind low log = (p : PlainPlaced) → In p log → low + 45 ≤ p.place

module _ (turn : Turns) (moves : MovesOn turn) where
  goes_behind : (from : PlainTurn) (rest : List ℕ) (o : Result (Option PlainTurn) Fault) (go_on : PlainTurn → Result (List PlainPlaced) Fault) (log : List PlainPlaced) → turn from.past rest ≡ o
      → ((next : PlainTurn) (more : List PlainPlaced) → go_on next ≡ Ok more → AreBehind next.past.at more) → goes_on o go_on ≡ Ok log → AreBehind from.past.at log
  unfolding goes_on before
  goes_behind from rest (Err fault) go_on log is later e = absurd cc
  goes_behind from rest (Ok None) go_on log is later e =
      subst (AreBehind from.past.at) (same_ok (List PlainPlaced) [] log e) (λ p i. absurd i)
  goes_behind from rest (Ok (Some next)) go_on log is later e =
      (elim (go_on next) as (λ z. go_on next ≡ z → before (next.placed ∷ []) z ≡ Ok log → AreBehind from.past.at log) [
        | Ok more ↦ λ q f.
            let moved = moves from rest next is in
            let place : next.placed.place ≡ from.past.at + 45 = moved.0 in
            let on : from.past.at ≤ next.past.at = moved.1 in
            subst (AreBehind from.past.at) (same_ok (List PlainPlaced) (next.placed ∷ more) log f) (λ p i. ⊎_elim
            (λ (s : p ≡ next.placed). let at : p.place ≡ next.placed.place = ap (λ (z : PlainPlaced). z.place) s in omega (arith, place, at))
            (λ u. let far : next.past.at + 45 ≤ p.place = later next more q p u in omega (arith, far, on))
            i)
        | Err fault ↦ λ q f. absurd cc
      ]) refl e

  gate_behind : (b : Bool) (low : ℕ) (log : List PlainPlaced) (walked : Result (List PlainPlaced) Fault) → (walked ≡ Ok log → AreBehind low log) → (if b then walked else Ok []) ≡ Ok log → AreBehind low log
  gate_behind true low log walked told e = told e
  gate_behind false low log walked told e = subst (AreBehind low) (same_ok (List PlainPlaced) [] log e) (λ p i. absurd i)

  walk_behind : (rest : List ℕ) (from : PlainTurn) (skip : ℕ) (log : List PlainPlaced) → walk_at turn from.past skip rest ≡ Ok log → AreBehind from.past.at log
  unfolding walk_at
  walk_behind [] from skip log e =
      gate_behind (from.past.gate == 1) from.past.at log (goes_on (turn from.past []) (λ _. Ok []))
      (goes_behind from [] (turn from.past []) (λ _. Ok []) log refl (λ next more q. subst (AreBehind next.past.at) (same_ok (List PlainPlaced) [] more q) (λ p i. absurd i))) e
  walk_behind (byte ∷ rest) from zero log e =
      gate_behind (from.past.gate == 1) from.past.at log (goes_on (turn from.past (byte ∷ rest)) (λ next. walk_at turn next.past (next.past.at - (from.past.at + 1)) rest))
      (goes_behind from (byte ∷ rest) (turn from.past (byte ∷ rest)) (λ next. walk_at turn next.past (next.past.at - (from.past.at + 1)) rest) log refl
      (λ next more q. walk_behind rest next (next.past.at - (from.past.at + 1)) more q)) e
  walk_behind (byte ∷ rest) from (suc skip) log e = walk_behind rest from skip log e

-- ---- logs begin behind the header

-- what is known behind a header, as a turn has it
unfoldable pub begun_turn : List ℕ → PlainTurn
begun_turn header = record {
  placed = record { batch = 0; epoch = record { 0 = 0 }; place = 0; body = NewEpoch };
  past = record { at = header_len; number = 0; epoch = record { 0 = 0 }; tag = slice_range header 9 41; gate = slice_index header 41 };
}

-- a log read from there
module _ (turn : Turns) (moves : MovesOn turn) (header rest : List ℕ) (log : List PlainPlaced) where
  begun_behind : walk_at turn (begun_turn header).past 0 rest ≡ Ok log → AreBehind header_len log
  unfolding begun_turn
  begun_behind e = walk_behind turn moves rest (begun_turn header) 0 log e

  known_behind : (b : Bool) → and_then (if b then Ok (begun_turn header).past else Err NotAStore) (λ past. walk_at turn past 0 rest) ≡ Ok log → AreBehind header_len log
  unfolding and_then
  known_behind true e = begun_behind e
  known_behind false e = absurd cc

  owned_behind : (b d : Bool) → and_then (if b then (if d then Ok (begun_turn header).past else Err WrongKey) else Err NotAStore) (λ past. walk_at turn past 0 rest) ≡ Ok log → AreBehind header_len log
  unfolding and_then
  owned_behind true true e = begun_behind e
  owned_behind true false e = absurd cc
  owned_behind false d e = absurd cc

holder_behind : (bytes : List ℕ) (log : List PlainPlaced) → holder_log bytes ≡ Ok log → AreBehind header_len log
unfolding holder_log unowned_start unowned_start_of begun_turn and_then
holder_behind bytes log =
    let header = take header_len bytes in
    let walk = known_behind (turn_by published_turn) holder_moves header (drop header_len bytes) log (bytes_eq (take 9 header) (codes "CRYPTREE" ++ 1 ∷ [])) in
    elim (nat_le header_len (length bytes)) as (λ b. and_then (if b then unowned_start_of header else Err NotAStore) (λ past. walk_at (turn_by published_turn) past 0 (drop header_len bytes)) ≡ Ok log → AreBehind header_len log) [
      | true ↦ walk
      | false ↦ λ e. absurd cc
    ]

reader_behind : (bundle : Bundle) (bytes : List ℕ) (log : List PlainPlaced) → bundle_log bundle bytes ≡ Ok log → AreBehind header_len log
unfolding bundle_log
reader_behind (bundles.Owner key) bytes log e = holder_behind bytes log (holder_too key bytes log e)
reader_behind (bundles.Holder h key) bytes log e = holder_behind bytes log e

writer_behind : (owner bytes : List ℕ) (log : List PlainPlaced) → writer_log owner bytes ≡ Ok log → AreBehind header_len log
unfolding writer_log start_at start_of begun_turn and_then
writer_behind owner bytes log =
    let header = take header_len bytes in
    let walk = owned_behind (turn_by (tagged_recovered owner)) (recovered_moves owner) header (drop header_len bytes) log (bytes_eq (take 9 header) (codes "CRYPTREE" ++ 1 ∷ [])) (bytes_eq (slice_range header 9 41) (check_of owner)) in
    elim (nat_le header_len (length bytes)) as (λ b. and_then (if b then start_of owner header else Err NotAStore) (λ past. walk_at (turn_by (tagged_recovered owner)) past 0 (drop header_len bytes)) ≡ Ok log → AreBehind header_len log) [
      | true ↦ walk
      | false ↦ λ e. absurd cc
    ]

-- ---- so do the records

at_least : (batch at : ℕ) (contents : List PlainContent) (c : PlacedContent) → In c (contents_at batch at contents) → at ≤ c.at
unfolding contents_at
at_least batch at [] c i = absurd i
at_least batch at (r ∷ contents) c i = ⊎_elim
    (λ (q : c ≡ record { batch = batch; at = at; content = r }). let same : c.at ≡ at = ap (λ (z : PlacedContent). z.at) q in omega (arith, same))
    (λ u. let far : at + content_size r ≤ c.at = at_least batch (at + content_size r) contents c u in omega (arith, far))
    i

body_behind : (batch place : ℕ) (body : PlainBody) (c : PlacedContent) → In c (body_contents batch place body) → place ≤ c.at
unfolding body_contents
body_behind batch place NewEpoch c i = absurd i
body_behind batch place (Commands q) c i = let far : place + content_offset q 0 ≤ c.at = at_least batch (place + content_offset q 0) q.contents c i in omega (arith, far)

contents_behind : (log : List PlainPlaced) (c : PlacedContent) → AreBehind header_len log → In c (log_contents log) → header_len + 45 ≤ c.at
unfolding log_contents
contents_behind log c behind i =
    let w = (In-flat_map PlainPlaced PlacedContent (λ p. body_contents p.batch p.place p.body) c log).0 i in
    let p : PlainPlaced = w.0 in
    let low : header_len + 45 ≤ p.place = behind p w.1 in
    let far : p.place ≤ c.at = body_behind p.batch p.place p.body c w.2 in
    omega (arith, low, far)

-- no fault of a record is told at the header's end
never_there : (log : List PlainPlaced) → AreBehind header_len log → IsOfRecord log (Damaged header_len) → ⊥
never_there log behind = ⊎_elim
    (λ l. let e = l.2 in cc)
    (λ c. ⊎_elim
    (λ e. cc)
    (λ (e : Damaged header_len ≡ Damaged c.0.at).
    let same : header_len ≡ c.0.at = cc in
    let far : header_len + 45 ≤ c.0.at = contents_behind log c.0 behind c.1 in
    omega (arith, same, far))
    c.2)

pub reader_never : (bundle : Bundle) (bytes : List ℕ) (log : List PlainPlaced) → bundle_log bundle bytes ≡ Ok log → IsOfRecord log (Damaged header_len) → ⊥
reader_never bundle bytes log e = never_there log (reader_behind bundle bytes log e)

pub writer_never : (owner bytes : List ℕ) (log : List PlainPlaced) → writer_log owner bytes ≡ Ok log → IsOfRecord log (Damaged header_len) → ⊥
writer_never owner bytes log e = never_there log (writer_behind owner bytes log e)
