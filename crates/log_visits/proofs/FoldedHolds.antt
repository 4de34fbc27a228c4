-- What a log folds to holds, and the log has a record for each edge that stands then.
use Rattle.std.proofs.Common.{◌≡◌, ℕ, ◌+◌, Bool, true, false, ◌==◌, ◌&&◌, List, [], ◌∷◌, ◌++◌, Option, Some, None, inl, inr, ⊎_elim, refl, sym, ap, ◌∙◌, subst, append_assoc, append-nil}
use Rattle.std.specs.Prelude.{is_some, Result, Ok, Err, if◌then◌else◌}
use Rattle.std.proofs.lemmas.Bool.{and_parts, and_from, false≢true}
use Rattle.cry_base.specs.Sets.{In}
use Rattle.cry_base.specs.Store.{no_store}
use Rattle.cry_base.specs.declared.roles.Edge.{Edge}
use Rattle.cry_base.proofs.Members.{In-append}
use Rattle.commit_journal.specs.Answering.{Fault, Damaged, and_then}
use Rattle.commit_journal.specs.Placed.{PlainBody, Commands, NewEpoch, PlainPlaced}
use Rattle.commit_journal.specs.Places.{link_offset}
use Rattle.record_format.specs.declared.link.LinkRecord.{LinkRecord}
use Rattle.record_format.specs.Plain.{PlainPayload}
use Rattle.record_format.specs.Told.{told_note}
use Rattle.role_graph.specs.Edges.{edges, in_order}
use Rattle.role_graph.specs.Roles.{role_id}
use Rattle.public_fold.specs.Fitted.{has_link_head, has_content_head, are_due, has_heads, fits_step, payload_fits, told_stand, told_step}
use Rattle.public_fold.specs.Journal.{Stand, nothing}
use Rattle.public_fold.specs.KeyStep.{KeyState, Stepped, next_epoch, present}
use Rattle.public_fold.specs.Records.{Link}
use Rattle.public_fold.specs.Rooted.{MayStand}
use Rattle.public_fold.specs.StandFits.{note_fits}
use Rattle.public_fold.specs.Turns.{StandHolds}
use Rattle.public_fold.proofs.TurnsHold.{payload_holds, epoch_stands, first_stands, first_fits}
use Rattle.log_visits.specs.Folding.{stand_behind, folded}
use Rattle.log_visits.specs.Placing.{PlacedLink, links_at, body_links, log_links, last_one, is_for_edge, link_for}

-- what is due is there
pub due_found : (X Y : Type 0) (is_due : X → Y → Bool) (xs : List X) (ys : List Y) (x : X) → are_due is_due xs ys ≡ true → In x xs → (y : Y) × In y ys × (is_due x y ≡ true)
unfolding are_due
due_found X Y is_due [] ys x t i = absurd i
due_found X Y is_due (a ∷ xs) [] x t i = absurd (false≢true t)
due_found X Y is_due (a ∷ xs) (b ∷ ys) x t i =
    let both = and_parts (is_due a b) (are_due is_due xs ys) t in ⊎_elim
    (λ (q : x ≡ a). let told : (y : Y) × In y (b ∷ ys) × (is_due x y ≡ true) = (b, inl refl, ap (λ z. is_due z b) q ∙ both.0) in told)
    (λ u. let w = due_found X Y is_due xs ys x both.1 u in let told : (y : Y) × In y (b ∷ ys) × (is_due x y ≡ true) = (w.0, inr w.1, w.2) in told) i

placed_found : (batch at : ℕ) (links : List LinkRecord) (r : LinkRecord) → In r links → (p : PlacedLink) × In p (links_at batch at links) × (p.link ≡ r)
unfolding links_at
placed_found batch at [] r i = absurd i
placed_found batch at (l ∷ links) r i =
    let first : PlacedLink = record { batch = batch; at = at; link = l } in ⊎_elim
    (λ (q : r ≡ l). let told : (p : PlacedLink) × In p (first ∷ links_at batch (at + 98) links) × (p.link ≡ r) = (first, inl refl, sym q) in told)
    (λ u. let w = placed_found batch (at + 98) links r u in let told : (p : PlacedLink) × In p (first ∷ links_at batch (at + 98) links) × (p.link ≡ r) = (w.0, inr w.1, w.2) in told) i

-- each of these links has a record among those
abbrev pub HaveRecords : List Link → List PlacedLink → Type 0
HaveRecords links placed = (l : Link) → In l links → (p : PlacedLink) × In p placed × (has_link_head l p.link ≡ true)

pub payload_records : (at : Stand) (q : PlainPayload) (batch place : ℕ) → payload_fits at q ≡ true → HaveRecords (told_step at (told_note q.note)).links (body_links batch place (Commands q))
unfolding payload_fits fits_step has_heads body_links
payload_records at q batch place t l i =
    let step : Stepped = told_step at (told_note q.note) in
    let fit = and_parts (note_fits at (told_note q.note) step) (are_due has_link_head step.links q.links && are_due has_content_head step.contents q.contents) t in
    let heads = and_parts (are_due has_link_head step.links q.links) (are_due has_content_head step.contents q.contents) fit.1 in
    let r = due_found Link LinkRecord has_link_head step.links q.links l heads.0 i in
    let p = placed_found batch (place + link_offset q 0) q.links r.0 r.1 in
    (p.0, p.1, ap (has_link_head l) p.2 ∙ r.2)

more_records : (xs ys : List Link) (ps qs : List PlacedLink) → HaveRecords xs ps → HaveRecords ys qs → HaveRecords (xs ++ ys) (ps ++ qs)
more_records xs ys ps qs a b l i = ⊎_elim
    (λ u. let w = a l u in (w.0, (In-append PlacedLink w.0 ps qs).1 (inl w.1), w.2))
    (λ u. let w = b l u in (w.0, (In-append PlacedLink w.0 ps qs).1 (inr w.1), w.2))
    ((In-append Link l xs ys).0 i)

-- what holds of a stand, with links that have their records among some
abbrev pub HoldsWith : Stand → List PlacedLink → Type 0
HoldsWith stand placed = (links : List Link) × StandHolds stand links × HaveRecords links placed

payload_with : (at : Stand) (q : PlainPayload) (batch place : ℕ) (before : List PlacedLink) → payload_fits at q ≡ true → HoldsWith at before → HoldsWith (told_stand at (told_note q.note)) (before ++ body_links batch place (Commands q))
payload_with at q batch place before t w =
    let step : Stepped = told_step at (told_note q.note) in (
      w.0 ++ step.links,
      payload_holds at q w.0 t w.1,
      more_records w.0 step.links before (body_links batch place (Commands q)) w.2 (payload_records at q batch place t),
    )

epoch_with : (at : Stand) (before : List PlacedLink) → HoldsWith at before → HoldsWith (record at { keys = next_epoch at.keys }) before
epoch_with at before w = (w.0, epoch_stands at w.0 w.1, w.2)

-- what holds with the links so far, and is kept by each payload that fits and each epoch, holds of what a log folds to
module _ (P : Stand → List PlacedLink → Type 0)
    (payload : (at : Stand) (q : PlainPayload) (batch place : ℕ) (before : List PlacedLink) → payload_fits at q ≡ true → P at before → P (told_stand at (told_note q.note)) (before ++ body_links batch place (Commands q)))
    (epoch : (at : Stand) (before : List PlacedLink) → P at before → P (record at { keys = next_epoch at.keys }) before)
    (first : P (record nothing { keys = next_epoch nothing.keys }) []) where
  -- one batch, and what follows
  body_each : (at stand : Stand) (batch place : ℕ) (body : PlainBody) (before behind : List PlacedLink) (go_on : Stand → Result Stand Fault)
      → ((next : Stand) (placed : List PlacedLink) → P next placed → go_on next ≡ Ok stand → P stand (placed ++ behind))
      → P at before → and_then (stand_behind at place body) go_on ≡ Ok stand → P stand (before ++ (body_links batch place body ++ behind))
  unfolding stand_behind and_then body_links
  body_each at stand batch place NewEpoch before behind go_on on w e =
      on (record at { keys = next_epoch at.keys }) before (epoch at before w) e
  body_each at stand batch place (Commands q) before behind go_on on w e =
      let new : List PlacedLink = body_links batch place (Commands q) in
      (elim (payload_fits at q) as (λ b. payload_fits at q ≡ b → and_then (if b then Ok (told_stand at (told_note q.note)) else Err (Damaged place)) go_on ≡ Ok stand → P stand (before ++ (new ++ behind))) [
        | true ↦ λ t e. subst (P stand) (append_assoc before new behind)
            (on (told_stand at (told_note q.note)) (before ++ new) (payload at q batch place before t w) e)
        | false ↦ λ t e. absurd cc
      ]) refl e

  fold_each : (log : List PlainPlaced) (at stand : Stand) (before : List PlacedLink) → P at before → folded at log ≡ Ok stand → P stand (before ++ log_links log)
  unfolding folded log_links
  fold_each [] at stand before w e =
      let same : at ≡ stand = cc in
      subst (λ z. P z (before ++ [])) same (subst (P at) (sym (append-nil before)) w)
  fold_each (p ∷ log) at stand before w e =
      body_each at stand p.batch p.place p.body before (log_links log) (λ next. folded next log) (λ next placed u f. fold_each log next stand placed u f) w e

  -- the first batch of a log that folds begins an epoch
  first_each : (stand : Stand) (batch place : ℕ) (body : PlainBody) (behind : List PlacedLink) (go_on : Stand → Result Stand Fault)
      → ((next : Stand) (placed : List PlacedLink) → P next placed → go_on next ≡ Ok stand → P stand (placed ++ behind))
      → and_then (stand_behind nothing place body) go_on ≡ Ok stand → P stand (body_links batch place body ++ behind)
  unfolding stand_behind and_then body_links
  first_each stand batch place NewEpoch behind go_on on e = on (record nothing { keys = next_epoch nothing.keys }) [] first e
  first_each stand batch place (Commands q) behind go_on on e =
      let new : List PlacedLink = body_links batch place (Commands q) in
      (elim (payload_fits nothing q) as (λ b. payload_fits nothing q ≡ b → and_then (if b then Ok (told_stand nothing (told_note q.note)) else Err (Damaged place)) go_on ≡ Ok stand → P stand (new ++ behind)) [
        | true ↦ λ t e. absurd (first_fits q t)
        | false ↦ λ t e. absurd cc
      ]) refl e

  pub log_each : (first : PlainPlaced) (log : List PlainPlaced) (stand : Stand) → folded nothing (first ∷ log) ≡ Ok stand → P stand (log_links (first ∷ log))
  unfolding folded log_links
  log_each p log stand e =
      first_each stand p.batch p.place p.body (log_links log) (λ next. folded next log) (λ next placed u f. fold_each log next stand placed u f) e

pub log_with : (first : PlainPlaced) (log : List PlainPlaced) (stand : Stand) → folded nothing (first ∷ log) ≡ Ok stand → HoldsWith stand (log_links (first ∷ log))
log_with p log stand e = log_each HoldsWith payload_with epoch_with ([], first_stands, λ l i. absurd i) p log stand e

-- the last one that passes is there where any passes
pub last_found : (X : Type 0) (test : X → Bool) (xs : List X) (x : X) → In x xs → test x ≡ true → is_some (last_one test xs) ≡ true
unfolding last_one
last_found X test [] x i t = absurd i
last_found X test (y ∷ ys) x i t = ⊎_elim
    (λ (q : x ≡ y). (elim (last_one test ys) as (λ o. is_some (elim o as (λ z. Option X) [ Some z ↦ Some z | None ↦ if test y then Some y else None ]) ≡ true) [
      | Some z ↦ refl
      | None ↦ ap (λ b. is_some (if b then Some y else None)) (ap test (sym q) ∙ t)
    ]))
    (λ u. (elim (last_one test ys) as (λ o. is_some o ≡ true → is_some (elim o as (λ z. Option X) [ Some z ↦ Some z | None ↦ if test y then Some y else None ]) ≡ true) [
      | Some z ↦ λ h. refl
      | None ↦ λ h. absurd (false≢true h)
    ]) (last_found X test ys x u t)) i

-- a record of a link is one for its edge
for_its_edge : (l : Link) (r : LinkRecord) → has_link_head l r ≡ true
    → ((r.kind == l.edge.kind) && ((r.from_id == role_id l.edge.from) && ((r.to_id == role_id l.edge.to) && ((r.from_serial.0 == l.from_serial) && (r.to_serial.0 == l.to_serial))))) ≡ true
unfolding has_link_head
for_its_edge l r t =
    let a = and_parts (r.kind == l.edge.kind) ((r.from_id == role_id l.edge.from) && ((r.to_id == role_id l.edge.to) && ((r.from_serial.0 == l.from_serial) && ((r.to_serial.0 == l.to_serial) && (r.nonce == l.nonce))))) t in
    let b = and_parts (r.from_id == role_id l.edge.from) ((r.to_id == role_id l.edge.to) && ((r.from_serial.0 == l.from_serial) && ((r.to_serial.0 == l.to_serial) && (r.nonce == l.nonce)))) a.1 in
    let c = and_parts (r.to_id == role_id l.edge.to) ((r.from_serial.0 == l.from_serial) && ((r.to_serial.0 == l.to_serial) && (r.nonce == l.nonce))) b.1 in
    let d = and_parts (r.from_serial.0 == l.from_serial) ((r.to_serial.0 == l.to_serial) && (r.nonce == l.nonce)) c.1 in
    let f = and_parts (r.to_serial.0 == l.to_serial) (r.nonce == l.nonce) d.1 in
    and_from (r.kind == l.edge.kind) ((r.from_id == role_id l.edge.from) && ((r.to_id == role_id l.edge.to) && ((r.from_serial.0 == l.from_serial) && (r.to_serial.0 == l.to_serial)))) a.0
    (and_from (r.from_id == role_id l.edge.from) ((r.to_id == role_id l.edge.to) && ((r.from_serial.0 == l.from_serial) && (r.to_serial.0 == l.to_serial))) b.0
    (and_from (r.to_id == role_id l.edge.to) ((r.from_serial.0 == l.from_serial) && (r.to_serial.0 == l.to_serial)) c.0
    (and_from (r.from_serial.0 == l.from_serial) (r.to_serial.0 == l.to_serial) d.0 f.0)))

pub for_edge : (k : KeyState) (e : Edge) (l : Link) (p : PlacedLink) → has_link_head l p.link ≡ true → l.edge ≡ e → l.from_serial ≡ present k.keys e.from → l.to_serial ≡ present k.keys e.to → is_for_edge k e p ≡ true
unfolding is_for_edge
for_edge k e l p t q from to =
    let r = p.link in
    let P : Edge → ℕ → ℕ → Type 0 = λ d a b. ((r.kind == d.kind) && ((r.from_id == role_id d.from) && ((r.to_id == role_id d.to) && ((r.from_serial.0 == a) && (r.to_serial.0 == b))))) ≡ true in
    subst (P e (present k.keys e.from)) to (subst (λ a. P e a l.to_serial) from (subst (λ d. P d l.from_serial l.to_serial) q (for_its_edge l r t)))

edge_found : (stand : Stand) (log : List PlainPlaced) (e : Edge) → HoldsWith stand (log_links log) → In e (edges stand.store) → is_some (link_for stand.keys log e) ≡ true
unfolding link_for
edge_found stand log e w i =
    let l = w.1.keys.linked e i in
    let p = w.2 l.0 l.1 in
    last_found PlacedLink (is_for_edge stand.keys e) (log_links log) p.0 p.1 (for_edge stand.keys e l.0 p.0 p.2 l.2 l.3 l.4)

-- nothing has no edge
empty_edge : (e : Edge) → In e (edges nothing.store) → ⊥
unfolding nothing no_store edges in_order
empty_edge e i = i

pub first_stand : (stand : Stand) → folded nothing [] ≡ Ok stand → nothing ≡ stand
unfolding folded
first_stand stand f = cc

pub each_edge_found : (log : List PlainPlaced) (stand : Stand) → folded nothing log ≡ Ok stand → (e : Edge) → In e (edges stand.store) → is_some (link_for stand.keys log e) ≡ true
each_edge_found [] stand f e i = absurd (empty_edge e (subst (λ (z : Stand). In e (edges z.store)) (sym (first_stand stand f)) i))
each_edge_found (p ∷ log) stand f e i = edge_found stand (p ∷ log) e (log_with p log stand f) i

-- what a log folds to may stand
pub folded_may_stand : (log : List PlainPlaced) (stand : Stand) → folded nothing log ≡ Ok stand → MayStand stand.store
unfolding nothing
folded_may_stand [] stand f = inl (ap (λ (z : Stand). z.store) (sym (first_stand stand f)))
folded_may_stand (p ∷ log) stand f = (log_with p log stand f).1.store
