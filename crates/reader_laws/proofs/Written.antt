-- A log that folds has a content for each folder, file and holder that stands then.
use Rattle.std.proofs.Common.{◌≡◌, ⊎_elim, inl, inr, ℕ, ◌+◌, Bool, true, false, ◌==◌, ◌&&◌, List, [], ◌∷◌, ◌++◌, Option, Some, None, Result, Ok, Err, refl, sym, ap, subst, ◌∙◌, append_assoc, append-nil}
use Rattle.std.specs.Prelude.{if◌then◌else◌, is_some}
use Rattle.std.proofs.lemmas.Bool.{and_from, and_parts, false≢true}
use Rattle.commit_journal.specs.Answering.{Fault, Damaged, and_then}
use Rattle.commit_journal.specs.Placed.{PlainBody, Commands, NewEpoch, PlainPlaced}
use Rattle.commit_journal.specs.Places.{content_offset}
use Rattle.cry_base.specs.Sets.{In}
use Rattle.cry_base.specs.Store.{FileEntry, FolderEntry, HolderEntry, no_store}
use Rattle.cry_base.proofs.Members.{In-append}
use Rattle.record_format.specs.Plain.{PlainContent, PlainPayload}
use Rattle.record_format.specs.Sizes.{content_size}
use Rattle.record_format.specs.Told.{told_note}
use Rattle.public_fold.specs.Fitted.{are_due, fits_step, has_content_head, has_heads, has_length, has_link_head, payload_fits, told_stand, told_step}
use Rattle.public_fold.specs.Journal.{Stand, nothing}
use Rattle.public_fold.specs.KeyStep.{Stepped, next_epoch}
use Rattle.public_fold.specs.Records.{Content, Link}
use Rattle.public_fold.specs.StandFits.{note_fits}
use Rattle.public_fold.specs.Texts.{AreWritten, HasContent}
use Rattle.public_fold.specs.Turns.{StandHolds}
use Rattle.public_fold.proofs.TextsWritten.{note_written}
use Rattle.public_fold.proofs.TurnsHold.{epoch_stands, first_fits, first_stands, payload_holds}
use Rattle.log_visits.specs.Folding.{folded, stand_behind}
use Rattle.log_visits.specs.Placing.{PlacedContent, body_contents, content_for, contents_at, last_one, log_contents}
use Rattle.log_visits.proofs.OwnerKey.{payload_fit}

-- what is due is there
due_found : (X Y : Type 0) (is_due : X → Y → Bool) (xs : List X) (ys : List Y) (x : X) → are_due is_due xs ys ≡ true → In x xs → (y : Y) × In y ys × (is_due x y ≡ true)
unfolding are_due
due_found X Y is_due [] ys x t i = absurd i
due_found X Y is_due (a ∷ xs) [] x t i = absurd (false≢true t)
due_found X Y is_due (a ∷ xs) (b ∷ ys) x t i =
    let both = and_parts (is_due a b) (are_due is_due xs ys) t in ⊎_elim
    (λ (q : x ≡ a). let told : (y : Y) × In y (b ∷ ys) × (is_due x y ≡ true) = (b, inl refl, ap (λ z. is_due z b) q ∙ both.0) in told)
    (λ u. let w = due_found X Y is_due xs ys x both.1 u in let told : (y : Y) × In y (b ∷ ys) × (is_due x y ≡ true) = (w.0, inr w.1, w.2) in told) i

placed_found : (batch at : ℕ) (contents : List PlainContent) (r : PlainContent) → In r contents → (p : PlacedContent) × In p (contents_at batch at contents) × (p.content ≡ r)
unfolding contents_at
placed_found batch at [] r i = absurd i
placed_found batch at (c ∷ contents) r i =
    let first : PlacedContent = record { batch = batch; at = at; content = c } in
    let rest = contents_at batch (at + content_size c) contents in ⊎_elim
    (λ (q : r ≡ c). let told : (p : PlacedContent) × In p (first ∷ rest) × (p.content ≡ r) = (first, inl refl, sym q) in told)
    (λ u. let w = placed_found batch (at + content_size c) contents r u in let told : (p : PlacedContent) × In p (first ∷ rest) × (p.content ≡ r) = (w.0, inr w.1, w.2) in told) i

-- each of these contents has a record among those
abbrev HaveRecords : List Content → List PlacedContent → Type 0
HaveRecords contents placed = (c : Content) → In c contents → (p : PlacedContent) × In p placed × (has_content_head c p.content ≡ true)

-- what holds of a stand, with contents that have their records among some
record HoldsTexts (stand : Stand) (placed : List PlacedContent) : Type 0 where
  links : List Link
  stands : StandHolds stand links
  contents : List Content
  written : AreWritten stand.store contents
  records : HaveRecords contents placed

payload_records : (at : Stand) (q : PlainPayload) (batch place : ℕ) → payload_fits at q ≡ true → HaveRecords (told_step at (told_note q.note)).contents (body_contents batch place (Commands q))
unfolding payload_fits fits_step has_heads body_contents
payload_records at q batch place t c i =
    let step : Stepped = told_step at (told_note q.note) in
    let fit = and_parts (note_fits at (told_note q.note) step) (are_due has_link_head step.links q.links && are_due has_content_head step.contents q.contents) t in
    let heads = and_parts (are_due has_link_head step.links q.links) (are_due has_content_head step.contents q.contents) fit.1 in
    let r = due_found Content PlainContent has_content_head step.contents q.contents c heads.1 i in
    let p = placed_found batch (place + content_offset q 0) q.contents r.0 r.1 in
    (p.0, p.1, ap (has_content_head c) p.2 ∙ r.2)

more_records : (xs ys : List Content) (ps qs : List PlacedContent) → HaveRecords xs ps → HaveRecords ys qs → HaveRecords (xs ++ ys) (ps ++ qs)
more_records xs ys ps qs a b c i = ⊎_elim
    (λ u. let w = a c u in (w.0, (In-append PlacedContent w.0 ps qs).1 (inl w.1), w.2))
    (λ u. let w = b c u in (w.0, (In-append PlacedContent w.0 ps qs).1 (inr w.1), w.2))
    ((In-append Content c xs ys).0 i)

payload_texts : (at : Stand) (q : PlainPayload) (batch place : ℕ) (before : List PlacedContent) → payload_fits at q ≡ true → HoldsTexts at before → HoldsTexts (told_stand at (told_note q.note)) (before ++ body_contents batch place (Commands q))
payload_texts at q batch place before t w =
    let note = told_note q.note in
    let step : Stepped = told_step at note in record {
      links = w.links ++ step.links;
      stands = payload_holds at q w.links t w.stands;
      contents = w.contents ++ step.contents;
      written = note_written at note w.contents (payload_fit at q t) w.stands.store w.written;
      records = more_records w.contents step.contents before (body_contents batch place (Commands q)) w.records (payload_records at q batch place t);
    }

epoch_texts : (at : Stand) (before : List PlacedContent) → HoldsTexts at before → HoldsTexts (record at { keys = next_epoch at.keys }) before
epoch_texts at before w = record { links = w.links; stands = epoch_stands at w.links w.stands; contents = w.contents; written = w.written; records = w.records }

-- one batch, and what follows
body_texts : (at stand : Stand) (batch place : ℕ) (body : PlainBody) (before behind : List PlacedContent) (go_on : Stand → Result Stand Fault)
    → ((next : Stand) (placed : List PlacedContent) → HoldsTexts next placed → go_on next ≡ Ok stand → HoldsTexts stand (placed ++ behind))
    → HoldsTexts at before → and_then (stand_behind at place body) go_on ≡ Ok stand → HoldsTexts stand (before ++ (body_contents batch place body ++ behind))
unfolding stand_behind and_then body_contents
body_texts at stand batch place NewEpoch before behind go_on on w e =
    on (record at { keys = next_epoch at.keys }) before (epoch_texts at before w) e
body_texts at stand batch place (Commands q) before behind go_on on w e =
    let new : List PlacedContent = body_contents batch place (Commands q) in
    (elim (payload_fits at q) as (λ b. payload_fits at q ≡ b → and_then (if b then Ok (told_stand at (told_note q.note)) else Err (Damaged place)) go_on ≡ Ok stand → HoldsTexts stand (before ++ (new ++ behind))) [
      | true ↦ λ t e. subst (HoldsTexts stand) (append_assoc before new behind)
          (on (told_stand at (told_note q.note)) (before ++ new) (payload_texts at q batch place before t w) e)
      | false ↦ λ t e. absurd cc
    ]) refl e

fold_texts : (log : List PlainPlaced) (at stand : Stand) (before : List PlacedContent) → HoldsTexts at before → folded at log ≡ Ok stand → HoldsTexts stand (before ++ log_contents log)
unfolding folded log_contents
fold_texts [] at stand before w e =
    let same : at ≡ stand = cc in
    subst (λ z. HoldsTexts z (before ++ [])) same (subst (HoldsTexts at) (sym (append-nil before)) w)
fold_texts (p ∷ log) at stand before w e =
    body_texts at stand p.batch p.place p.body before (log_contents log) (λ next. folded next log) (λ next placed u f. fold_texts log next stand placed u f) w e

none_written : AreWritten nothing.store []
unfolding nothing no_store
none_written = record { folders = λ e i. absurd i; files = λ e i. absurd i; holders = λ e i. absurd i }

first_texts : HoldsTexts (record nothing { keys = next_epoch nothing.keys }) []
first_texts = record { links = []; stands = first_stands; contents = []; written = none_written; records = λ c i. absurd i }

-- the first batch of a log that folds begins an epoch
first_with : (stand : Stand) (batch place : ℕ) (body : PlainBody) (behind : List PlacedContent) (go_on : Stand → Result Stand Fault)
    → ((next : Stand) (placed : List PlacedContent) → HoldsTexts next placed → go_on next ≡ Ok stand → HoldsTexts stand (placed ++ behind))
    → and_then (stand_behind nothing place body) go_on ≡ Ok stand → HoldsTexts stand (body_contents batch place body ++ behind)
unfolding stand_behind and_then body_contents
first_with stand batch place NewEpoch behind go_on on e = on (record nothing { keys = next_epoch nothing.keys }) [] first_texts e
first_with stand batch place (Commands q) behind go_on on e =
    let new : List PlacedContent = body_contents batch place (Commands q) in
    (elim (payload_fits nothing q) as (λ b. payload_fits nothing q ≡ b → and_then (if b then Ok (told_stand nothing (told_note q.note)) else Err (Damaged place)) go_on ≡ Ok stand → HoldsTexts stand (new ++ behind)) [
      | true ↦ λ t e. absurd (first_fits q t)
      | false ↦ λ t e. absurd cc
    ]) refl e

-- the contents that are found
last_found : (X : Type 0) (test : X → Bool) (xs : List X) (x : X) → In x xs → test x ≡ true → is_some (last_one test xs) ≡ true
unfolding last_one
last_found X test [] x i t = absurd i
last_found X test (y ∷ ys) x i t = ⊎_elim
    (λ (q : x ≡ y). (elim (last_one test ys) as (λ o. is_some (elim o as (λ z. Option X) [ Some z ↦ Some z | None ↦ if test y then Some y else None ]) ≡ true) [
      | Some z ↦ refl
      | None ↦ ap (λ b. is_some (if b then Some y else None)) (ap test (sym q) ∙ t)
    ]))
    (λ u. (elim (last_one test ys) as (λ o. is_some o ≡ true → is_some (elim o as (λ z. Option X) [ Some z ↦ Some z | None ↦ if test y then Some y else None ]) ≡ true) [
      | Some z ↦ λ h. refl
      | None ↦ λ h. absurd (false≢true h)
    ]) (last_found X test ys x u t)) i

head_is : (c : Content) (r : PlainContent) (kind object : ℕ) → has_content_head c r ≡ true → c.piece.kind ≡ kind → c.piece.object ≡ object → ((r.kind == kind) && (r.object == object)) ≡ true
unfolding has_content_head
head_is c r kind object t k o =
    let a = and_parts (r.kind == c.piece.kind) ((r.object == c.piece.object) && ((r.key_serial.0 == c.key_serial) && ((r.nonce == c.nonce) && has_length r))) t in
    let b = and_parts (r.object == c.piece.object) ((r.key_serial.0 == c.key_serial) && ((r.nonce == c.nonce) && has_length r)) a.1 in
    and_from (r.kind == kind) (r.object == object) (ap (λ n. r.kind == n) (sym k) ∙ a.0) (ap (λ n. r.object == n) (sym o) ∙ b.0)

content_found : (contents : List Content) (log : List PlainPlaced) (kind object : ℕ) → HaveRecords contents (log_contents log) → HasContent contents kind object → is_some (content_for log kind object) ≡ true
unfolding content_for
content_found contents log kind object records w =
    let p = records w.0 w.1 in
    last_found PlacedContent (λ c. (c.content.kind == kind) && (c.content.object == object)) (log_contents log) p.0 p.1 (head_is w.0 p.0.content kind object p.2 w.2 w.3)

-- each text that stands has a record
pub record HasTexts (log : List PlainPlaced) (stand : Stand) : Type 0 where
  pub folders : (e : FolderEntry) → In e stand.store.folders → is_some (content_for log 1 e.id) ≡ true
  pub files : (e : FileEntry) → In e stand.store.files → is_some (content_for log 2 e.id) ≡ true
  pub holders : (e : HolderEntry) → In e stand.store.holders → is_some (content_for log 3 e.number) ≡ true

log_texts : (p : PlainPlaced) (log : List PlainPlaced) (stand : Stand) → folded nothing (p ∷ log) ≡ Ok stand → HoldsTexts stand (log_contents (p ∷ log))
unfolding folded log_contents
log_texts p log stand e =
    first_with stand p.batch p.place p.body (log_contents log) (λ next. folded next log) (λ next placed u f. fold_texts log next stand placed u f) e

no_texts : HasTexts [] nothing
unfolding nothing no_store
no_texts = record { folders = λ e i. absurd i; files = λ e i. absurd i; holders = λ e i. absurd i }

first_stand : (stand : Stand) → folded nothing [] ≡ Ok stand → nothing ≡ stand
unfolding folded
first_stand stand f = cc

pub each_text_found : (log : List PlainPlaced) (stand : Stand) → folded nothing log ≡ Ok stand → HasTexts log stand
each_text_found [] stand f = subst (HasTexts []) (first_stand stand f) no_texts
each_text_found (p ∷ log) stand f =
    let w = log_texts p log stand f in record {
      folders = λ e i. content_found w.contents (p ∷ log) 1 e.id w.records (w.written.folders e i);
      files = λ e i. content_found w.contents (p ∷ log) 2 e.id w.records (w.written.files e i);
      holders = λ e i. content_found w.contents (p ∷ log) 3 e.number w.records (w.written.holders e i);
    }
