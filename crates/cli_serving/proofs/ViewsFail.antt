-- What the view of some batches may fail at, whoever wrote them and whatever the key.
use Rattle.std.proofs.Common.{◌≡◌, ℕ, Bool, true, false, List, [], ◌∷◌, Option, Some, None, Result, Ok, Err, subst}
use Rattle.std.specs.Prelude.{if◌then◌else◌}
use Rattle.std.specs.Str.{bytes_eq}
use Rattle.chacha_seal.specs.Sealing.{check_of, seal_tag, sealed}
use Rattle.commit_journal.specs.Answering.{Fault, NotAStore, WrongKey, Damaged, Tampered, and_then}
use Rattle.commit_journal.specs.Placed.{PlainBody, Commands, NewEpoch, PlainPlaced}
use Rattle.cry_base.specs.Stepping.{with_folder}
use Rattle.cry_base.specs.declared.client.Bundle.{Bundle}
use Rattle.cry_base.specs.declared.client.Bundle.TheVariants as bundles
use Rattle.cry_base.specs.declared.roles.Edge.{Edge}
use Rattle.cry_base.specs.declared.roles.Role.{Role}
use Rattle.cry_base.specs.declared.roles.Role.TheVariants.{Owner}
use Rattle.log_visits.specs.Folding.{folded, stand_behind}
use Rattle.log_visits.specs.Judging.{Failure, OfBytes, Unseen, holder_reads, may_read, of_bytes, opened_first, published_check, read_through, read_with, then_on, view_with, who_of}
use Rattle.log_visits.specs.Placing.{PlacedContent, PlacedLink, content_for, link_for}
use Rattle.log_visits.specs.Verdict.{open_content, open_link}
use Rattle.log_visits.specs.View.{Line, view}
use Rattle.log_visits.specs.Visiting.{Opened, Reading, is_file_text, is_folder_text, key_of, needed, visit, visit_all, visit_edge, visit_text, with_holder_key, with_key, with_name_at, with_parts, with_text_at}
use Rattle.log_visits.specs.Visits.{Visit, all_visits}
use Rattle.log_visits.specs.Visits.Visit.{ToKey, ToName, ToFile, ToHolder}
use Rattle.public_fold.specs.Fitted.{payload_fits, told_stand}
use Rattle.public_fold.specs.Journal.{Stand, nothing}
use Rattle.record_format.specs.Spelling.{content_head, link_head}
use Rattle.record_format.specs.Told.{told_note}
use Rattle.role_graph.specs.Roles.{data_of, file_role}

-- neither that there is no store, nor that a path has no line
abbrev pub IsOfBatches : Failure → Type 0
IsOfBatches (OfBytes NotAStore) = ⊥
IsOfBatches Unseen = ⊥
IsOfBatches _ = Unit {0}

-- what may fail, fails so
abbrev MayFail : {A : Type 0} → Result A Failure → Type 0
MayFail (Ok x) = Unit {0}
MayFail (Err failure) = IsOfBatches failure

abbrev MayFault : {A : Type 0} → Result A Fault → Type 0
MayFault (Ok x) = Unit {0}
MayFault (Err fault) = IsOfBatches (OfBytes fault)

may_then : (A B : Type 0) (r : Result A Fault) (go_on : A → Result B Fault) → MayFault r → ((x : A) → MayFault (go_on x)) → MayFault (and_then r go_on)
unfolding and_then
may_then A B (Ok x) go_on first more = more x
may_then A B (Err fault) go_on first more = first

may_need : (A B : Type 0) (o : Option A) (go_on : A → Result B Fault) → ((x : A) → MayFault (go_on x)) → MayFault (needed o go_on)
unfolding needed
may_need A B (Some x) go_on more = more x
may_need A B None go_on more = tt

may_choose : (A : Type 0) (b : Bool) (x : A) (fault : Fault) → IsOfBatches (OfBytes fault) → MayFault (if b then Ok x else Err fault)
may_choose A true x fault is = tt
may_choose A false x fault is = is

-- ---- the payloads are followed, up to one that doesn't fit

body_may : (at : Stand) (place : ℕ) (body : PlainBody) → MayFault (stand_behind at place body)
unfolding stand_behind
body_may at place NewEpoch = tt
body_may at place (Commands p) = may_choose Stand (payload_fits at p) (told_stand at (told_note p.note)) (Damaged place) tt

fold_may : (log : List PlainPlaced) (at : Stand) → MayFault (folded at log)
unfolding folded
fold_may [] at = tt
fold_may (p ∷ log) at = may_then Stand Stand (stand_behind at p.place p.body) (λ behind. folded behind log) (body_may at p.place p.body) (λ next. fold_may log next)

-- ---- a visit

edge_may : (r : Reading) (o : Opened) (e : Edge) → MayFault (visit_edge r o e)
unfolding visit_edge open_link with_key
edge_may r o e =
    may_need (List ℕ) Opened (key_of o.keys e.from) (λ key. needed (link_for r.stand.keys r.log e) (λ l. and_then (open_link l.batch l.at key l.link) (with_key o e.to)))
    (λ key.
    may_need PlacedLink Opened (link_for r.stand.keys r.log e) (λ l. and_then (open_link l.batch l.at key l.link) (with_key o e.to))
    (λ l.
    may_then (List ℕ) Opened (open_link l.batch l.at key l.link) (with_key o e.to)
    (may_choose (List ℕ) (bytes_eq l.link.tag (seal_tag key (link_head l.link) l.link.cipher)) (sealed key l.link.nonce l.link.cipher) (Tampered l.batch l.at) tt)
    (λ opened. tt)))

text_may : (r : Reading) (o : Opened) (role : Role) (kind object : ℕ) (go_on : ℕ → List ℕ → Result Opened Fault) → ((at : ℕ) (text : List ℕ) → MayFault (go_on at text)) → MayFault (visit_text r o role kind object go_on)
unfolding visit_text open_content
text_may r o role kind object go_on more =
    may_need (List ℕ) Opened (key_of o.keys role) (λ key. needed (content_for r.log kind object) (λ c. and_then (open_content c.batch c.at key c.content) (go_on c.at)))
    (λ key.
    may_need PlacedContent Opened (content_for r.log kind object) (λ c. and_then (open_content c.batch c.at key c.content) (go_on c.at))
    (λ c.
    may_then (List ℕ) Opened (open_content c.batch c.at key c.content) (go_on c.at)
    (may_choose (List ℕ) (bytes_eq c.content.tag (seal_tag key (content_head c.content) c.content.cipher)) (sealed key c.content.nonce c.content.cipher) (Tampered c.batch c.at) tt)
    (λ text. more c.at text)))

name_may : (o : Opened) (f at : ℕ) (text : List ℕ) → MayFault (with_name_at o f at text)
unfolding with_name_at
name_may o f at text = may_choose Opened (is_folder_text f text) (record o { store = with_folder o.store f (λ e. record e { name = text }) }) (Damaged at) tt

file_may : (o : Opened) (x at : ℕ) (text : List ℕ) → MayFault (with_text_at o x at text)
unfolding with_text_at
file_may o x at text = may_choose Opened (is_file_text text) (with_parts o x text) (Damaged at) tt

holder_may : (o : Opened) (h at : ℕ) (text : List ℕ) → MayFault (with_holder_key o h at text)
unfolding with_holder_key
holder_may o h at text = tt

visit_may : (r : Reading) (v : Visit) (o : Opened) → MayFault (visit r v o)
unfolding visit
visit_may r (ToKey e) o = edge_may r o e
visit_may r (ToName f) o = text_may r o (data_of f) 1 f (with_name_at o f) (name_may o f)
visit_may r (ToFile x) o = text_may r o (file_role x) 2 x (with_text_at o x) (file_may o x)
visit_may r (ToHolder h) o = text_may r o Owner 3 h (with_holder_key o h) (holder_may o h)

visits_may : (r : Reading) (visits : List Visit) (o : Opened) → MayFault (visit_all r visits o)
unfolding visit_all
visits_may r [] o = tt
visits_may r (v ∷ visits) o = may_then Opened Opened (visit r v o) (visit_all r visits) (visit_may r v o) (visits_may r visits)

-- ---- who reads may be nobody who was made

may_go_on : (A B : Type 0) (r : Result A Failure) (go_on : A → Result B Failure) → MayFail r → ((x : A) → MayFail (go_on x)) → MayFail (then_on r go_on)
unfolding then_on
may_go_on A B (Ok x) go_on first more = more x
may_go_on A B (Err failure) go_on first more = first

may_of_bytes : (A : Type 0) (r : Result A Fault) → MayFault r → MayFail (of_bytes r)
unfolding of_bytes
may_of_bytes A (Ok x) may = tt
may_of_bytes A (Err fault) may = may

key_may : (same : Bool) (r : Reading) → MayFail (if same then Ok r else Err (OfBytes WrongKey))
key_may true r = tt
key_may false r = tt

reads_may : (key : List ℕ) (r : Reading) (check : Option (List ℕ)) → MayFail (holder_reads key r check)
unfolding holder_reads
reads_may key r None = tt
reads_may key r (Some check) = key_may (bytes_eq check (check_of key)) r

reader_may : (bundle : Bundle) (r : Reading) → MayFail (may_read bundle r)
unfolding may_read
reader_may (bundles.Owner key) r = tt
reader_may (bundles.Holder h key) r = reads_may key r (published_check h.0 r.log)

through_may : (log : List PlainPlaced) → MayFault (read_through (Ok log))
unfolding read_through and_then
through_may log = may_then Stand Reading (folded nothing log) (λ stand. Ok (record { log = log; stand = stand })) (fold_may log nothing) (λ stand. tt)

view_may : (bundle : Bundle) (log : List PlainPlaced) → MayFail (view_with bundle (Ok log))
unfolding view_with read_with
view_may bundle log =
    may_go_on Reading (List Line) (read_with bundle (Ok log))
    (λ r. then_on (of_bytes (visit_all r (all_visits r.stand.store (who_of bundle)) (opened_first bundle r))) (λ o. Ok (view o.store (who_of bundle))))
    (may_go_on Reading Reading (of_bytes (read_through (Ok log))) (may_read bundle) (may_of_bytes Reading (read_through (Ok log)) (through_may log)) (reader_may bundle))
    (λ r.
    may_go_on Opened (List Line) (of_bytes (visit_all r (all_visits r.stand.store (who_of bundle)) (opened_first bundle r))) (λ o. Ok (view o.store (who_of bundle)))
    (may_of_bytes Opened (visit_all r (all_visits r.stand.store (who_of bundle)) (opened_first bundle r)) (visits_may r (all_visits r.stand.store (who_of bundle)) (opened_first bundle r)))
    (λ o. tt))

pub view_fails : (bundle : Bundle) (log : List PlainPlaced) (failure : Failure) → view_with bundle (Ok log) ≡ Err failure → IsOfBatches failure
view_fails bundle log failure is = subst (λ (r : Result (List Line) Failure). MayFail r) is (view_may bundle log)
