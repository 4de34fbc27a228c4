-- Visits of a log that folds fail at a record that is there, or not at all.
use Rattle.std.proofs.Common.{◌≡◌, ⊎_elim, inl, inr, ◌⊎◌, ℕ, Bool, true, false, cond, ◌==◌, ◌&&◌, List, [], ◌∷◌, ◌++◌, map, Option, Some, None, Result, Ok, Err, refl, sym, ap, subst, ◌∙◌}
use Rattle.std.specs.Prelude.{IsSome, if◌then◌else◌, is_some, nat_lt}
use Rattle.std.specs.Str.{bytes_eq}
use Rattle.chacha_seal.specs.Sealing.{seal_tag, sealed}
use Rattle.commit_journal.specs.Answering.{Fault, Damaged, Tampered, and_then}
use Rattle.commit_journal.specs.Placed.{PlainPlaced}
use Rattle.cry_base.specs.Clearances.{clear_number}
use Rattle.cry_base.specs.Sets.{In}
use Rattle.cry_base.specs.Stepping.{with_folder}
use Rattle.cry_base.specs.Store.{HolderEntry}
use Rattle.cry_base.specs.declared.client.Bundle.{Bundle}
use Rattle.cry_base.specs.declared.roles.Edge.{Edge}
use Rattle.cry_base.specs.declared.roles.Role.{Role}
use Rattle.cry_base.specs.declared.roles.Role.TheVariants.{Owner}
use Rattle.cry_base.proofs.Members.{In-append, In-map}
use Rattle.log_visits.specs.Folding.{folded}
use Rattle.log_visits.specs.Judging.{opened_first, who_of}
use Rattle.log_visits.specs.Opening.{IsToStanding}
use Rattle.log_visits.specs.Placing.{PlacedContent, PlacedLink, content_for, is_for_edge, last_one, link_for, log_contents, log_links}
use Rattle.log_visits.specs.Verdict.{open_content, open_link}
use Rattle.log_visits.specs.Visiting.{Opened, Reading, is_file_text, is_folder_text, key_of, needed, visit, visit_all, visit_edge, visit_text, with_holder_key, with_key, with_name_at, with_parts, with_text_at}
use Rattle.log_visits.specs.Visits.{Visit, all_visits, clearance_visits, file_visits, files_that, holder_visits, visits_to_names, writing_visits}
use Rattle.log_visits.specs.Visits.Visit.{ToKey, ToName, ToFile, ToHolder}
use Rattle.log_visits.proofs.FoldedHolds.{each_edge_found}
use Rattle.log_visits.proofs.Following.{link_decides, the_one}
use Rattle.record_format.specs.Spelling.{content_head, link_head}
use Rattle.role_graph.specs.Edges.{IsEdge, edge, has_grants, in_order}
use Rattle.role_graph.specs.Rights.Who.{TheOwner}
use Rattle.role_graph.specs.Roles.{clear_of, data_of, file_role}
use Rattle.role_graph.proofs.Edging.{edges_told}
use Rattle.role_graph.proofs.Granting.{file_allowed_to_told}
use Rattle.public_fold.specs.Journal.{Stand, nothing}
use Rattle.journal_bytes.proofs.OwnerVisits.{all_stay, edge_open, new_open}
use Rattle.reader_laws.specs.Failing.{IsOfRecord}
use Rattle.reader_laws.specs.Reading.{AreAllowed}
use Rattle.log_visits.proofs.Ordered.{AreOrdered, CanVisit, LeadsTo, OneLeadsTo, can_more, ordered_both}
use Rattle.reader_laws.proofs.Readable.{fold_shape, fold_stands}
use Rattle.log_visits.proofs.ReaderVisits.{AreFilesIn, AtFirst, Named, all_ordered, files_ordered, names_ordered, owners_stand}
use Rattle.reader_laws.proofs.Readers.{first_open}
use Rattle.log_visits.proofs.Rights.{HasShape}
use Rattle.reader_laws.proofs.Written.{HasTexts, each_text_found}

-- what is found stands in the list
last_in : (X : Type 0) (test : X → Bool) (xs : List X) (y : X) → last_one test xs ≡ Some y → In y xs
unfolding last_one
last_in X test [] y e = absurd cc
last_in X test (x ∷ xs) y e =
    (elim (last_one test xs) as (λ o. last_one test xs ≡ o → elim o as (λ z. Option X) [ Some z ↦ Some z | None ↦ if test x then Some x else None ] ≡ Some y → In y (x ∷ xs)) [
      | Some z ↦ λ q f. inr (last_in X test xs y (q ∙ f))
      | None ↦ λ q f. inl (first_in (test x) f)
    ]) refl e
  where
    first_in : (b : Bool) → (if b then Some x else None) ≡ Some y → y ≡ x
    first_in true f = cc
    first_in false f = absurd cc

same_err : (A : Type 0) (x y : Fault) → (let r : Result A Fault = Err x in r) ≡ Err y → y ≡ x
same_err A x y e = cc

ok_err : (A : Type 0) (x : A) (y : Fault) → (let r : Result A Fault = Ok x in r) ≡ Err y → ⊥
ok_err A x y e = cc

-- ---- one record

link_fault : (b : Bool) (batch at : ℕ) (key : List ℕ) (o : Opened) (to : Role) (fault : Fault) → and_then (if b then Ok key else Err (Tampered batch at)) (with_key o to) ≡ Err fault → fault ≡ Tampered batch at
unfolding and_then with_key
link_fault true batch at key o to fault e = absurd (ok_err Opened (record o { keys = (to, key) ∷ o.keys }) fault e)
link_fault false batch at key o to fault e = same_err Opened (Tampered batch at) fault e

-- what goes on with a text fails at the text's place alone
abbrev FailsAt : (ℕ → List ℕ → Result Opened Fault) → Type 0
FailsAt go_on = (at : ℕ) (text : List ℕ) (fault : Fault) → go_on at text ≡ Err fault → fault ≡ Damaged at

text_fault : (b : Bool) (batch at : ℕ) (text : List ℕ) (go_on : ℕ → List ℕ → Result Opened Fault) (fault : Fault) → FailsAt go_on → and_then (if b then Ok text else Err (Tampered batch at)) (go_on at) ≡ Err fault
    → (fault ≡ Tampered batch at) ⊎ (fault ≡ Damaged at)
unfolding and_then
text_fault true batch at text go_on fault fails e = inr (fails at text fault e)
text_fault false batch at text go_on fault fails e = inl (same_err Opened (Tampered batch at) fault e)

if_fails : (b : Bool) (o : Opened) (at : ℕ) (fault : Fault) → (if b then Ok o else Err (Damaged at)) ≡ Err fault → fault ≡ Damaged at
if_fails true o at fault e = absurd (ok_err Opened o fault e)
if_fails false o at fault e = same_err Opened (Damaged at) fault e

name_fails : (o : Opened) (f : ℕ) → FailsAt (with_name_at o f)
unfolding with_name_at
name_fails o f at text fault e = if_fails (is_folder_text f text) (record o { store = with_folder o.store f (λ d. record d { name = text }) }) at fault e

file_fails : (o : Opened) (x : ℕ) → FailsAt (with_text_at o x)
unfolding with_text_at
file_fails o x at text fault e = if_fails (is_file_text text) (with_parts o x text) at fault e

holder_fails : (o : Opened) (h : ℕ) → FailsAt (with_holder_key o h)
unfolding with_holder_key
holder_fails o h at text fault e =
    absurd (ok_err Opened (record o { store = record o.store { holders = map (λ (d : HolderEntry). cond (d.number == h) (record d { key = text }) d) o.store.holders } }) fault e)

module _ (log : List PlainPlaced) (stand : Stand) (folds : folded nothing log ≡ Ok stand) where
  abbrev reading : Reading
  reading = record { log = log; stand = stand }

  edge_fault : (o : Opened) (e : Edge) (fault : Fault) → IsEdge stand.store e → IsSome (key_of o.keys e.from) → visit_edge reading o e ≡ Err fault → IsOfRecord log fault
  unfolding open_link
  edge_fault o e fault stands has failed =
      let key = the_one (key_of o.keys e.from) has in
      let link = the_one (link_for stand.keys log e) (each_edge_found log stand folds e ((edges_told stand.store e).1 stands)) in
      let l : PlacedLink = link.0 in
      let there : In l (log_links log) = unfold link_for in last_in PlacedLink (is_for_edge stand.keys e) (log_links log) l link.1 in
      inl (l, there, link_fault (bytes_eq l.link.tag (seal_tag key.0 (link_head l.link) l.link.cipher)) l.batch l.at (sealed key.0 l.link.nonce l.link.cipher) o e.to fault (sym (link_decides reading o e key.0 l key.1 link.1) ∙ failed))

  text_decided : (o : Opened) (role : Role) (kind object : ℕ) (go_on : ℕ → List ℕ → Result Opened Fault) (key : List ℕ) (c : PlacedContent) → key_of o.keys role ≡ Some key → content_for log kind object ≡ Some c
      → visit_text reading o role kind object go_on ≡ and_then (open_content c.batch c.at key c.content) (go_on c.at)
  unfolding visit_text needed
  text_decided o role kind object go_on key c k_is c_is = rw (k_is, c_is) refl

  text_failed : (o : Opened) (role : Role) (kind object : ℕ) (go_on : ℕ → List ℕ → Result Opened Fault) (fault : Fault) → FailsAt go_on → is_some (content_for log kind object) ≡ true → IsSome (key_of o.keys role)
      → visit_text reading o role kind object go_on ≡ Err fault → IsOfRecord log fault
  unfolding open_content content_for
  text_failed o role kind object go_on fault fails some has failed =
      let key = the_one (key_of o.keys role) has in
      let content = the_one (content_for log kind object) some in
      let c : PlacedContent = content.0 in
      let there : In c (log_contents log) = last_in PlacedContent (λ d. (d.content.kind == kind) && (d.content.object == object)) (log_contents log) c content.1 in
      inr (
        c,
        there,
        text_fault (bytes_eq c.content.tag (seal_tag key.0 (content_head c.content) c.content.cipher)) c.batch c.at (sealed key.0 c.content.nonce c.content.cipher) go_on fault fails
            (sym (text_decided o role kind object go_on key.0 c key.1 content.1) ∙ failed),
      )

  texts : HasTexts log stand
  texts = each_text_found log stand folds

  visit_fault : (o : Opened) (v : Visit) (fault : Fault) → CanVisit stand.store (λ role. IsSome (key_of o.keys role)) v → visit reading v o ≡ Err fault → IsOfRecord log fault
  unfolding visit
  visit_fault o (ToKey e) fault can failed = edge_fault o e fault can.0 can.1 failed
  visit_fault o (ToName f) fault can failed =
      text_failed o (data_of f) 1 f (with_name_at o f) fault (name_fails o f) (subst (λ n. is_some (content_for log 1 n) ≡ true) can.0.2 (texts.folders can.0.0 can.0.1)) can.1 failed
  visit_fault o (ToFile x) fault can failed =
      text_failed o (file_role x) 2 x (with_text_at o x) fault (file_fails o x) (subst (λ n. is_some (content_for log 2 n) ≡ true) can.0.2 (texts.files can.0.0 can.0.1)) can.1 failed
  visit_fault o (ToHolder h) fault can failed =
      text_failed o Owner 3 h (with_holder_key o h) fault (holder_fails o h) (subst (λ n. is_some (content_for log 3 n) ≡ true) can.0.2 (texts.holders can.0.0 can.0.1)) can.1 failed

  one_visit : (o after : Opened) (v : Visit) → visit reading v o ≡ Ok after → visit_all reading (v ∷ []) o ≡ Ok after
  unfolding visit_all and_then
  one_visit o after v done = ap (λ z. and_then z (visit_all reading [])) done

  is_led : (o after : Opened) (v : Visit) (role : Role) → visit_all reading (v ∷ []) o ≡ Ok after → LeadsTo v role → IsSome (key_of after.keys role)
  is_led o after (ToKey e) role done leads = subst (λ z. IsSome (key_of after.keys z)) (sym leads) (edge_open reading (ToKey e ∷ []) o after e done (inl refl))
  is_led o after (ToName f) role done leads = absurd leads
  is_led o after (ToFile x) role done leads = absurd leads
  is_led o after (ToHolder h) role done leads = absurd leads

  -- the first visit that fails does so at a record
  ordered_fault : (vs : List Visit) (is_open : Role → Type 0) (o : Opened) (fault : Fault) → ((role : Role) → is_open role → IsSome (key_of o.keys role)) → AreOrdered stand.store is_open vs
      → visit_all reading vs o ≡ Err fault → IsOfRecord log fault
  unfolding visit_all and_then
  ordered_fault [] is_open o fault cover ordered failed = absurd (ok_err Opened o fault failed)
  ordered_fault (v ∷ vs) is_open o fault cover ordered failed =
      (elim (visit reading v o) as (λ z. visit reading v o ≡ z → and_then z (visit_all reading vs) ≡ Err fault → IsOfRecord log fault) [
        | Ok after ↦ λ q e.
            let one = one_visit o after v q in
            ordered_fault vs (λ role. is_open role ⊎ LeadsTo v role) after fault
            (λ role. ⊎_elim (λ p. all_stay reading (v ∷ []) o after role one (cover role p)) (λ l. is_led o after v role one l)) ordered.1 e
        | Err first ↦ λ q e.
            visit_fault o v fault (can_more stand.store is_open (λ role. IsSome (key_of o.keys role)) cover v ordered.0) (q ∙ ap (λ z. Err z) (sym (same_err Opened first fault e)))
      ]) refl failed

  shape : HasShape stand.store
  shape = fold_shape log stand folds

  pub names_fault : (bundle : Bundle) (fault : Fault) → visit_all reading (visits_to_names stand.store (who_of bundle)) (opened_first bundle reading) ≡ Err fault → IsOfRecord log fault
  names_fault bundle fault failed =
      ordered_fault (visits_to_names stand.store (who_of bundle)) (AtFirst (who_of bundle)) (opened_first bundle reading) fault (first_open bundle reading) (names_ordered stand.store (who_of bundle) shape) failed

  pub all_fault : (bundle : Bundle) (fault : Fault) → visit_all reading (all_visits stand.store (who_of bundle)) (opened_first bundle reading) ≡ Err fault → IsOfRecord log fault
  all_fault bundle fault failed =
      ordered_fault (all_visits stand.store (who_of bundle)) (AtFirst (who_of bundle)) (opened_first bundle reading) fault (first_open bundle reading) (all_ordered stand.store (who_of bundle) shape) failed

  named_open : (bundle : Bundle) (named : Opened) → visit_all reading (visits_to_names stand.store (who_of bundle)) (opened_first bundle reading) ≡ Ok named → (role : Role) → Named stand.store (who_of bundle) shape role → IsSome (key_of named.keys role)
  named_open bundle named done role = ⊎_elim
      (λ at. all_stay reading (visits_to_names stand.store (who_of bundle)) (opened_first bundle reading) named role done (first_open bundle reading role at))
      (λ w. subst (λ z. IsSome (key_of named.keys z)) w.2 (edge_open reading (visits_to_names stand.store (who_of bundle)) (opened_first bundle reading) named w.0 done w.1))

  pub files_fault : (bundle : Bundle) (xs : List ℕ) (named : Opened) (fault : Fault) → AreAllowed stand.store (who_of bundle) xs
      → visit_all reading (visits_to_names stand.store (who_of bundle)) (opened_first bundle reading) ≡ Ok named → visit_all reading (file_visits stand.store (who_of bundle) xs) named ≡ Err fault → IsOfRecord log fault
  files_fault bundle xs named fault are done failed =
      let within : AreFilesIn stand.store (who_of bundle) xs = λ x i. let w = are x i in (w.0, w.1, w.2, (file_allowed_to_told stand.store (who_of bundle) w.0).1 w.3) in
      ordered_fault (file_visits stand.store (who_of bundle) xs) (Named stand.store (who_of bundle) shape) named fault (named_open bundle named done) (files_ordered stand.store (who_of bundle) shape xs within) failed

  -- visits of which each has its key from before
  each_ordered : (is_open : Role → Type 0) (vs : List Visit) → ((v : Visit) → In v vs → CanVisit stand.store is_open v) → AreOrdered stand.store is_open vs
  each_ordered is_open [] can = tt
  each_ordered is_open (v ∷ vs) can =
      let now : Role → Type 0 = λ role. is_open role ⊎ LeadsTo v role in
      (can v (inl refl), each_ordered now vs (λ w i. can_more stand.store is_open now (λ role p. inl p) w (can w (inr i))))

  -- the owner who opens for writing visits the holders' keys too, and the Clearances of files
  writing_can : (is_open : Role → Type 0) → is_open Owner → (v : Visit) → In v (writing_visits stand.store) → CanVisit stand.store is_open v
  unfolding writing_visits holder_visits clearance_visits edge
  writing_can is_open has v i =
      let stands : IsToStanding stand.store v = owners_stand stand.store (fold_stands log stand folds) v ((In-append Visit v (all_visits stand.store TheOwner) (writing_visits stand.store)).1 (inr i)) in
      let clearance : ℕ → Visit = λ x. ToKey (edge 1 Owner (clear_of (clear_number x))) in
      ⊎_elim
      (λ j. let w = (In-map ℕ Visit ToHolder v (in_order nat_lt (map (λ (e : HolderEntry). e.number) stand.store.holders))).0 j in
      subst (CanVisit stand.store is_open) (sym w.2) (subst (IsToStanding stand.store) w.2 stands, has))
      (λ j. let w = (In-map ℕ Visit clearance v (files_that (λ e. has_grants stand.store (clear_number e.id)) stand.store)).0 j in
      subst (CanVisit stand.store is_open) (sym w.2) (subst (IsToStanding stand.store) w.2 stands, has))
      ((In-append Visit v (holder_visits stand.store) (clearance_visits stand.store)).0 i)

  owner_ordered : AreOrdered stand.store (AtFirst TheOwner) (all_visits stand.store TheOwner ++ writing_visits stand.store)
  owner_ordered =
      let now : Role → Type 0 = λ role. AtFirst TheOwner role ⊎ OneLeadsTo (all_visits stand.store TheOwner) role in
      ordered_both stand.store (AtFirst TheOwner) (all_visits stand.store TheOwner) (writing_visits stand.store) (all_ordered stand.store TheOwner shape)
      (each_ordered now (writing_visits stand.store) (writing_can now (inl refl)))

  pub owner_fault : (key : List ℕ) (fault : Fault) → visit_all reading (all_visits stand.store TheOwner ++ writing_visits stand.store) (record { keys = (Owner, key) ∷ []; store = stand.store }) ≡ Err fault → IsOfRecord log fault
  owner_fault key fault failed =
      ordered_fault (all_visits stand.store TheOwner ++ writing_visits stand.store) (AtFirst TheOwner) (record { keys = (Owner, key) ∷ []; store = stand.store }) fault
      (λ role at. subst (λ z. IsSome (key_of ((Owner, key) ∷ []) z)) (sym at) (new_open [] Owner key)) owner_ordered failed
