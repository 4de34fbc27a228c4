-- What an owner's view has once a visit is made, and once all are.
use Rattle.std.proofs.Common.{◌≡◌, ◌≢◌, ◌⊎◌, ℕ, ◌+◌, ◌<◌, ◌≤◌, length, drop, get_or, Bool, true, false, ◌==◌, cond, List, [], ◌∷◌, ◌++◌, map, None, Some, option_map, Result, Ok, Err, inl, inr, ⊎_elim, refl, sym, ap, subst, ◌∙◌, append-nil, append_assoc}
use Rattle.std.specs.Prelude.{IfErr, OnOk}
use Rattle.std.specs.List.{AllByRecursion}
use Rattle.std.proofs.lemmas.Bool.{eqb-true, eqb-false, false≢true}
use Rattle.std.proofs.Math.ListN.{drop_of_length-le}
use Rattle.std.proofs.lemmas.List.{drop_more}
use Rattle.chacha_seal.specs.Keys.{KeyParts}
use Rattle.commit_journal.specs.Answering.{Fault, and_then}
use Rattle.commit_journal.specs.Placed.{PlainPlaced}
use Rattle.cry_base.specs.Sets.{In}
use Rattle.cry_base.specs.Store.{Store, HolderEntry}
use Rattle.cry_base.specs.declared.roles.Edge.{Edge}
use Rattle.cry_base.specs.declared.roles.Role.{Role}
use Rattle.cry_base.specs.declared.roles.Role.TheVariants.{Owner, Holder}
use Rattle.cry_base.proofs.Members.{In-map}
use Rattle.log_visits.specs.declared.fault.ClientFault.{ClientFault}
use Rattle.log_visits.specs.declared.opening.OwnersView.{OwnersView}
use Rattle.log_visits.specs.declared.visit_list.Visit.{Visit as Listed}
use Rattle.log_visits.specs.Answering.{IsFault, AnswersBy}
use Rattle.log_visits.specs.Holding.{ArePresent, HasNames, HoldsKeys, IsHeldBy, IsPresent, IsReadingIn, IsTitledBy}
use Rattle.log_visits.specs.Opening.{FailsBy, HasHolder, HasItsKind, IsFor, IsNameless, IsOpenedBy, IsOpenedTo, IsToStanding, IsVisitedTo, LeadsOn, is_no_holders, plain_visit}
use Rattle.log_visits.specs.Visiting.{Reading, Opened, visit, visit_all}
use Rattle.log_visits.specs.Visiting as opened
use Rattle.log_visits.specs.Visits.{Visit}
use Rattle.log_visits.specs.Visits.Visit.{ToKey, ToName, ToFile, ToHolder}
use Rattle.log_visits.proofs.Naming.{holders_named, nothing_named}
use Rattle.log_visits.proofs.Viewed.{fault_first}
use Rattle.key_links.specs.Ringed.{Ringed, IsAlone, found, key_of, parts_of}
use Rattle.public_fold.specs.Standing.{PublicView}
use Rattle.role_graph.specs.Roles.{role_id, same_role}
use Rattle.role_graph.proofs.Comparing.{same_role_tells}

-- ---- rings

pub same_keys : (new old : Ringed) (role : Role) → new.keys ≡ old.keys → key_of new role ≡ key_of old role
unfolding key_of
same_keys new old role same = ap (λ ks. option_map parts_of (found ks role)) same

pub on_any : {X E : Type 0} (P : Type 0) (r : Result X E) → P → OnOk r P
on_any P (Ok x) p = p
on_any P (Err e) p = tt

-- a role that is told is no holder's that isn't
other_role : (told : Role → Bool) (role : Role) (h : ℕ) → told role ≡ true → told (Holder (record { 0 = h })) ≡ false → role ≢ Holder (record { 0 = h })
other_role told role h is_told never = λ is. false≢true (sym never ∙ sym (ap told is) ∙ is_told)

role_number : (a b : ℕ) → Holder (record { 0 = a }) ≡ Holder (record { 0 = b }) → a ≡ b
unfolding role_id
role_number a b is = ap role_id is

-- the ring of one key alone has that key
alone_or : (ring : Ringed) (first : Role) (one : KeyParts) (role : Role) → IsAlone ring first one → (b : Bool) → same_role first role ≡ b →
    cond b (Some one.bytes) None ≡ option_map (λ (k : KeyParts). k.bytes) (key_of ring role)
alone_or ring first one role alone true same =
    let is : first ≡ role = (same_role_tells first role).0 same in
    sym (ap (option_map (λ (k : KeyParts). k.bytes)) (subst (λ x. key_of ring x ≡ Some one) is alone.here))
alone_or ring first one role alone false same =
    let other : role ≢ first = λ is. absurd (let t : same_role first role ≡ true = (same_role_tells first role).1 (sym is) in cc) in
    sym (ap (option_map (λ (k : KeyParts). k.bytes)) (alone.others role other))

pub alone_holds : (told : Role → Bool) (ring : Ringed) (first : Role) (one : KeyParts) → IsAlone ring first one → HoldsKeys told ring ((first, one.bytes) ∷ [])
unfolding opened.key_of
alone_holds told ring first one alone = λ role is_told. alone_or ring first one role alone (same_role first role) refl

alone_present_or : (keys : List (Role × ℕ)) (ring : Ringed) (first : Role) (one key : KeyParts) (role : Role) → IsAlone ring first one → IsPresent keys first one → key_of ring role ≡ Some key →
    (b : Bool) → same_role first role ≡ b → IsPresent keys role key
alone_present_or keys ring first one key role alone is there true same =
    let at : first ≡ role = (same_role_tells first role).0 same in
    let here : key_of ring role ≡ Some one = subst (λ x. key_of ring x ≡ Some one) at alone.here in
    let eq : one ≡ key = cc in
    subst (λ x. IsPresent keys x key) at (subst (IsPresent keys first) eq is)
alone_present_or keys ring first one key role alone is there false same =
    let other : role ≢ first = λ at. absurd (let t : same_role first role ≡ true = (same_role_tells first role).1 (sym at) in cc) in
    absurd (let none : key_of ring role ≡ None = alone.others role other in cc)

pub alone_present : (keys : List (Role × ℕ)) (ring : Ringed) (first : Role) (one : KeyParts) → IsAlone ring first one → IsPresent keys first one → ArePresent keys ring
alone_present keys ring first one alone is = λ role key there. alone_present_or keys ring first one key role alone is there (same_role first role) refl

-- ---- one visit

-- the number of a visit to a holder
abbrev number_in : Visit → ℕ
number_in (ToKey e) = 0
number_in (ToName f) = 0
number_in (ToFile x) = 0
number_in (ToHolder h) = h

visit_number : (a b : ℕ) → ToHolder a ≡ ToHolder b → a ≡ b
visit_number a b is = ap number_in is

-- another visit than that to a holder was made
still_left : (n : ℕ) (v : Visit) (left : List Visit) → (ToHolder n ≡ v → ⊥) → In (ToHolder n) (v ∷ left) → In (ToHolder n) left
still_left n v left other i = ⊎_elim (λ (q : ToHolder n ≡ v). absurd (other q)) (λ j. j) i

pub link_opened : (told : Role → Bool) (bare : Store) (e : Edge) (left : List Visit) (old new : OwnersView) (o behind : Opened) → IsFor told (ToKey e) → IsOpenedTo told bare (ToKey e ∷ left) old o →
    HoldsKeys told new.ring behind.keys → behind.store ≡ o.store → ((role : Role) → role ≢ e.to → key_of new.ring role ≡ key_of old.ring role) → new.names ≡ old.names →
    IsOpenedTo told bare left new behind
link_opened told bare e left old new o behind fit before keys same others names =
    let kept : (d : HolderEntry) → told (Holder (record { 0 = d.number })) ≡ false → HasHolder old.ring d → HasHolder new.ring d =
    λ d never has. ap (option_map (λ (k : KeyParts). k.bytes)) (others (Holder (record { 0 = d.number })) (λ q. other_role told e.to d.number fit.2 never (sym q))) ∙ has
    in
    record {
      keys = keys;
      names = subst (λ (t : _). HasNames bare t behind.store) (sym names) (subst (HasNames bare old.names) (sym same) before.names);
      holders = λ d i never. ⊎_elim (λ has. inl (kept d never has)) (λ j. inr (still_left d.number (ToKey e) left (λ q. cc) j)) (before.holders d (subst (λ (s : Store). In d s.holders) same i) never);
      standing = λ v i. before.standing v (inr i);
    }

pub link_answered : (told : Role → Bool) (bare : Store) (e : Edge) (left : List Visit) (old new : OwnersView) (o : Opened) (result : Result (Unit {0}) ClientFault) (wanted : Result Opened Fault) → IsFor told (ToKey e) →
    IsOpenedTo told bare (ToKey e ∷ left) old o → new.names ≡ old.names → OnOk result ((role : Role) → role ≢ e.to → key_of new.ring role ≡ key_of old.ring role) →
    AnswersBy (λ (x : Unit {0}) behind. HoldsKeys told new.ring behind.keys × (behind.store ≡ o.store)) result wanted → AnswersBy (λ (x : Unit {0}) behind. IsOpenedTo told bare left new behind) result wanted
link_answered told bare e left old new o (Ok u) wanted fit before names others answer = (answer.0, answer.1, link_opened told bare e left old new o answer.0 fit before answer.2.0 answer.2.1 others names)
link_answered told bare e left old new o (Err fault) wanted fit before names others answer = answer

pub title_opened : (told : Role → Bool) (bare : Store) (v : Visit) (left : List Visit) (old new : OwnersView) (o behind : Opened) → ((h : ℕ) → ToHolder h ≡ v → ⊥) → IsOpenedTo told bare (v ∷ left) old o →
    IsTitledBy bare new.names o behind → new.ring ≡ old.ring → IsOpenedTo told bare left new behind
title_opened told bare v left old new o behind other before titled ring =
    let keys : HoldsKeys told old.ring behind.keys = λ role is_told. ap (λ ks. opened.key_of ks role) titled.0 ∙ before.keys role is_told in
    let holders : (d : HolderEntry) → In d behind.store.holders → told (Holder (record { 0 = d.number })) ≡ false → HasHolder old.ring d ⊎ In (ToHolder d.number) left =
    λ d i never. ⊎_elim (λ has. inl has) (λ j. inr (still_left d.number v left (other d.number) j)) (before.holders d (subst (In d) titled.1 i) never)
    in
    record {
      keys = subst (λ (x : Ringed). HoldsKeys told x behind.keys) (sym ring) keys;
      names = titled.2;
      holders = subst (λ (x : Ringed). (d : HolderEntry) → In d behind.store.holders → told (Holder (record { 0 = d.number })) ≡ false → HasHolder x d ⊎ In (ToHolder d.number) left) (sym ring) holders;
      standing = λ w i. before.standing w (inr i);
    }

holder_or : (h : ℕ) (key : List ℕ) (left : List Visit) (old new : Ringed) (d e : HolderEntry) → HasHolder old d ⊎ In (ToHolder d.number) (ToHolder h ∷ left) →
    option_map (λ (k : KeyParts). k.bytes) (key_of new (Holder (record { 0 = h }))) ≡ Some key → ((role : Role) → role ≢ Holder (record { 0 = h }) → key_of new role ≡ key_of old role) →
    (b : Bool) → (d.number == h) ≡ b → e ≡ cond b (record d { key = key }) d → HasHolder new e ⊎ In (ToHolder e.number) left
holder_or h key left old new d e before ringed others true is e_is =
    let number : e.number ≡ h = ap (λ (x : HolderEntry). x.number) e_is ∙ eqb-true d.number h is in
    let bytes : e.key ≡ key = ap (λ (x : HolderEntry). x.key) e_is in
    inl (ap (λ n. option_map (λ (k : KeyParts). k.bytes) (key_of new (Holder (record { 0 = n })))) number ∙ ringed ∙ ap Some (sym bytes))
holder_or h key left old new d e before ringed others false is e_is =
    let other : d.number ≢ h = eqb-false d.number h is in
    let so : HasHolder new d ⊎ In (ToHolder d.number) left =
    ⊎_elim
    (λ has. inl (ap (option_map (λ (k : KeyParts). k.bytes)) (others (Holder (record { 0 = d.number })) (λ q. other (role_number d.number h q))) ∙ has))
    (λ j. inr (still_left d.number (ToHolder h) left (λ q. other (visit_number d.number h q)) j)) before
    in
    subst (λ (x : HolderEntry). HasHolder new x ⊎ In (ToHolder x.number) left) (sym e_is) so

pub holder_opened : (told : Role → Bool) (bare : Store) (h : ℕ) (left : List Visit) (old new : OwnersView) (o behind : Opened) → told (Holder (record { 0 = h })) ≡ false →
    IsOpenedTo told bare (ToHolder h ∷ left) old o → IsHeldBy new.ring old.ring h o behind → new.names ≡ old.names → IsOpenedTo told bare left new behind
holder_opened told bare h left old new o behind never before held names =
    let change : HolderEntry → HolderEntry = λ e. cond (e.number == h) (record e { key = held.key }) e in
    let holders : behind.store.holders ≡ map change o.store.holders = ap (λ (x : Opened). x.store.holders) held.stored in
    record {
      keys = λ role is_told. ap (λ (x : Opened). opened.key_of x.keys role) held.stored ∙ before.keys role is_told
          ∙ ap (option_map (λ (k : KeyParts). k.bytes)) (sym (held.others role (other_role told role h is_told never)));
      names = subst (λ (t : _). HasNames bare t behind.store) (sym names)
          (subst (HasNames bare old.names) (sym (ap (λ (x : Opened). x.store) held.stored)) (holders_named bare old.names o.store (map change o.store.holders) before.names));
      holders = λ e i apart.
          let w = (In-map HolderEntry HolderEntry change e o.store.holders).0 (subst (In e) holders i) in
          let number : e.number ≡ w.0.number = ap (λ (x : HolderEntry). x.number) w.2 ∙ same_number w.0 held.key (w.0.number == h) in
          holder_or h held.key left old.ring new.ring w.0 e (before.holders w.0 w.1 (ap (λ n. told (Holder (record { 0 = n }))) (sym number) ∙ apart)) held.ringed held.others (w.0.number == h) refl w.2;
      standing = λ v i. before.standing v (inr i);
    }
  where
    same_number : (d : HolderEntry) (key : List ℕ) (b : Bool) → (let x : HolderEntry = cond b (record d { key = key }) d in x.number) ≡ d.number
    same_number d key true = refl
    same_number d key false = refl

-- ---- all of them

pub visits_begin : (state : PublicView) (log : List PlainPlaced) (all : List Visit) (before : OwnersView) → IsVisitedTo state log all before all before
visits_begin state log all before = λ told r o fit of_log begun. (o, fit, begun, refl)

pub visits_go_on : (state : PublicView) (log : List PlainPlaced) (all left : List Visit) (v : Visit) (before old new : OwnersView) → IsVisitedTo state log all before (v ∷ left) old →
    ((told : Role → Bool) (r : Reading) (o : Opened) (rest : List Visit) → IsFor told v → IsReadingIn state log r → IsOpenedTo told r.stand.store (v ∷ rest) old o →
    AnswersBy (λ (u : Unit {0}) behind. IsOpenedTo told r.stand.store rest new behind) (Ok tt) (visit r v o)) → IsVisitedTo state log all before left new
unfolding visit_all and_then
visits_go_on state log all left v before old new so_far made = λ told r o fit of_log begun.
    let so = so_far told r o fit of_log begun in
    let next = made told r so.0 left so.1.0 of_log so.2 in
    (next.0, so.1.1, next.2, so.3 ∙ rw next.1 refl)

pub visits_fail : (state : PublicView) (log : List PlainPlaced) (all left : List Visit) (v : Visit) (before old new : OwnersView) (fault : ClientFault) → IsVisitedTo state log all before (v ∷ left) old →
    ((told : Role → Bool) (r : Reading) (o : Opened) (rest : List Visit) → IsFor told v → IsReadingIn state log r → IsOpenedTo told r.stand.store (v ∷ rest) old o → IsFault fault (visit r v o)) →
    (told : Role → Bool) (r : Reading) (o : Opened) → AllByRecursion (IsFor told) all → IsReadingIn state log r → IsOpenedTo told r.stand.store all before o → IsFault fault (visit_all r all o)
unfolding visit_all
visits_fail state log all left v before old new fault so_far failed told r o fit of_log begun =
    let so = so_far told r o fit of_log begun in
    subst (IsFault fault) (sym so.3) (fault_first fault (visit r v so.0) (visit_all r left) (failed told r so.0 left so.1.0 of_log so.2))

-- of some visits of more the rest is left
abbrev pub ArePassed : PublicView → List PlainPlaced → List Visit → OwnersView → List Visit → OwnersView → Type 0
ArePassed state log visits old rest new =
    (all left : List Visit) (first : OwnersView) → IsVisitedTo state log all first (visits ++ left) old → IsVisitedTo state log all first (rest ++ left) new

pub pass_on : (state : PublicView) (log : List PlainPlaced) (visits rest : List Visit) (v : Visit) (before old new : OwnersView) → ArePassed state log visits before (v ∷ rest) old →
    ((told : Role → Bool) (r : Reading) (o : Opened) (left : List Visit) → IsFor told v → IsReadingIn state log r → IsOpenedTo told r.stand.store (v ∷ left) old o →
    AnswersBy (λ (u : Unit {0}) behind. IsOpenedTo told r.stand.store left new behind) (Ok tt) (visit r v o)) → ArePassed state log visits before rest new
pass_on state log visits rest v before old new so_far made = λ all left first is. visits_go_on state log all (rest ++ left) v first old new (so_far all left first is) made

pub pass_fails : (state : PublicView) (log : List PlainPlaced) (visits rest : List Visit) (v : Visit) (before old new : OwnersView) (fault : ClientFault) → ArePassed state log visits before (v ∷ rest) old →
    ((told : Role → Bool) (r : Reading) (o : Opened) (left : List Visit) → IsFor told v → IsReadingIn state log r → IsOpenedTo told r.stand.store (v ∷ left) old o → IsFault fault (visit r v o)) →
    FailsBy state log visits before fault
pass_fails state log visits rest v before old new fault so_far failed =
    λ all left first is told r o fit of_log begun. visits_fail state log all (rest ++ left) v first old new fault (so_far all left first is) failed told r o fit of_log begun

pub visits_end : (state : PublicView) (log : List PlainPlaced) (all : List Visit) (before view : OwnersView) → IsVisitedTo state log all before [] view →
    (told : Role → Bool) (r : Reading) (o : Opened) → AllByRecursion (IsFor told) all → IsReadingIn state log r → IsOpenedTo told r.stand.store all before o →
    AnswersBy (λ (x : OwnersView) behind. IsOpenedTo told r.stand.store [] x behind) (Ok view) (visit_all r all o)
unfolding visit_all
visits_end state log all before view so_far told r o fit of_log begun = let so = so_far told r o fit of_log begun in (so.0, so.3, so.2)

-- two parts of them, one behind the other
pub leads_both : (state : PublicView) (log : List PlainPlaced) (one two : List Visit) (old mid new : OwnersView) → LeadsOn state log one old mid → LeadsOn state log two mid new → LeadsOn state log (one ++ two) old new
leads_both state log one two old mid new made made_too = λ all left first is.
    made_too all left first (made all (two ++ left) first (subst (λ l. IsVisitedTo state log all first l old) (append_assoc one two left) is))

pub first_fails : (state : PublicView) (log : List PlainPlaced) (one two : List Visit) (old : OwnersView) (fault : ClientFault) → FailsBy state log one old fault → FailsBy state log (one ++ two) old fault
first_fails state log one two old fault failed = λ all left first is. failed all (two ++ left) first (subst (λ l. IsVisitedTo state log all first l old) (append_assoc one two left) is)

pub second_fails : (state : PublicView) (log : List PlainPlaced) (one two : List Visit) (old mid : OwnersView) (fault : ClientFault) → LeadsOn state log one old mid → FailsBy state log two mid fault →
    FailsBy state log (one ++ two) old fault
second_fails state log one two old mid fault made failed = λ all left first is.
    failed all left first (made all (two ++ left) first (subst (λ l. IsVisitedTo state log all first l old) (append_assoc one two left) is))

pub on_ok_so : {X E : Type 0} (P Q : Type 0) (r : Result X E) → (P → Q) → OnOk r P → OnOk r Q
on_ok_so P Q (Ok x) so p = so p
on_ok_so P Q (Err e) so p = tt

pub if_err_so : {X E : Type 0} (P Q : E → Type 0) (r : Result X E) → ((e : E) → P e → Q e) → IfErr r P → IfErr r Q
if_err_so P Q (Ok x) so p = tt
if_err_so P Q (Err e) so p = so e p

-- a part of them was made, or failed
pub part_passed : (state : PublicView) (log : List PlainPlaced) (visits part rest : List Visit) (before old new : OwnersView) → ArePassed state log visits before (part ++ rest) old →
    LeadsOn state log part old new → ArePassed state log visits before rest new
part_passed state log visits part rest before old new so_far made = λ all left first is.
    made all (rest ++ left) first (subst (λ l. IsVisitedTo state log all first l old) (append_assoc part rest left) (so_far all left first is))

pub part_fails : (state : PublicView) (log : List PlainPlaced) (visits part rest : List Visit) (before old : OwnersView) (fault : ClientFault) → ArePassed state log visits before (part ++ rest) old →
    FailsBy state log part old fault → FailsBy state log visits before fault
part_fails state log visits part rest before old fault so_far failed = λ all left first is.
    failed all (rest ++ left) first (subst (λ l. IsVisitedTo state log all first l old) (append_assoc part rest left) (so_far all left first is))

-- where these visits are all
pub alone_visited : (state : PublicView) (log : List PlainPlaced) (visits : List Visit) (before view : OwnersView) → LeadsOn state log visits before view →
    (told : Role → Bool) (r : Reading) (o : Opened) → AllByRecursion (IsFor told) visits → IsReadingIn state log r → IsOpenedTo told r.stand.store visits before o →
    AnswersBy (λ (x : OwnersView) behind. IsOpenedTo told r.stand.store [] x behind) (Ok view) (visit_all r visits o)
alone_visited state log visits before view made =
    visits_end state log visits before view
    (made visits [] before (subst (λ l. IsVisitedTo state log visits before l before) (sym (append-nil visits)) (visits_begin state log visits before)))

pub alone_fails : (state : PublicView) (log : List PlainPlaced) (visits : List Visit) (before : OwnersView) (fault : ClientFault) → FailsBy state log visits before fault →
    (told : Role → Bool) (r : Reading) (o : Opened) → AllByRecursion (IsFor told) visits → IsReadingIn state log r → IsOpenedTo told r.stand.store visits before o → IsFault fault (visit_all r visits o)
alone_fails state log visits before fault failed =
    failed visits [] before (subst (λ l. IsVisitedTo state log visits before l before) (sym (append-nil visits)) (visits_begin state log visits before))

-- no visit is left
all_opened : (bare : Store) (view : OwnersView) (o : Opened) → IsOpenedTo is_no_holders bare [] view o → IsOpenedBy bare view o
all_opened bare view o is = record {
  keys = is.keys;
  names = is.names;
  holders = λ e i. ⊎_elim (λ has. has) (λ j. absurd j) (is.holders e i refl);
}

pub answered : (bare : Store) (result : Result OwnersView ClientFault) (wanted : Result Opened Fault) → AnswersBy (λ (x : OwnersView) behind. IsOpenedTo is_no_holders bare [] x behind) result wanted →
    AnswersBy (λ (x : OwnersView) behind. IsOpenedBy bare x behind) result wanted
answered bare (Ok view) wanted so = (so.0, so.1, all_opened bare view so.0 so.2)
answered bare (Err fault) wanted so = so

-- before the first visit
pub opening_begins : (bare : Store) (visits : List Visit) (view : OwnersView) (owner : KeyParts) → IsNameless bare → IsAlone view.ring Owner owner → view.names.folders ≡ [] → view.names.files ≡ [] →
    ((e : HolderEntry) → In e bare.holders → In (ToHolder e.number) visits) → ((v : Visit) → In v visits → IsToStanding bare v) →
    IsOpenedTo is_no_holders bare visits view (record { keys = (Owner, owner.bytes) ∷ []; store = bare })
opening_begins bare visits view owner less alone no_folders no_files visited standing = record {
  keys = alone_holds is_no_holders view.ring Owner owner alone;
  names = nothing_named bare view.names less no_folders no_files;
  holders = λ e i never. inr (visited e i);
  standing = standing;
}

-- an answer that stands for one thing stands for what that implies
pub answers_for : {X Y : Type 0} (P Q : X → Y → Type 0) (result : Result X ClientFault) (wanted : Result Y Fault) → ((x : X) (y : Y) → P x y → Q x y) → AnswersBy P result wanted → AnswersBy Q result wanted
answers_for P Q (Ok x) wanted so answer = (answer.0, answer.1, so x answer.0 answer.2)
answers_for P Q (Err fault) wanted so answer = answer

pub no_name : (h f : ℕ) → ToHolder h ≡ ToName f → ⊥
no_name h f is = cc

pub no_file : (h x : ℕ) → ToHolder h ≡ ToFile x → ⊥
no_file h x is = cc

-- ---- the rest of a list of visits from an index on

pub visits_from : (visits : List Listed) (i : ℕ) (d : Listed) → i < length visits → map plain_visit (drop i visits) ≡ plain_visit (get_or visits i d) ∷ map plain_visit (drop (i + 1) visits)
visits_from visits i d within = ap (map plain_visit) (drop_more visits i d within)

pub visits_behind : (visits : List Listed) (i : ℕ) → length visits ≤ i → map plain_visit (drop i visits) ≡ []
visits_behind visits i past = ap (map plain_visit) (drop_of_length-le visits past)

-- ---- kinds

for_kind : (told : Role → Bool) (v : Visit) → IsFor told v → HasItsKind v
for_kind told (ToKey e) fit = fit.0
for_kind told (ToName f) fit = tt
for_kind told (ToFile x) fit = tt
for_kind told (ToHolder h) fit = tt

pub for_kinds : (told : Role → Bool) (vs : List Visit) → AllByRecursion (IsFor told) vs → AllByRecursion HasItsKind vs
for_kinds told [] fit = tt
for_kinds told (v ∷ vs) fit = (for_kind told v fit.0, for_kinds told vs fit.1)
