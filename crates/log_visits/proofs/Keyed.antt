-- What the visits of an owner open, where all pass: a key for each role that stands.
use Rattle.std.proofs.Common.{◌≡◌, ℕ, Bool, true, false, cond, ◌==◌, List, [], ◌∷◌, ◌++◌, map, Option, None, Some, Result, Ok, Err, inl, inr, ⊎_elim, refl, sym, ap, subst, ◌∙◌}
use Rattle.std.specs.Prelude.{IsTrue, nat_lt, filter, if◌then◌else◌}
use Rattle.std.specs.List.{flat_map}
use Rattle.std.specs.Option.{IsSome, is_some}
use Rattle.std.proofs.lemmas.Bool.{false≢true}
use Rattle.commit_journal.specs.Answering.{Fault, Damaged, and_then}
use Rattle.cry_base.specs.Clearances.{clear_number}
use Rattle.cry_base.specs.Sets.{In}
use Rattle.cry_base.specs.Stepping.{with_folder, with_file}
use Rattle.cry_base.specs.Store.{Store, FolderEntry, FileEntry, HolderEntry}
use Rattle.cry_base.specs.declared.roles.Edge.{Edge}
use Rattle.cry_base.specs.declared.roles.Role.{Role}
use Rattle.cry_base.specs.declared.roles.Role.TheVariants.{Owner, Holder, Clear, Sub, Back, Files, Data, File}
use Rattle.cry_base.proofs.Members.{In-append, In-map, In-flat_map, filter-In}
use Rattle.log_visits.specs.Opening.{is_no_holders}
use Rattle.log_visits.specs.Placing.{PlacedLink, PlacedContent, link_for, content_for}
use Rattle.log_visits.specs.Verdict.{open_link, open_content}
use Rattle.log_visits.specs.Visiting.{Reading, Opened, key_of, needed, visit, visit_all, visit_edge, visit_text, with_key, with_name_at, with_parts, with_text_at, with_holder_key, is_folder_text, is_file_text}
use Rattle.log_visits.specs.Visits.{Visit, clearance_visits, folders_that, into_file, is_entry, entry_edge, entry_file_visits, entry_folder_visits, entry_visits, lower_visits, allowed_visits, upper_visits, name_visits, files_that, file_visits, visits_to_names, all_visits, holder_visits, writing_visits}
use Rattle.log_visits.specs.Visits.Visit.{ToKey, ToName, ToFile, ToHolder}
use Rattle.move_plan.specs.Change.{folder_of_file}
use Rattle.public_fold.specs.Keyed.{HasRole}
use Rattle.role_graph.specs.Edges.{edge, file_edge, has_grants, in_order}
use Rattle.role_graph.specs.Rights.Who.{TheOwner}
use Rattle.role_graph.specs.Rights.{allowed_to, file_allowed_to, named_to}
use Rattle.role_graph.specs.RightsByReach.{HasFolder, IsClearance}
use Rattle.role_graph.specs.Roles.{clear_of, sub_of, back_of, files_of, data_of, file_role, same_role}
use Rattle.role_graph.proofs.Comparing.{same_role_tells}
use Rattle.role_graph.proofs.Edging.{In-order}

abbrev numbers_of : Opened → List ℕ
numbers_of o = map (λ (e : HolderEntry). e.number) o.store.holders

-- ---- one visit that passes

abbrev Gives : Visit → Opened → Type 0
Gives (ToKey e) o = IsSome (key_of o.keys e.to)
Gives (ToName f) o = Unit {0}
Gives (ToFile x) o = Unit {0}
Gives (ToHolder h) o = Unit {0}

-- what was open still is; the holders are the same; the link's key is open
record IsMade (v : Visit) (o behind : Opened) : Type 0 where
  kept : (role : Role) → IsSome (key_of o.keys role) → IsSome (key_of behind.keys role)
  same : numbers_of behind ≡ numbers_of o
  given : Gives v behind

found_or : (role : Role) (key : List ℕ) (keys : List (Role × List ℕ)) → IsSome (key_of keys role) → (b : Bool) → IsSome (if b then Some key else key_of keys role)
found_or role key keys some true = refl
found_or role key keys some false = some

more_keys : (o : Opened) (to : Role) (key : List ℕ) (role : Role) → IsSome (key_of o.keys role) → IsSome (key_of ((to, key) ∷ o.keys) role)
unfolding key_of
more_keys o to key role some = found_or role key o.keys some (same_role to role)

new_key : (o : Opened) (to : Role) (key : List ℕ) → IsSome (key_of ((to, key) ∷ o.keys) to)
unfolding key_of
new_key o to key = ap (λ b. is_some (if b then Some key else key_of o.keys to)) ((same_role_tells to to).1 refl)

key_made : (e : Edge) (o behind : Opened) (read : Result (List ℕ) Fault) → and_then read (with_key o e.to) ≡ Ok behind → IsMade (ToKey e) o behind
unfolding and_then with_key
key_made e o behind (Err fault) made = absurd cc
key_made e o behind (Ok key) made =
    let is : record o { keys = (e.to, key) ∷ o.keys } ≡ behind = cc in
    subst (IsMade (ToKey e) o) is (record { kept = more_keys o e.to key; same = refl; given = new_key o e.to key })

edge_made_or : (e : Edge) (o behind : Opened) (key : Option (List ℕ)) (link : Option PlacedLink) →
    needed key (λ k. needed link (λ l. and_then (open_link l.batch l.at k l.link) (with_key o e.to))) ≡ Ok behind → IsMade (ToKey e) o behind
unfolding needed
edge_made_or e o behind None link made = absurd cc
edge_made_or e o behind (Some k) None made = absurd cc
edge_made_or e o behind (Some k) (Some l) made = key_made e o behind (open_link l.batch l.at k l.link) made

text_read : (o behind : Opened) (at : ℕ) (read : Result (List ℕ) Fault) (go_on : ℕ → List ℕ → Result Opened Fault) → and_then read (go_on at) ≡ Ok behind →
    (text : List ℕ) × (go_on at text ≡ Ok behind)
unfolding and_then
text_read o behind at (Err fault) go_on made = absurd cc
text_read o behind at (Ok text) go_on made = (text, made)

text_made_or : (o behind : Opened) (key : Option (List ℕ)) (content : Option PlacedContent) (go_on : ℕ → List ℕ → Result Opened Fault) →
    needed key (λ k. needed content (λ c. and_then (open_content c.batch c.at k c.content) (go_on c.at))) ≡ Ok behind → (at : ℕ) × (text : List ℕ) × (go_on at text ≡ Ok behind)
unfolding needed
text_made_or o behind None content go_on made = absurd cc
text_made_or o behind (Some k) None go_on made = absurd cc
text_made_or o behind (Some k) (Some c) go_on made =
    let w = text_read o behind c.at (open_content c.batch c.at k c.content) go_on made in (c.at, w.0, w.1)

-- a visit that opens no key leaves those that are open
kept_with : (v : Visit) (o behind : Opened) (s : Store) → Gives v behind → map (λ (e : HolderEntry). e.number) s.holders ≡ numbers_of o → record o { store = s } ≡ behind → IsMade v o behind
kept_with v o behind s given same is = record {
  kept = λ role some. subst (λ (x : Opened). IsSome (key_of x.keys role)) is some;
  same = sym (ap numbers_of is) ∙ same;
  given = given;
}

name_made : (f at : ℕ) (text : List ℕ) (o behind : Opened) (b : Bool) → (if b then Ok (record o { store = with_folder o.store f (λ e. record e { name = text }) }) else Err (Damaged at)) ≡ Ok behind →
    IsMade (ToName f) o behind
unfolding with_folder
name_made f at text o behind true made = kept_with (ToName f) o behind (with_folder o.store f (λ e. record e { name = text })) tt refl cc
name_made f at text o behind false made = absurd cc

parts_made : (x : ℕ) (text : List ℕ) (o : Opened) → IsMade (ToFile x) o (with_parts o x text)
unfolding with_parts with_file
parts_made x [] o = record { kept = λ role some. some; same = refl; given = tt }
parts_made x (n ∷ rest) o = record { kept = λ role some. some; same = refl; given = tt }

file_made : (x at : ℕ) (text : List ℕ) (o behind : Opened) (b : Bool) → (if b then Ok (with_parts o x text) else Err (Damaged at)) ≡ Ok behind → IsMade (ToFile x) o behind
file_made x at text o behind true made = let is : with_parts o x text ≡ behind = cc in subst (IsMade (ToFile x) o) is (parts_made x text o)
file_made x at text o behind false made = absurd cc

same_number : (h : ℕ) (key : List ℕ) (e : HolderEntry) (b : Bool) → (cond b (record e { key = key }) e).number ≡ e.number
same_number h key e true = refl
same_number h key e false = refl

same_numbers : (h : ℕ) (key : List ℕ) (es : List HolderEntry) →
    map (λ (e : HolderEntry). e.number) (map (λ (e : HolderEntry). cond (e.number == h) (record e { key = key }) e) es) ≡ map (λ (e : HolderEntry). e.number) es
same_numbers h key [] = refl
same_numbers h key (e ∷ es) =
    ap (λ n. n ∷ map (λ (e : HolderEntry). e.number) (map (λ (e : HolderEntry). cond (e.number == h) (record e { key = key }) e) es)) (same_number h key e (e.number == h))
    ∙ ap (λ ns. e.number ∷ ns) (same_numbers h key es)

holder_made : (h at : ℕ) (text : List ℕ) (o behind : Opened) → with_holder_key o h at text ≡ Ok behind → IsMade (ToHolder h) o behind
unfolding with_holder_key
holder_made h at text o behind made =
    kept_with (ToHolder h) o behind (record o.store { holders = map (λ (e : HolderEntry). cond (e.number == h) (record e { key = text }) e) o.store.holders }) tt (same_numbers h text o.store.holders) cc

visit_made : (r : Reading) (v : Visit) (o behind : Opened) → visit r v o ≡ Ok behind → IsMade v o behind
unfolding visit visit_edge visit_text with_name_at with_text_at
visit_made r (ToKey e) o behind made = edge_made_or e o behind (key_of o.keys e.from) (link_for r.stand.keys r.log e) made
visit_made r (ToName f) o behind made =
    let w = text_made_or o behind (key_of o.keys (data_of f)) (content_for r.log 1 f) (with_name_at o f) made in
    name_made f w.0 w.1 o behind (is_folder_text f w.1) w.2
visit_made r (ToFile x) o behind made =
    let w = text_made_or o behind (key_of o.keys (file_role x)) (content_for r.log 2 x) (with_text_at o x) made in
    file_made x w.0 w.1 o behind (is_file_text w.1) w.2
visit_made r (ToHolder h) o behind made =
    let w = text_made_or o behind (key_of o.keys Owner) (content_for r.log 3 h) (with_holder_key o h) made in
    holder_made h w.0 w.1 o behind w.2

-- ---- all of them

record AreMade (visits : List Visit) (o behind : Opened) : Type 0 where
  kept : (role : Role) → IsSome (key_of o.keys role) → IsSome (key_of behind.keys role)
  same : numbers_of behind ≡ numbers_of o
  given : (e : Edge) → In (ToKey e) visits → IsSome (key_of behind.keys e.to)

made_first : (r : Reading) (v : Visit) (visits : List Visit) (o behind : Opened) (first : Result Opened Fault) → ((p : Opened) → first ≡ Ok p → IsMade v o p) →
    ((p : Opened) → visit_all r visits p ≡ Ok behind → AreMade visits p behind) → and_then first (visit_all r visits) ≡ Ok behind → AreMade (v ∷ visits) o behind
unfolding and_then
made_first r v visits o behind (Err fault) one rest made = absurd cc
made_first r v visits o behind (Ok p) one rest made =
    let a = one p refl in
    let b = rest p made in
    record {
      kept = λ role some. b.kept role (a.kept role some);
      same = b.same ∙ a.same;
      given = λ e i. ⊎_elim (λ (q : ToKey e ≡ v). b.kept e.to (subst (λ w. Gives w p) (sym q) a.given)) (λ j. b.given e j) i;
    }

all_made : (r : Reading) (visits : List Visit) (o behind : Opened) → visit_all r visits o ≡ Ok behind → AreMade visits o behind
unfolding visit_all
all_made r [] o behind made =
    let is : o ≡ behind = cc in
    subst (AreMade [] o) is (record { kept = λ role some. some; same = refl; given = λ e i. absurd i })
all_made r (v ∷ visits) o behind made = made_first r v visits o behind (visit r v o) (λ p is. visit_made r v o p is) (λ p is. all_made r visits p behind is) made

-- ---- the owner's

folder_listed : (s : Store) (test : ℕ → Bool) (f : ℕ) → test f ≡ true → HasFolder s f → In f (folders_that test s)
unfolding folders_that
folder_listed s test f passes has =
    let ids = map (λ (e : FolderEntry). e.id) s.folders in
    let here : In f ids = (In-map FolderEntry ℕ (λ (e : FolderEntry). e.id) f s.folders).1 (has.0, has.1, sym has.2) in
    (In-order ℕ nat_lt f (filter test ids)).1 (filter-In ℕ test f ids here passes)

in_front : (v : Visit) (a b : List Visit) → In v a → In v (a ++ b)
in_front v a b i = (In-append Visit v a b).1 (inl i)

in_back : (v : Visit) (a b : List Visit) → In v b → In v (a ++ b)
in_back v a b i = (In-append Visit v a b).1 (inr i)

-- the parts of all visits that a visit may be among
abbrev owners : Store → List Visit
owners s = all_visits s TheOwner ++ writing_visits s

named_part : (s : Store) (v : Visit) → In v (visits_to_names s TheOwner) → In v (owners s)
unfolding all_visits
named_part s v i =
    let files = file_visits s TheOwner (files_that (file_allowed_to s TheOwner) s) in
    in_front v (visits_to_names s TheOwner ++ files) (writing_visits s) (in_front v (visits_to_names s TheOwner) files i)

entry_to_names : (s : Store) (v : Visit) → In v (entry_visits s TheOwner) → In v (visits_to_names s TheOwner)
unfolding visits_to_names
entry_to_names s v i = in_front v (entry_visits s TheOwner) (lower_visits s TheOwner ++ (allowed_visits s TheOwner ++ (upper_visits s TheOwner ++ name_visits s TheOwner))) i

entry_part : (s : Store) (v : Visit) → In v (entry_visits s TheOwner) → In v (owners s)
entry_part s v i = named_part s v (entry_to_names s v i)

ways_to_names : (s : Store) (v : Visit) → In v (allowed_visits s TheOwner) → In v (visits_to_names s TheOwner)
unfolding visits_to_names
ways_to_names s v i =
    let back = upper_visits s TheOwner ++ name_visits s TheOwner in
    in_back v (entry_visits s TheOwner) (lower_visits s TheOwner ++ (allowed_visits s TheOwner ++ back))
    (in_back v (lower_visits s TheOwner) (allowed_visits s TheOwner ++ back) (in_front v (allowed_visits s TheOwner) back i))

titles_to_names : (s : Store) (v : Visit) → In v (name_visits s TheOwner) → In v (visits_to_names s TheOwner)
unfolding visits_to_names
titles_to_names s v i =
    let back = upper_visits s TheOwner ++ name_visits s TheOwner in
    in_back v (entry_visits s TheOwner) (lower_visits s TheOwner ++ (allowed_visits s TheOwner ++ back))
    (in_back v (lower_visits s TheOwner) (allowed_visits s TheOwner ++ back) (in_back v (allowed_visits s TheOwner) back (in_back v (upper_visits s TheOwner) (name_visits s TheOwner) i)))

into_folder : (s : Store) (f : ℕ) → HasFolder s f → In (ToKey (edge 1 Owner (clear_of f))) (entry_visits s TheOwner) × In (ToKey (edge 3 (clear_of f) (sub_of f))) (entry_visits s TheOwner)
unfolding entry_visits entry_folder_visits entry_edge is_entry
into_folder s f has =
    let files = entry_file_visits s TheOwner in
    let g : ℕ → List Visit = λ x. ToKey (entry_edge TheOwner x) ∷ ToKey (edge 3 (clear_of x) (sub_of x)) ∷ [] in
    let there = folder_listed s (is_entry s TheOwner) f refl has in (
      in_front (ToKey (edge 1 Owner (clear_of f))) (entry_folder_visits s TheOwner) files
          ((In-flat_map ℕ Visit g (ToKey (edge 1 Owner (clear_of f))) (folders_that (is_entry s TheOwner) s)).1 (f, there, inl refl)),
      in_front (ToKey (edge 3 (clear_of f) (sub_of f))) (entry_folder_visits s TheOwner) files
          ((In-flat_map ℕ Visit g (ToKey (edge 3 (clear_of f) (sub_of f))) (folders_that (is_entry s TheOwner) s)).1 (f, there, inr (inl refl))),
    )

on_from_folder : (s : Store) (f : ℕ) → HasFolder s f → In (ToKey (edge 4 (sub_of f) (back_of f))) (allowed_visits s TheOwner) × In (ToKey (edge 5 (sub_of f) (files_of f))) (allowed_visits s TheOwner)
unfolding allowed_visits allowed_to
on_from_folder s f has =
    let g : ℕ → List Visit = λ x. ToKey (edge 4 (sub_of x) (back_of x)) ∷ ToKey (edge 5 (sub_of x) (files_of x)) ∷ [] in
    let there = folder_listed s (allowed_to s TheOwner) f refl has in (
      (In-flat_map ℕ Visit g (ToKey (edge 4 (sub_of f) (back_of f))) (folders_that (allowed_to s TheOwner) s)).1 (f, there, inl refl),
      (In-flat_map ℕ Visit g (ToKey (edge 5 (sub_of f) (files_of f))) (folders_that (allowed_to s TheOwner) s)).1 (f, there, inr (inl refl)),
    )

to_its_name : (s : Store) (f : ℕ) → HasFolder s f → In (ToKey (edge 7 (back_of f) (data_of f))) (name_visits s TheOwner)
unfolding name_visits named_to
to_its_name s f has =
    let g : ℕ → List Visit = λ x. ToKey (edge 7 (back_of x) (data_of x)) ∷ ToName x ∷ [] in
    (In-flat_map ℕ Visit g (ToKey (edge 7 (back_of f) (data_of f))) (folders_that (named_to s TheOwner) s)).1 (f, folder_listed s (named_to s TheOwner) f refl has, inl refl)

to_its_file : (s : Store) (x : ℕ) → ((e : FileEntry) × In e s.files × (e.id ≡ x)) → In (ToKey (file_edge (folder_of_file s x) x)) (owners s)
unfolding all_visits file_visits files_that into_file allowed_to file_allowed_to
to_its_file s x has =
    let g : ℕ → List Visit = λ y. ToKey (into_file s TheOwner y) ∷ ToFile y ∷ [] in
    let test : FileEntry → Bool = file_allowed_to s TheOwner in
    let ids = map (λ (e : FileEntry). e.id) (filter test s.files) in
    let here : In x ids = (In-map FileEntry ℕ (λ (e : FileEntry). e.id) x (filter test s.files)).1 (has.0, filter-In FileEntry test has.0 s.files has.1 refl, sym has.2) in
    let there : In x (in_order nat_lt ids) = (In-order ℕ nat_lt x ids).1 here in
    let visit = ToKey (file_edge (folder_of_file s x) x) in
    let files = flat_map g (in_order nat_lt ids) in
    in_front visit (visits_to_names s TheOwner ++ files) (writing_visits s)
    (in_back visit (visits_to_names s TheOwner) files ((In-flat_map ℕ Visit g visit (in_order nat_lt ids)).1 (x, there, inl refl)))

-- a clearance is visited last
to_its_clearance : (s : Store) (c : ℕ) → IsClearance s c → In (ToKey (edge 1 Owner (clear_of c))) (owners s)
unfolding writing_visits clearance_visits files_that
to_its_clearance s c is =
    let test : FileEntry → Bool = λ e. has_grants s (clear_number e.id) in
    let go : ℕ → Visit = λ x. ToKey (edge 1 Owner (clear_of (clear_number x))) in
    let x : FileEntry = is.0.0 in
    let own : clear_number x.id ≡ c = is.0.2 in
    let ids = map (λ (e : FileEntry). e.id) (filter test s.files) in
    let passes : test x ≡ true = ap (has_grants s) own ∙ is.1 in
    let here : In x.id ids = (In-map FileEntry ℕ (λ (e : FileEntry). e.id) x.id (filter test s.files)).1 (x, filter-In FileEntry test x s.files is.0.1 passes, refl) in
    let there : In x.id (in_order nat_lt ids) = (In-order ℕ nat_lt x.id ids).1 here in
    let visit = ToKey (edge 1 Owner (clear_of c)) in
    let listed : In visit (clearance_visits s) = (In-map ℕ Visit go visit (in_order nat_lt ids)).1 (x.id, there, ap (λ n. ToKey (edge 1 Owner (clear_of n))) (sym own)) in
    in_back visit (all_visits s TheOwner) (writing_visits s) (in_back visit (holder_visits s) (clearance_visits s) listed)

role_opened : (s : Store) (o behind : Opened) (role : Role) → AreMade (owners s) o behind → IsSome (key_of o.keys Owner) → HasRole s role → IsTrue (is_no_holders role) → IsSome (key_of behind.keys role)
unfolding edge file_edge clear_of sub_of back_of files_of data_of file_role
role_opened s o behind Owner made first has told = made.kept Owner first
role_opened s o behind (Holder h) made first has told = absurd (false≢true told)
role_opened s o behind (Clear f) made first has told = made.given (edge 1 Owner (clear_of f.0)) (⊎_elim
    (λ (folder : HasFolder s f.0). entry_part s (ToKey (edge 1 Owner (clear_of f.0))) (into_folder s f.0 folder).0)
    (λ (is : IsClearance s f.0). to_its_clearance s f.0 is)
    has)
role_opened s o behind (Sub f) made first has told = made.given (edge 3 (clear_of f.0) (sub_of f.0)) (entry_part s (ToKey (edge 3 (clear_of f.0) (sub_of f.0))) (into_folder s f.0 has).1)
role_opened s o behind (Back f) made first has told =
    made.given (edge 4 (sub_of f.0) (back_of f.0)) (named_part s (ToKey (edge 4 (sub_of f.0) (back_of f.0))) (ways_to_names s (ToKey (edge 4 (sub_of f.0) (back_of f.0))) (on_from_folder s f.0 has).0))
role_opened s o behind (Files f) made first has told =
    made.given (edge 5 (sub_of f.0) (files_of f.0)) (named_part s (ToKey (edge 5 (sub_of f.0) (files_of f.0))) (ways_to_names s (ToKey (edge 5 (sub_of f.0) (files_of f.0))) (on_from_folder s f.0 has).1))
role_opened s o behind (Data f) made first has told =
    made.given (edge 7 (back_of f.0) (data_of f.0)) (named_part s (ToKey (edge 7 (back_of f.0) (data_of f.0))) (titles_to_names s (ToKey (edge 7 (back_of f.0) (data_of f.0))) (to_its_name s f.0 has)))
role_opened s o behind (File x) made first has told = made.given (file_edge (folder_of_file s x.0) x.0) (to_its_file s x.0 has)

pub each_opened : (r : Reading) (key : List ℕ) (behind : Opened) →
    visit_all r (all_visits r.stand.store TheOwner ++ writing_visits r.stand.store) (record { keys = (Owner, key) ∷ []; store = r.stand.store }) ≡ Ok behind →
    (role : Role) → HasRole r.stand.store role → IsTrue (is_no_holders role) → IsSome (key_of behind.keys role)
each_opened r key behind made role has told =
    let o : Opened = record { keys = (Owner, key) ∷ []; store = r.stand.store } in
    role_opened r.stand.store o behind role (all_made r (owners r.stand.store) o behind made) (new_key (record { keys = []; store = r.stand.store }) Owner key) has told

pub holders_stay : (r : Reading) (key : List ℕ) (behind : Opened) →
    visit_all r (all_visits r.stand.store TheOwner ++ writing_visits r.stand.store) (record { keys = (Owner, key) ∷ []; store = r.stand.store }) ≡ Ok behind →
    map (λ (e : HolderEntry). e.number) behind.store.holders ≡ map (λ (e : HolderEntry). e.number) r.stand.store.holders
holders_stay r key behind made =
    (all_made r (owners r.stand.store) (record { keys = (Owner, key) ∷ []; store = r.stand.store }) behind made).same
