-- What an owner opens of a store, as code lists and keeps it. This project's own, docs/FORMAT.md, "Opening for writing".
use Rattle.std.specs.Prelude.{◌≡◌, ◌⊎◌, Bool, true, false, IsTrue, List, [], ◌++◌, Some, Result, Ok, Err, map, option_map}
use Rattle.std.specs.List.{AllByRecursion, flat_map}
use Rattle.commit_journal.specs.Answering.{Fault}
use Rattle.commit_journal.specs.Placed.{PlainPlaced}
use Rattle.cry_base.specs.Sets.{In}
use Rattle.cry_base.specs.Store.{Store, FolderEntry, FileEntry, HolderEntry}
use Rattle.cry_base.specs.declared.roles.Role.{Role}
use Rattle.cry_base.specs.declared.roles.Role.TheVariants.{Owner, Holder, Clear, Sub, Back, Files, Data, File}
use Rattle.folder_nodes.specs.declared.rows.FileRow.{FileRow}
use Rattle.log_visits.specs.declared.fault.ClientFault.{ClientFault}
use Rattle.log_visits.specs.declared.opening.OwnersView.{OwnersView}
use Rattle.log_visits.specs.declared.sights.Viewer.{Viewer}
use Rattle.log_visits.specs.declared.sights.Viewer.TheVariants as viewers
use Rattle.log_visits.specs.declared.visit_list.OwnerVisits.{OwnerVisits}
use Rattle.log_visits.specs.declared.visit_list.Visit.{Visit as Listed}
use Rattle.log_visits.specs.declared.visit_list.Visit.TheVariants as listed
use Rattle.log_visits.specs.Answering.{IsFault}
use Rattle.log_visits.specs.Asking.{OpenStore}
use Rattle.log_visits.specs.Holding.{HasKind, HasNames, HoldsKeys, IsReadingIn}
use Rattle.log_visits.specs.Judging.{Failure, OfBytes}
use Rattle.log_visits.specs.Listing.{file_part}
use Rattle.log_visits.specs.Visiting.{Reading, Opened, visit_all}
use Rattle.log_visits.specs.Visits.{Visit}
use Rattle.log_visits.specs.Visits.Visit.{ToKey, ToName, ToFile, ToHolder}
use Rattle.key_links.specs.Ringed.{Ringed, key_of}
use Rattle.public_fold.specs.Standing.{PublicView}
use Rattle.role_graph.specs.Edges.{IsEdge}
use Rattle.role_graph.specs.RightsByReach.{HasFolder}
use Rattle.role_graph.specs.Roles.{data_of, file_role}

-- a visit that code lists
abbrev pub plain_visit : Listed → Visit
plain_visit (listed.Link e) = ToKey e
plain_visit (listed.Name f) = ToName f.0
plain_visit (listed.Bytes x) = ToFile x.0
plain_visit (listed.Key h) = ToHolder h.0

-- the role isn't a holder's
abbrev pub is_no_holders : Role → Bool
is_no_holders Owner = true
is_no_holders (Holder h) = false
is_no_holders (Clear f) = true
is_no_holders (Sub f) = true
is_no_holders (Back f) = true
is_no_holders (Files f) = true
is_no_holders (Data f) = true
is_no_holders (File x) = true

-- the visits to files, by their rows
abbrev pub file_row_visits : List FileRow → List Visit
file_row_visits rows = map plain_visit (flat_map (λ (r : FileRow). file_part r.folder r.id) rows)

-- all that an owner visits: up to the names of folders, the files, the holders' keys
abbrev pub owner_list : OwnerVisits → List FileRow → List Visit
owner_list l rows = map plain_visit l.names.items ++ (file_row_visits rows ++ map plain_visit l.keys.items)

-- every role is told that isn't a holder's, and that of a holder who reads
abbrev pub Tells : (Role → Bool) → Viewer → Type 0
Tells told viewers.Owner = (role : Role) → IsTrue (is_no_holders role) → IsTrue (told role)
Tells told (viewers.Holder h) = ((role : Role) → IsTrue (is_no_holders role) → IsTrue (told role)) × IsTrue (told (Holder h))

-- a link is one of the eleven kinds
abbrev pub HasItsKind : Visit → Type 0
HasItsKind (ToKey e) = HasKind e
HasItsKind (ToName f) = Unit {0}
HasItsKind (ToFile x) = Unit {0}
HasItsKind (ToHolder h) = Unit {0}

-- the visit is a link of one of the eleven kinds between roles that are told, or a text under such a role; a holder's key that is
-- visited isn't told
abbrev pub IsFor : (Role → Bool) → Visit → Type 0
IsFor told (ToKey e) = HasKind e × IsTrue (told e.from) × IsTrue (told e.to)
IsFor told (ToName f) = IsTrue (told (data_of f))
IsFor told (ToFile x) = IsTrue (told (file_role x))
IsFor told (ToHolder h) = IsTrue (told Owner) × (told (Holder (record { 0 = h })) ≡ false)

-- the ring has the holder's key
abbrev pub HasHolder : Ringed → HolderEntry → Type 0
HasHolder ring e = option_map (λ k. k.bytes) (key_of ring (Holder (record { 0 = e.number }))) ≡ Some e.key

-- the visit is to something that stands
abbrev pub IsToStanding : Store → Visit → Type 0
IsToStanding s (ToKey e) = IsEdge s e
IsToStanding s (ToName f) = HasFolder s f
IsToStanding s (ToFile x) = (e : FileEntry) × In e s.files × (e.id ≡ x)
IsToStanding s (ToHolder h) = (e : HolderEntry) × In e s.holders × (e.number ≡ h)

-- the ring has the keys that were opened of the roles that are told; the names are those opened; of the other holders the ring has the
-- key, or a visit is left; the visits that are left are to what stands
pub record IsOpenedTo (told : Role → Bool) (bare : Store) (left : List Visit) (view : OwnersView) (o : Opened) : Type 0 where
  pub keys : HoldsKeys told view.ring o.keys
  pub names : HasNames bare view.names o.store
  pub holders : (e : HolderEntry) → In e o.store.holders → told (Holder (record { 0 = e.number })) ≡ false → HasHolder view.ring e
      ⊎ In (ToHolder e.number) left
  pub standing : (v : Visit) → In v left → IsToStanding bare v

-- the ring has exactly the keys that were opened, and the key of each holder; the names and bytes are those opened
pub record IsOpenedBy (bare : Store) (view : OwnersView) (o : Opened) : Type 0 where
  pub keys : HoldsKeys is_no_holders view.ring o.keys
  pub names : HasNames bare view.names o.store
  pub holders : (e : HolderEntry) → In e o.store.holders → HasHolder view.ring e

-- of what was to be visited the rest is left
abbrev pub IsVisitedTo : PublicView → List PlainPlaced → List Visit → OwnersView → List Visit → OwnersView → Type 0
IsVisitedTo state log all before left view =
    (told : Role → Bool) (r : Reading) (o : Opened) → AllByRecursion (IsFor told) all → IsReadingIn state log r →
    IsOpenedTo told r.stand.store all before o →
    (p : Opened) × AllByRecursion (IsFor told) left × IsOpenedTo told r.stand.store left view p × (visit_all r all o ≡ visit_all r left p)

-- these visits were made, whatever was to be visited before and behind them
abbrev pub LeadsOn : PublicView → List PlainPlaced → List Visit → OwnersView → OwnersView → Type 0
LeadsOn state log visits old new =
    (all left : List Visit) (first : OwnersView) → IsVisitedTo state log all first (visits ++ left) old →
    IsVisitedTo state log all first left new

-- one of these visits fails so, whatever was to be visited before and behind them
abbrev pub FailsBy : PublicView → List PlainPlaced → List Visit → OwnersView → ClientFault → Type 0
FailsBy state log visits old fault =
    (all left : List Visit) (first : OwnersView) → IsVisitedTo state log all first (visits ++ left) old →
    (told : Role → Bool) (r : Reading) (o : Opened) → AllByRecursion (IsFor told) all → IsReadingIn state log r →
    IsOpenedTo told r.stand.store all first o → IsFault fault (visit_all r all o)

-- a tree without names and bytes
pub record IsNameless (s : Store) : Type 0 where
  pub folders : (e : FolderEntry) → In e s.folders → e.name ≡ []
  pub files : (e : FileEntry) → In e s.files → (e.name ≡ []) × (e.bytes ≡ [])

-- a reading with what its visits opened, or why they did not
abbrev pub opened_by : Reading → Result Opened Fault → Result OpenStore Failure
opened_by r (Ok o) = Ok (record { reading = r; opened = o })
opened_by r (Err fault) = Err (OfBytes fault)
