-- What visits open, each with the keys that those before led to. This project's own, docs/FORMAT.md, "Reading".
use Rattle.std.specs.Prelude.{ℕ, Bool, false, ◌&&◌, ◌==◌, nat_le, if◌then◌else◌, cond, List, [], ◌∷◌, length, take, drop, map, Option, None}
use Rattle.std.specs.Prelude.{Some, Result, Ok, Err}
use Rattle.cry_base.specs.Layout.{header_len}
use Rattle.cry_base.specs.Limits.{most_file_bytes}
use Rattle.cry_base.specs.Naming.{is_name}
use Rattle.cry_base.specs.Store.{Store, HolderEntry}
use Rattle.cry_base.specs.Stepping.{with_folder, with_file}
use Rattle.cry_base.specs.declared.roles.Edge.{Edge}
use Rattle.cry_base.specs.declared.roles.Role.{Role}
use Rattle.cry_base.specs.declared.roles.Role.TheVariants.{Owner}
use Rattle.commit_journal.specs.Answering.{Fault, Damaged, and_then}
use Rattle.commit_journal.specs.Placed.{PlainPlaced}
use Rattle.role_graph.specs.Roles.{same_role, data_of, file_role}
use Rattle.public_fold.specs.Journal.{Stand}
use Rattle.log_visits.specs.Placing.{link_for, content_for}
use Rattle.log_visits.specs.Verdict.{open_link, open_content}
use Rattle.log_visits.specs.Visits.{Visit}
use Rattle.log_visits.specs.Visits.Visit.{ToKey, ToName, ToFile, ToHolder}

-- the batches of a log, and what stands after them
pub record Reading : Type 0 where
  pub log : List PlainPlaced
  pub stand : Stand

-- the keys that were opened, the newest first, and the store with the names, bytes and keys of holders that were opened
pub record Opened : Type 0 where
  pub keys : List (Role × List ℕ)
  pub store : Store

-- the key of a role, if it was opened
unfoldable pub key_of : List (Role × List ℕ) → Role → Option (List ℕ)
key_of [] role = None
key_of (key ∷ keys) role = if same_role key.0 role then Some key.1 else key_of keys role

-- what a visit needs: its record, and the key of its source. Were one wanting, the store would be damaged behind its header
unfoldable pub needed : {A B : Type 0} → Option A → (A → Result B Fault) → Result B Fault
needed None go_on = Err (Damaged header_len)
needed (Some x) go_on = go_on x

-- one key more
unfoldable pub with_key : Opened → Role → List ℕ → Result Opened Fault
with_key o role key = Ok (record o { keys = (role, key) ∷ o.keys })

-- the link of an edge, opened with the key of its source
unfoldable pub visit_edge : Reading → Opened → Edge → Result Opened Fault
visit_edge r o e =
    needed (key_of o.keys e.from) (λ key. needed (link_for r.stand.keys r.log e)
    (λ l. and_then (open_link l.batch l.at key l.link) (with_key o e.to)))

-- the text of the last content of a kind for an object, with its place, opened with the key of a role
unfoldable pub visit_text : Reading → Opened → Role → ℕ → ℕ → (ℕ → List ℕ → Result Opened Fault) → Result Opened Fault
visit_text r o role kind object go_on =
    needed (key_of o.keys role) (λ key. needed (content_for r.log kind object)
    (λ c. and_then (open_content c.batch c.at key c.content) (go_on c.at)))

-- a folder's name is a name; the root's is empty
unfoldable pub is_folder_text : ℕ → List ℕ → Bool
is_folder_text f text = if f == 1 then length text == 0 else is_name text

-- a file's text is a byte from 1 to 64, a name of so many bytes, and at most 1,048,576 bytes
unfoldable pub is_file_text : List ℕ → Bool
is_file_text [] = false
is_file_text (n ∷ rest) = nat_le n (length rest) && (is_name (take n rest) && nat_le (length (drop n rest)) most_file_bytes)

-- the name of a folder; a text of another form is damaged at its content's first byte
unfoldable pub with_name_at : Opened → ℕ → ℕ → List ℕ → Result Opened Fault
with_name_at o f at text =
    if is_folder_text f text then Ok (record o { store = with_folder o.store f (λ e. record e { name = text }) }) else Err (Damaged at)

-- the name and the bytes of a file, behind the byte that is the name's length
unfoldable pub with_parts : Opened → ℕ → List ℕ → Opened
with_parts o x [] = o
with_parts o x (n ∷ rest) = record o { store = with_file o.store x (λ e. record e { name = take n rest; bytes = drop n rest }) }

unfoldable pub with_text_at : Opened → ℕ → ℕ → List ℕ → Result Opened Fault
with_text_at o x at text = if is_file_text text then Ok (with_parts o x text) else Err (Damaged at)

-- the key of a holder
unfoldable pub with_holder_key : Opened → ℕ → ℕ → List ℕ → Result Opened Fault
with_holder_key o h at text =
    Ok (record o {
      store = record o.store {
        holders = map (λ (e : HolderEntry). cond (e.number == h) (record e { key = text }) e)
            o.store.holders;
      };
    })

-- one visit
unfoldable pub visit : Reading → Visit → Opened → Result Opened Fault
visit r (ToKey e) o = visit_edge r o e
visit r (ToName f) o = visit_text r o (data_of f) 1 f (with_name_at o f)
visit r (ToFile x) o = visit_text r o (file_role x) 2 x (with_text_at o x)
visit r (ToHolder h) o = visit_text r o Owner 3 h (with_holder_key o h)

-- visits, one after another, up to the first that fails
unfoldable pub visit_all : Reading → List Visit → Opened → Result Opened Fault
visit_all r [] o = Ok o
visit_all r (v ∷ visits) o = and_then (visit r v o) (visit_all r visits)
