-- A journal with an accepted command is a journal, where its log ends within the store's limit.
use Rattle.std.proofs.Common.{◌≡◌, inl, inr, ℕ, ◌+◌, ◌≤◌, Bool, true, false, cond, not, ◌&&◌, ◌||◌, List, [], ◌∷◌, ◌++◌, length, find, Option, None, option_map, All, append-nil, arith, refl, sym, ap, subst, ◌∙◌}
use Rattle.std.specs.List.{sum_by}
use Rattle.std.proofs.lemmas.Bool.{le-ltb, ltb-false}
use Rattle.std.proofs.lemmas.List.Elements.{All-append, All-cons, All-nil}
use Rattle.std.proofs.lemmas.List.Sums.{sum_by-append, sum_by-cons}
use Rattle.cry_base.specs.Layout.{batch_len, header_len}
use Rattle.cry_base.specs.Limits.{most_file_bytes, most_store_bytes}
use Rattle.cry_base.specs.Refusing.{causes_in, changes_root, finds_name_taken, finds_no_holder, finds_no_path, goes_too_deep, grants_again, grants_on_file, has_bad_name, is_too_long, moves_into_itself, needs_folder, refusal_in, removes_children, revokes_nothing, writes_folder}
use Rattle.cry_base.proofs.Versions.{accepted_in}
use Rattle.cry_base.specs.Requests.{Request}
use Rattle.cry_base.specs.Requests.Request.{AddHolder, MakeFolder, WriteFile, Remove, Rename, Relocate, Grant, Revoke}
use Rattle.cry_base.specs.Store.{Store}
use Rattle.cry_base.specs.declared.commands.Refusal.{Refusal}
use Rattle.cry_base.specs.declared.commands.Refusal.TheVariants.{BadName, NoPath, IsRoot, NotFolder, IsFolder, Exists, NotEmpty, InsideItself, TooDeep, NoHolder, HasGrant, NoGrant, TooLong}
use Rattle.public_fold.specs.Journal.{Entry, Journal, Stand, nothing, keys_of, stand_then, stand_after, store_of}
use Rattle.public_fold.specs.Journal.Entry.{Session, Made, Did, Upgraded}
use Rattle.public_fold.specs.KeyStep.{is_strict}
use Rattle.public_fold.specs.Lengths.{end_of, entry_payload, payloads_from}
use Rattle.public_fold.specs.Valid.{BeginsWell, FollowOn, IsNext, IsValid}
use Rattle.public_fold.proofs.Causes.{no_cause_in}
use Rattle.public_fold.proofs.HeldMarks.{begun_strict}
use Rattle.journal_bytes.specs.Keys.{AreWhole, drawn_by}
use Rattle.journal_bytes.specs.Script.{draws_of, due_end, due_payload, journal_then}
use Rattle.journal_bytes.proofs.NextEntry.{between, given_begun, payload_weighs, stand_between}

-- ---- what no file is too long for, none is with more room

long_still : (r : Request) (n more : ℕ) → n ≤ more → is_too_long n r ≡ false → is_too_long more r ≡ false
unfolding is_too_long
long_still AddHolder n more le e = refl
long_still (MakeFolder path) n more le e = refl
long_still (WriteFile path bytes) n more le e = let fits : length bytes ≤ n = ltb-false n (length bytes) e in le-ltb more (length bytes) (omega (arith, fits, le))
long_still (Remove path) n more le e = refl
long_still (Rename path name) n more le e = refl
long_still (Relocate path into) n more le e = refl
long_still (Grant h path) n more le e = refl
long_still (Revoke h path) n more le e = refl

abbrev refusal_where : Bool → Store → Request → Bool → Option Refusal
refusal_where strict s r long =
    option_map (λ (cause : Bool × Refusal). cause.1) (find (λ (cause : Bool × Refusal). cause.0) (
    (has_bad_name r, BadName)
    ∷ (finds_no_path s r, NoPath)
    ∷ (changes_root r, IsRoot)
    ∷ ((grants_on_file s r && not strict) || needs_folder s r, NotFolder)
    ∷ (writes_folder s r, IsFolder)
    ∷ (finds_name_taken s r, Exists)
    ∷ (removes_children s r, NotEmpty)
    ∷ (moves_into_itself s r, InsideItself)
    ∷ (goes_too_deep s r, TooDeep)
    ∷ (finds_no_holder s r, NoHolder)
    ∷ (grants_again s r, HasGrant)
    ∷ (revokes_nothing s r, NoGrant)
    ∷ (long, TooLong)
    ∷ []
    ))

pub refusal_still : (strict : Bool) (s : Store) (r : Request) (n more : ℕ) → n ≤ more → refusal_in strict s r n ≡ None → refusal_in strict s r more ≡ None
unfolding refusal_in causes_in
refusal_still strict s r n more le e =
    let short : is_too_long n r ≡ false = no_cause_in strict s r n (is_too_long n r) TooLong e (inr (inr (inr (inr (inr (inr (inr (inr (inr (inr (inr (inr (inl refl))))))))))))) in
    ap (refusal_where strict s r) (long_still r n more le short ∙ sym short) ∙ e

-- ---- entries behind others

follow-append : (at : Stand) (xs ys : List Entry) → FollowOn at xs → FollowOn (stand_after at xs) ys → FollowOn at (xs ++ ys)
unfolding stand_after
follow-append at [] ys f more = more
follow-append at (x ∷ xs) ys f more = (f.0, follow-append (stand_then at x) xs ys f.1 more)

pub begins-append : (m more : Journal) → BeginsWell m → FollowOn (stand_after nothing m) more → BeginsWell (m ++ more)
unfolding stand_after
begins-append [] more b f = absurd b
begins-append (Session ∷ []) more b f = absurd b
begins-append (Session ∷ Session ∷ es) more b f = absurd b
begins-append (Session ∷ Made version keys ∷ es) more b f = (b.0, follow-append (stand_then (stand_then nothing Session) (Made version keys)) es more b.1 f, b.2)
begins-append (Session ∷ Did request keys ∷ es) more b f = absurd b
begins-append (Session ∷ Upgraded keys ∷ es) more b f = absurd b
begins-append (Made version keys ∷ es) more b f = absurd b
begins-append (Did request keys ∷ es) more b f = absurd b
begins-append (Upgraded keys ∷ es) more b f = absurd b

payloads-append : (at : Stand) (xs ys : List Entry) → payloads_from at (xs ++ ys) ≡ payloads_from at xs ++ payloads_from (stand_after at xs) ys
unfolding payloads_from stand_after
payloads-append at [] ys = refl
payloads-append at (x ∷ xs) ys = ap (λ l. entry_payload at x ∷ l) (payloads-append (stand_then at x) xs ys)

-- one entry more makes the log longer by its batch
pub end_then : (m : Journal) (entry : Entry) → end_of (m ++ entry ∷ []) ≡ end_of m + (batch_len + entry_payload (stand_after nothing m) entry)
unfolding end_of payloads_from
end_then m entry =
    let more = entry_payload (stand_after nothing m) entry ∷ [] in
    let joined = payloads-append nothing m (entry ∷ []) in
    let sum = sum_by-append (λ (len : ℕ). batch_len + len) (payloads_from nothing m) more in
    let one = sum_by-cons (λ (len : ℕ). batch_len + len) (entry_payload (stand_after nothing m) entry) [] in
    ap (λ l. header_len + sum_by (λ (len : ℕ). batch_len + len) l) joined ∙ omega (arith, sum, one)

pub end_between : (m : Journal) (has_begun : Bool) → end_of (between m has_begun) ≡ end_of m + cond has_begun 0 batch_len
unfolding entry_payload
end_between m true = ap end_of (append-nil m) ∙ omega arith
end_between m false = end_then m Session

session_follows : (at : Stand) (has_begun : Bool) → FollowOn at (cond has_begun [] (Session ∷ []))
session_follows at true = tt
session_follows at false = (tt, tt)

pub begun_valid : (m : Journal) (has_begun : Bool) (more : ℕ) → IsValid m → end_of m + cond has_begun 0 batch_len + batch_len + more ≤ most_store_bytes → IsValid (between m has_begun)
begun_valid m has_begun more valid low =
    let first = end_between m has_begun in
    (begins-append m (cond has_begun [] (Session ∷ [])) valid.0 (session_follows (stand_after nothing m) has_begun), omega (arith, first, low))

pub session_valid : (m : Journal) (has_begun : Bool) (r : Request) → IsValid m → due_end m has_begun r ≤ most_store_bytes → IsValid (between m has_begun)
unfolding due_end
session_valid m has_begun r valid low = begun_valid m has_begun (due_payload m r) valid low

pub session_whole : (owner : List ℕ) (m : Journal) (has_begun : Bool) → AreWhole owner m → AreWhole owner (between m has_begun)
unfolding drawn_by
session_whole owner m has_begun whole =
    let sized : Entry → Type 0 = λ entry. All (λ (key : List ℕ). length key ≡ 32) (drawn_by entry) in
    let one : All sized (Session ∷ []) = All-cons sized Session [] (All-nil (λ (key : List ℕ). length key ≡ 32)) (All-nil sized) in
    let session : (b : Bool) → All sized (cond b [] (Session ∷ [])) = λ b. elim b as (λ b. All sized (cond b [] (Session ∷ []))) [ true ↦ All-nil sized | false ↦ one ] in
    record { owner_size = whole.owner_size; drawn_sizes = All-append sized m (cond has_begun [] (Session ∷ [])) whole.drawn_sizes (session has_begun) }

module _ (m : Journal) (has_begun : Bool) (r : Request) (drawn : List (List ℕ)) (file_bytes : ℕ) (valid : IsValid m) (bound : file_bytes ≤ most_file_bytes) (none : refusal_in (is_strict (keys_of m)) (store_of m) r file_bytes ≡ None)
    (many : length drawn ≡ draws_of m r) (sizes : All (λ (key : List ℕ). length key ≡ 32) drawn) where
  command_next : IsNext (stand_after nothing (between m has_begun)) (Did r drawn)
  unfolding store_of keys_of draws_of
  command_next =
      let at = stand_after nothing m in
      let still = refusal_still (is_strict at.keys) at.store r file_bytes most_file_bytes bound none in
      subst (λ at. IsNext at (Did r drawn)) (sym (stand_between m has_begun))
      (subst (λ strict. refusal_in strict at.store r most_file_bytes ≡ None) (sym (begun_strict (not has_begun) at.keys)) still, many ∙ sym (given_begun (stand_after nothing m) r (not has_begun) drawn []))

  pub end_then_is : end_of (journal_then m has_begun r drawn) ≡ due_end m has_begun r
  unfolding due_end
  end_then_is =
      let last = end_then (between m has_begun) (Did r drawn) in
      let size : entry_payload (stand_after nothing (between m has_begun)) (Did r drawn) ≡ due_payload m r =
      ap (λ at. entry_payload at (Did r drawn)) (stand_between m has_begun) ∙ payload_weighs m (not has_begun) r drawn file_bytes valid (accepted_in (is_strict (keys_of m)) (store_of m) r file_bytes none) many sizes
      in
      let first = end_between m has_begun in
      omega (arith, last, size, first)

  pub between_valid : due_end m has_begun r ≤ most_store_bytes → IsValid (between m has_begun)
  between_valid low = session_valid m has_begun r valid low

  pub next_valid : due_end m has_begun r ≤ most_store_bytes → IsValid (journal_then m has_begun r drawn)
  next_valid low =
      let last = end_then_is in
      (begins-append (between m has_begun) (Did r drawn ∷ []) (between_valid low).0 (command_next, tt), omega (arith, last, low))

-- ---- the keys drawn

pub entered_whole : (owner : List ℕ) (m : Journal) (has_begun : Bool) (entry : Entry) → AreWhole owner m → All (λ (key : List ℕ). length key ≡ 32) (drawn_by entry)
    → AreWhole owner (between m has_begun ++ entry ∷ [])
entered_whole owner m has_begun entry whole sizes =
    let sized : Entry → Type 0 = λ entry. All (λ (key : List ℕ). length key ≡ 32) (drawn_by entry) in
    record {
      owner_size = whole.owner_size;
      drawn_sizes = All-append sized (between m has_begun) (entry ∷ []) (session_whole owner m has_begun whole).drawn_sizes (All-cons sized entry [] sizes (All-nil sized));
    }

pub next_whole : (owner : List ℕ) (m : Journal) (has_begun : Bool) (r : Request) (drawn : List (List ℕ)) → AreWhole owner m → All (λ (key : List ℕ). length key ≡ 32) drawn
    → AreWhole owner (journal_then m has_begun r drawn)
unfolding drawn_by
next_whole owner m has_begun r drawn whole sizes = entered_whole owner m has_begun (Did r drawn) whole sizes
