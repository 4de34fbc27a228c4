-- What an owner counts is what its journal's entries publish.
use Rattle.std.proofs.Common.{◌≡◌, ℕ, ◌+◌, Bool, true, false, not, List, [], ◌∷◌, ◌++◌, filter, length, map, replicate, None, Result, Ok, Err, append-nil, arith, refl, sym, ap, subst, ◌∙◌, length-append}
use Rattle.std.proofs.lemmas.List.{length-map}
use Rattle.std.specs.List.{flat_map}
use Rattle.std.specs.Prelude.{IfOk, OnErr, OnOk}
use Rattle.std.proofs.lemmas.Grind.{flat_map-append}
use Rattle.std.proofs.lemmas.List.Elements.{filter-append}
use Rattle.commit_journal.specs.Image.{image}
use Rattle.commit_journal.specs.Journals.{JournalState}
use Rattle.cry_base.specs.declared.commands.Reply.{Reply}
use Rattle.record_format.specs.Noted.{Note}
use Rattle.record_format.specs.declared.note.Note.{Note as Declared}
use Rattle.record_format.specs.declared.note.Note.TheVariants as declared
use Rattle.public_fold.specs.Fitted.{told_step}
use Rattle.public_fold.specs.Heads.{IsSkeleton, content_head}
use Rattle.public_fold.specs.Journal.{Entry, Journal, Stand, entry_step, keys_of, nothing, stand_after, steps_from, steps_of, store_of}
use Rattle.public_fold.specs.Journal.Entry.{Session}
use Rattle.public_fold.specs.KeyStep.{Stepped, is_strict}
use Rattle.public_fold.specs.Keyed.{links_of}
use Rattle.public_fold.specs.Lengths.{end_of}
use Rattle.public_fold.specs.Preparing.{begun}
use Rattle.public_fold.specs.Records.{Content, Link}
use Rattle.public_fold.specs.declared.heads.Skeleton.{Skeleton}
use Rattle.public_fold.proofs.Prefixes.{steps_grow}
use Rattle.journal_bytes.specs.Bytes.{batches_of, image_of}
use Rattle.journal_bytes.specs.Folds.{public_stand}
use Rattle.journal_bytes.specs.WorkedBytes.{journal_bytes}
use Rattle.journal_bytes.proofs.NextEntry.{between, stand_between}
use Rattle.journal_bytes.proofs.Weighed.{valid_weighs}
use Rattle.store_owner.specs.Deeds.{Deed, deed_count, deed_entry, deed_note, deed_refusal, deed_then}
use Rattle.store_owner.specs.Applying.{HasOtherRoom}
use Rattle.store_owner.specs.Counted.{counted_with, root_counted, with_more}
use Rattle.store_owner.specs.Deeds.Deed.{Commanded, Upgrading}
use Rattle.store_owner.specs.Making.{made_with}
use Rattle.store_owner.specs.Owned.{IsOwnerOf, OwnerView}
use Rattle.store_owner.specs.Planning.{IsDrafted, reply_for}
use Rattle.store_owner.specs.Tallied.{CountsCommand, CountsOne, counted_in, is_command, tally_in, tally_of}
use Rattle.store_owner.specs.declared.apply_fault.ApplyFault.{ApplyFault}
use Rattle.store_owner.specs.declared.change.Change.{Change}
use Rattle.store_owner.specs.declared.counted.Counted.{Counted}
use Rattle.store_owner.proofs.Measured.{skeleton_is}
use Rattle.store_owner.proofs.OtherRoom.{seen_still, store_still}
use Rattle.store_owner.proofs.OwnerKeeps.{store_kept}

-- ---- the root

pub root_told : (keys : List (List ℕ)) → counted_in (made_with keys) ≡ root_counted
unfolding counted_in journal_bytes links_of
root_told keys = refl

-- ---- a journal with one entry more

abbrev counts : ℕ → ℕ → ℕ → Counted
counts a b c = record { commands = a; links = b; contents = c }

abbrev links_published : Stepped → List Link
links_published s = s.links

abbrev contents_published : Stepped → List Content
contents_published s = s.contents

none_more : (n : ℕ) → n + 0 ≡ n
none_more n = omega arith

module _ (m : Journal) (e : Entry) where
  steps_more : steps_of (m ++ e ∷ []) ≡ steps_of m ++ entry_step (stand_after nothing m) e ∷ []
  unfolding steps_from
  steps_more = steps_grow m (e ∷ [])

  commands_more : length (filter is_command (m ++ e ∷ [])) ≡ length (filter is_command m) + length (filter is_command (e ∷ []))
  commands_more = ap length (filter-append is_command m (e ∷ [])) ∙ length-append (filter is_command m) (filter is_command (e ∷ []))

  links_more : length (links_of (steps_of (m ++ e ∷ []))) ≡ length (links_of (steps_of m)) + length (entry_step (stand_after nothing m) e).links
  unfolding links_of
  links_more =
      ap (λ s. length (flat_map links_published s)) steps_more
      ∙ ap length (flat_map-append links_published (steps_of m) (entry_step (stand_after nothing m) e ∷ []))
      ∙ length-append (flat_map links_published (steps_of m)) (flat_map links_published (entry_step (stand_after nothing m) e ∷ []))
      ∙ ap (λ ls. length (flat_map links_published (steps_of m)) + length ls) (append-nil (entry_step (stand_after nothing m) e).links)

  contents_more : length (flat_map contents_published (steps_of (m ++ e ∷ []))) ≡ length (flat_map contents_published (steps_of m)) + length (entry_step (stand_after nothing m) e).contents
  contents_more =
      ap (λ s. length (flat_map contents_published s)) steps_more
      ∙ ap length (flat_map-append contents_published (steps_of m) (entry_step (stand_after nothing m) e ∷ []))
      ∙ length-append (flat_map contents_published (steps_of m)) (flat_map contents_published (entry_step (stand_after nothing m) e ∷ []))
      ∙ ap (λ cs. length (flat_map contents_published (steps_of m)) + length cs) (append-nil (entry_step (stand_after nothing m) e).contents)

counts_for : (d : Deed) (drawn : List (List ℕ)) → length (filter is_command (deed_entry d drawn ∷ [])) ≡ deed_count d
counts_for (Commanded r) drawn = refl
counts_for Upgrading drawn = refl

did_more : (m : Journal) (d : Deed) (drawn : List (List ℕ)) → counted_in (m ++ deed_entry d drawn ∷ [])
    ≡ with_more (counted_in m) (deed_count d) (length (entry_step (stand_after nothing m) (deed_entry d drawn)).links) (length (entry_step (stand_after nothing m) (deed_entry d drawn)).contents)
unfolding counted_in
did_more m d drawn =
    let one = deed_entry d drawn in
    (λ i. counts (commands_more m one i) (links_more m one i) (contents_more m one i))
    ∙ ap (λ n. counts (length (filter is_command m) + n) (length (links_of (steps_of m)) + length (entry_step (stand_after nothing m) one).links) (length (flat_map contents_published (steps_of m)) + length (entry_step (stand_after nothing m) one).contents)) (counts_for d drawn)

session_more : (m : Journal) → counted_in (m ++ Session ∷ []) ≡ counted_in m
unfolding counted_in entry_step
session_more m =
    (λ i. counts (commands_more m Session i) (links_more m Session i) (contents_more m Session i))
    ∙ (λ i. counts (none_more (length (filter is_command m)) i) (none_more (length (links_of (steps_of m))) i) (none_more (length (flat_map contents_published (steps_of m))) i))

between_same : (m : Journal) (has_begun : Bool) → counted_in (between m has_begun) ≡ counted_in m
between_same m true = ap counted_in (append-nil m)
between_same m false = session_more m

-- the journal with a command more, and a session begun before it where none was
then_more : (m : Journal) (has_begun : Bool) (r : Deed) (drawn : List (List ℕ)) → counted_in (deed_then m has_begun r drawn)
    ≡ with_more (counted_in m) (deed_count r) (length (entry_step (begun (not has_begun) (stand_after nothing m)) (deed_entry r drawn)).links) (length (entry_step (begun (not has_begun) (stand_after nothing m)) (deed_entry r drawn)).contents)
then_more m has_begun r drawn =
    did_more (between m has_begun) r drawn
    ∙ ap (λ (c : Counted). with_more c (deed_count r) (length (entry_step (stand_after nothing (between m has_begun)) (deed_entry r drawn)).links) (length (entry_step (stand_after nothing (between m has_begun)) (deed_entry r drawn)).contents)) (between_same m has_begun)
    ∙ ap (λ (at : Stand). with_more (counted_in m) (deed_count r) (length (entry_step at (deed_entry r drawn)).links) (length (entry_step at (deed_entry r drawn)).contents)) (stand_between m has_begun)

-- ---- the owner of a journal

-- the skeleton of a step
abbrev skeleton_of : Stepped → Skeleton
skeleton_of s = record {
  keys = record { items = s.given; spare = 0 };
  links = record { items = s.links; spare = 0 };
  contents = record { items = map content_head s.contents; spare = 0 };
}

told_counts : (m : Journal) (new : Bool) (r : Deed) (drawn : List (List ℕ)) (file_bytes : ℕ) (c : Counted) → deed_refusal (is_strict (keys_of m)) (store_of m) r file_bytes ≡ None
    → with_more c (deed_count r) (length (told_step (begun new (public_stand m)) (deed_note (store_of m) r (replicate 32 0))).links) (length (told_step (begun new (public_stand m)) (deed_note (store_of m) r (replicate 32 0))).contents)
    ≡ with_more c (deed_count r) (length (entry_step (begun new (stand_after nothing m)) (deed_entry r drawn)).links) (length (entry_step (begun new (stand_after nothing m)) (deed_entry r drawn)).contents)
told_counts m new r drawn file_bytes c fine =
    let told = told_step (begun new (public_stand m)) (deed_note (store_of m) r (replicate 32 0)) in
    let is = skeleton_is m new r (replicate 32 0) drawn file_bytes fine (skeleton_of told) (record { keys = refl; links = refl; contents = refl }) in
    let long : length told.contents ≡ length (entry_step (begun new (stand_after nothing m)) (deed_entry r drawn)).contents =
    sym (length-map told.contents content_head) ∙ ap length is.contents ∙ length-map (entry_step (begun new (stand_after nothing m)) (deed_entry r drawn)).contents content_head in
    (λ i. with_more c (deed_count r) (length (is.links i)) (long i))

pub counts_on : (m : Journal) (r : Deed) (drawn : List (List ℕ)) (old new : OwnerView) → IsOwnerOf m old → deed_refusal (is_strict (keys_of m)) (store_of m) r old.file_bytes ≡ None → CountsOne r old new
    → old.tally ≡ counted_in m → new.tally ≡ counted_in (deed_then m old.journal.has_epoch r drawn)
counts_on m r drawn old new is fine one same =
    one (public_stand m) (store_of m) is.seen (store_kept m old is)
    ∙ told_counts m (not old.journal.has_epoch) r drawn old.file_bytes old.tally fine
    ∙ ap (λ (c : Counted). with_more c (deed_count r) (length (entry_step (begun (not old.journal.has_epoch) (stand_after nothing m)) (deed_entry r drawn)).links) (length (entry_step (begun (not old.journal.has_epoch) (stand_after nothing m)) (deed_entry r drawn)).contents)) same
    ∙ sym (then_more m old.journal.has_epoch r drawn)

pub tally_told : (m : Journal) (o : OwnerView) → IsOwnerOf m o → o.tally ≡ counted_in m → tally_in o ≡ tally_of m
unfolding image_of public_stand
tally_told m o is same =
    let end : o.journal.end ≡ end_of m =
    is.stands.end ∙ ap (λ owner. length (image owner (batches_of o.key m)) + 1) is.same_key ∙ valid_weighs o.key m is.valid is.whole_keys
    in
    let dirty : length o.state.keys.dirty ≡ length (keys_of m).dirty = ap (λ k. length k.dirty) (sym is.seen.keys) in
    λ i. record { commands = (same i).commands; links = (same i).links; contents = (same i).contents; dirty = dirty i; bytes = end i }

-- ---- a command that is planned and carried out

pub one_counted : (r : Deed) (o mid new : OwnerView) (p : Change) → HasOtherRoom o mid → IsDrafted r mid p → new.tally ≡ counted_with mid.tally r p.ready.skeleton → CountsOne r o new
one_counted r o mid new p room drafted counted = λ at s seen store.
    let told = drafted.told s (store_still s o mid room store) in
    let is = drafted.is_skeleton at (seen_still o mid room at seen) in
    let step = told_step (begun (not mid.journal.has_epoch) at) (deed_note s r (replicate 32 0)) in
    let same : IsSkeleton step p.ready.skeleton = subst (λ (n : Note). IsSkeleton (told_step (begun (not mid.journal.has_epoch) at) n) p.ready.skeleton) told is in
    counted
    ∙ (λ i. with_more (room.tally i) (deed_count r) (length (same.links i)) ((ap length same.contents ∙ length-map step.contents content_head) i))
    ∙ ap (λ (j : JournalState). with_more o.tally (deed_count r) (length (told_step (begun (not j.has_epoch) at) (deed_note s r (replicate 32 0))).links) (length (told_step (begun (not j.has_epoch) at) (deed_note s r (replicate 32 0))).contents)) room.journal

done_counts : (note : Declared) (drawn : List (List ℕ)) (r : Deed) (old new : OwnerView) → CountsOne r old new → CountsCommand (Ok (reply_for note drawn)) r old new
done_counts declared.Root drawn r old new d = d
done_counts (declared.NewHolder h check) drawn r old new d = d
done_counts (declared.NewFolder f p) drawn r old new d = d
done_counts (declared.NewFile x f) drawn r old new d = d
done_counts (declared.Rewrite x) drawn r old new d = d
done_counts (declared.NameFile x) drawn r old new d = d
done_counts (declared.NameFolder f) drawn r old new d = d
done_counts (declared.DropFile x) drawn r old new d = d
done_counts (declared.DropFolder f) drawn r old new d = d
done_counts (declared.ShiftFile x g) drawn r old new d = d
done_counts (declared.ShiftFolder g q) drawn r old new d = d
done_counts (declared.Give h f) drawn r old new d = d
done_counts (declared.Take h f) drawn r old new d = d
done_counts declared.StrictRoot drawn r old new d = d
done_counts declared.Upgrade drawn r old new d = d

pub carried_counts : (result : Result Reply ApplyFault) (note : Declared) (drawn : List (List ℕ)) (r : Deed) (old mid new : OwnerView) (p : Change) → HasOtherRoom old mid → IsDrafted r mid p
    → IfOk result (λ reply. reply ≡ reply_for note drawn) → OnOk result (new.tally ≡ counted_with mid.tally r p.ready.skeleton) → OnErr result (new.tally ≡ mid.tally) → CountsCommand result r old new
carried_counts (Ok reply) note drawn r old mid new p room drafted is counted same =
    subst (λ (x : Reply). CountsCommand (Ok x) r old new) (sym is) (done_counts note drawn r old new (one_counted r old mid new p room drafted counted))
carried_counts (Err fault) note drawn r old mid new p room drafted is counted same = same ∙ room.tally
