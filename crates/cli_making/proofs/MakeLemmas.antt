-- How `make` ends where the making of its store does.
use Rattle.std.proofs.Common.{◌≡◌, ◌≢◌, ◌+◌, ◌<◌, ◌⊎◌, ⊎_elim, ◌++◌, ◌∷◌, ℕ, List, [], Option, length, arith, refl, sym, ap, subst, ◌∙◌, inl, inr, length-append}
use Rattle.std.specs.Prelude.{is_some, true, false, IsTrue}
use Rattle.std.proofs.lemmas.Bool.{false≢true}
use Rattle.cry_io.specs.Stops.{IsDurable}
use Rattle.cry_io.specs.Told.{WhereTold, WhereBothTold}
use Rattle.key_links.specs.Fresh.{fresh_draw_len, fresh_image, piece}
use Rattle.journal_bytes.specs.Bytes.{image_of}
use Rattle.journal_bytes.specs.Journals.{StandsWholeForJournal}
use Rattle.journal_bytes.specs.Keys.{AreWhole}
use Rattle.journal_bytes.specs.WorkedBytes.{journal_bytes}
use Rattle.cry_io.proofs.ToldLemmas.{told_again}
use Rattle.cry_base.specs.declared.limits.Limits.{Limits}
use Rattle.script_text.specs.Printing.{owner_line}
use Rattle.store_owner.specs.Making as making
use Rattle.store_owner.specs.Owned.{IsOwnerOf, OwnerView}
use Rattle.store_owner.specs.declared.apply_fault.ApplyFault.{ApplyFault}
use Rattle.store_owner.specs.declared.apply_fault.ApplyFault.TheVariants as faults
use Rattle.cli_base.specs.declared.status.Status.{Status}
use Rattle.cli_base.specs.declared.status.Status.TheVariants.{Done, Usage, BadScript, ReadFault, NotAStore, Damaged, WrongKey, Tampered, WriteFault, DiskFault, RandomFault, RandomShort, OutOfMemory, NotBlank, NoHolder, Unseen, NeedsUpgrade, AlreadyNew, Behind, Forked, BadProof}
use Rattle.cli_sessions.specs.Sessions.{apply_status}
use Rattle.cli_base.specs.Status.{is_before_draw, is_before_print, is_before_write, is_make_answer}
use Rattle.cli_making.specs.Making.{EndsShort, IsShort, Makes}

-- the image of a fresh store is that of its journal
fresh_is : (drawn : List ℕ) → image_of (piece drawn 0) (making.made_with (making.root_keys drawn)) ++ 0 ∷ [] ≡ fresh_image drawn
unfolding journal_bytes
fresh_is drawn = refl

-- so it stands for it, with each slot filled
pub fresh_stands : (drawn : List ℕ) (o : OwnerView) → IsOwnerOf (making.made_with (making.root_keys drawn)) o → o.key ≡ piece drawn 0 → (s : List ℕ) → s ≡ fresh_image drawn
    → StandsWholeForJournal (piece drawn 0) (making.made_with (making.root_keys drawn)) s
unfolding image_of
fresh_stands drawn o is same s fresh = record {
  valid = is.valid;
  whole_keys = subst (λ k. AreWhole k (making.made_with (making.root_keys drawn))) same is.whole_keys;
  stands = record { gate = 0; behind = []; closed = λ e. absurd cc; bytes_are = fresh ∙ sym (fresh_is drawn) };
}

-- a store whose owner's line was printed as `Prints` says
pub makes : (Prints : List ℕ → List ℕ → List ℕ → Type 0) (limits : Limits) (o : OwnerView) (left_before left_after was shown : Option (List ℕ)) (may_leave : List ℕ → Type 0)
    (since : List ℕ → List ℕ → Type 0) (written_before written_after : Option (List ℕ)) → making.Makes limits left_before left_after was shown since o → IsDurable may_leave shown
    → WhereBothTold written_before written_after (Prints (owner_line o.key)) → Makes Prints left_before left_after was shown may_leave since written_before written_after
makes Prints limits o left_before left_after was shown may_leave since written_before written_after store durable printed =
    let drawn = store.hands.drawn in
    record {
      hands = store.hands;
      shows = store.fresh;
      settled = λ s told.
          let whole = fresh_stands drawn o store.owner.owner store.owner.same_key s (store.fresh s told) in
          record {
            shows = (s, told, whole);
            leaves = λ c left.
                let same : s ≡ c = let both = sym told ∙ durable c left in cc in
                subst (StandsWholeForJournal (piece drawn 0) (making.made_with (making.root_keys drawn))) same whole;
          };
      printed = subst (λ (key : List ℕ). WhereBothTold written_before written_after (Prints (owner_line key))) store.owner.same_key printed;
    }

-- a store takes 192 bytes: where one was made there were no fewer
pub never_fewer : (limits : Limits) (o : OwnerView) (before after was shown : Option (List ℕ)) (since : List ℕ → List ℕ → Type 0) (status : Status) → is_some after ≡ is_some before
    → making.Makes limits before after was shown since o → WhereTold before (EndsShort status)
never_fewer limits o before after was shown since status told store x had fewer =
    let again = told_again before after x told had in
    let hands = store.hands in
    absurd (omega (arith, ap length (hands.next_bytes x again.0 had again.1), length-append hands.drawn again.0, hands.all_drawn, fewer))

-- a source that ended tells how short it was
pub is_short : (left need : ℕ) (before after : Option (List ℕ)) → is_some after ≡ is_some before → (need ≡ fresh_draw_len) × (left < fresh_draw_len) × WhereBothTold before after (λ x y. (length x ≡ left) × (y ≡ []))
    → IsShort left need before after
is_short left need before after told short = record {
  need_is = short.0;
  fewer = short.1;
  had = λ x was. let again = told_again before after x told was in (short.2 x again.0 was again.1).0;
  gone = λ y now. let again = told_again after before y (sym told) now in (short.2 again.0 y again.1 now).1;
}

-- only a source that ended is answered as one
pub short_of : (fault : ApplyFault) (left need : ℕ) → apply_status fault ≡ RandomShort left need → fault ≡ faults.RandomShort left need
short_of faults.RandomFault left need is = absurd (let no : RandomFault ≡ RandomShort left need = is in cc)
short_of (faults.RandomShort given wanted) left need is = let told : RandomShort given wanted ≡ RandomShort left need = is in cc
short_of faults.DiskFault left need is = absurd (let no : DiskFault ≡ RandomShort left need = is in cc)
short_of faults.Closed left need is = absurd (let no : DiskFault ≡ RandomShort left need = is in cc)
short_of faults.OutOfMemory left need is = absurd (let no : OutOfMemory ≡ RandomShort left need = is in cc)

-- where fewer bytes were left than a store takes, the making of it ended so
pub ends_short : (fault : ApplyFault) (before after : Option (List ℕ)) → is_some after ≡ is_some before
    → ((left need : ℕ) → fault ≡ faults.RandomShort left need → (need ≡ fresh_draw_len) × (left < fresh_draw_len) × WhereBothTold before after (λ x y. (length x ≡ left) × (y ≡ [])))
    → (fault ≡ faults.DiskFault → WhereBothTold before after (λ x y. length x ≡ fresh_draw_len + length y))
    → fault ≢ faults.Closed → WhereTold before (EndsShort (apply_status fault))
ends_short faults.RandomFault before after told short drew unclosed x was fewer = inr (inl refl)
ends_short (faults.RandomShort left need) before after told short drew unclosed x was fewer =
    let again = told_again before after x told was in
    let told_short = short left need refl in
    let same_left : left ≡ length x = sym (told_short.2 x again.0 was again.1).0 in
    inl (λ i. RandomShort (same_left i) (told_short.0 i))
ends_short faults.DiskFault before after told short drew unclosed x was fewer =
    let again = told_again before after x told was in
    absurd (omega (arith, drew refl x again.0 was again.1, fewer))
ends_short faults.Closed before after told short drew unclosed x was fewer = absurd (unclosed refl)
ends_short faults.OutOfMemory before after told short drew unclosed x was fewer = inr (inr refl)

-- a call of `make` that blames no one is done or out of memory
pub done_or_no_memory : (status : Status) → IsTrue (is_make_answer status) → status ≢ NotBlank → status ≢ RandomFault → status ≢ DiskFault →
    status ≢ WriteFault → ((left need : ℕ) → status ≢ RandomShort left need) → (status ≡ Done) ⊎ (status ≡ OutOfMemory)
done_or_no_memory Done a b c d e f = inl refl
done_or_no_memory Usage a b c d e f = absurd (let no : false ≡ true = a in cc)
done_or_no_memory (BadScript line) a b c d e f = absurd (let no : false ≡ true = a in cc)
done_or_no_memory ReadFault a b c d e f = absurd (let no : false ≡ true = a in cc)
done_or_no_memory WriteFault a b c d e f = absurd (e refl)
done_or_no_memory DiskFault a b c d e f = absurd (d refl)
done_or_no_memory RandomFault a b c d e f = absurd (c refl)
done_or_no_memory (RandomShort left need) a b c d e f = absurd (f left need refl)
done_or_no_memory NotAStore a b c d e f = absurd (let no : false ≡ true = a in cc)
done_or_no_memory (Damaged at) a b c d e f = absurd (let no : false ≡ true = a in cc)
done_or_no_memory WrongKey a b c d e f = absurd (let no : false ≡ true = a in cc)
done_or_no_memory (Tampered batch at) a b c d e f = absurd (let no : false ≡ true = a in cc)
done_or_no_memory OutOfMemory a b c d e f = inr refl
done_or_no_memory NotBlank a b c d e f = absurd (b refl)
done_or_no_memory (NoHolder known) a b c d e f = absurd (let no : false ≡ true = a in cc)
done_or_no_memory Unseen a b c d e f = absurd (let no : false ≡ true = a in cc)
done_or_no_memory NeedsUpgrade a b c d e f = absurd (let no : false ≡ true = a in cc)
done_or_no_memory AlreadyNew a b c d e f = absurd (let no : false ≡ true = a in cc)
done_or_no_memory (Behind have want) a b c d e f = absurd (let no : false ≡ true = a in cc)
done_or_no_memory (Forked batches) a b c d e f = absurd (let no : false ≡ true = a in cc)
done_or_no_memory BadProof a b c d e f = absurd (let no : false ≡ true = a in cc)

-- ---- a store that stands, whose owner's line was printed or met a fault

module _ (status : Status) (told : (status ≡ Done) ⊎ (status ≡ WriteFault)) where
  pub told_answers : IsTrue (is_make_answer status)
  told_answers = ⊎_elim (λ e. subst (λ s. IsTrue (is_make_answer s)) (sym e) refl) (λ e. subst (λ s. IsTrue (is_make_answer s)) (sym e) refl) told

  pub told_not_blank : status ≢ NotBlank
  told_not_blank is = ⊎_elim (λ e. let both = sym e ∙ is in cc) (λ e. let both = sym e ∙ is in cc) told

  pub told_not_short : (left need : ℕ) → status ≢ RandomShort left need
  told_not_short left need is = ⊎_elim (λ e. let both = sym e ∙ is in cc) (λ e. let both = sym e ∙ is in cc) told

  pub told_not_undrawn : status ≢ RandomFault
  told_not_undrawn is = ⊎_elim (λ e. let both = sym e ∙ is in cc) (λ e. let both = sym e ∙ is in cc) told

  pub told_not_unwritten : status ≢ DiskFault
  told_not_unwritten is = ⊎_elim (λ e. let both = sym e ∙ is in cc) (λ e. let both = sym e ∙ is in cc) told

  pub told_drew : IsTrue (is_before_draw status) → ⊥
  told_drew early = false≢true (⊎_elim (λ e. ap is_before_draw (sym e) ∙ early) (λ e. ap is_before_draw (sym e) ∙ early) told)

  pub told_wrote : IsTrue (is_before_write status) → ⊥
  told_wrote early = false≢true (⊎_elim (λ e. ap is_before_write (sym e) ∙ early) (λ e. ap is_before_write (sym e) ∙ early) told)

  pub told_printed : IsTrue (is_before_print status) → ⊥
  told_printed early = false≢true (⊎_elim (λ e. ap is_before_print (sym e) ∙ early) (λ e. ap is_before_print (sym e) ∙ early) told)

-- a fault of the disk is told as one, and so is no other in the making of a store
pub disk_failed : (fault : ApplyFault) → fault ≢ faults.Closed → apply_status fault ≡ DiskFault → fault ≡ faults.DiskFault
disk_failed faults.RandomFault unclosed is = absurd cc
disk_failed (faults.RandomShort had need) unclosed is = absurd cc
disk_failed faults.DiskFault unclosed is = refl
disk_failed faults.Closed unclosed is = absurd (unclosed refl)
disk_failed faults.OutOfMemory unclosed is = absurd cc
