-- A change that takes the new holder's key.
use Rattle.std.proofs.Common.{◌≡◌, ◌≤◌, ℕ, List, [], ◌∷◌, ◌++◌, length, slice_index_or, arith, refl, sym, ap, ◌∙◌}
use Rattle.chacha_seal.specs.Sealing.{check_of}
use Rattle.cry_base.specs.declared.ids.HolderId.{HolderId}
use Rattle.record_format.specs.declared.note.Note.TheVariants as notes
use Rattle.public_fold.specs.Journal.{Stand, first_key}
use Rattle.public_fold.specs.Preparing.{CanSettle, settled, with_check}
use Rattle.public_fold.specs.Standing.{IsSeenAs, PublicView}
use Rattle.store_owner.specs.Planning.{IsKeyed, holder_key}
use Rattle.store_owner.specs.declared.change.Change.{Change}

-- the first of some keys
pub head_is_first : (drawn : List (List ℕ)) → 1 ≤ length drawn → slice_index_or drawn 0 [] ≡ first_key drawn
unfolding first_key
head_is_first [] some = absurd (omega arith)
head_is_first (key ∷ drawn) some = refl

pub keyed_holder : (drawn : List (List ℕ)) (old new : Change) (holder : HolderId) (check made key : List ℕ) → old.note ≡ notes.NewHolder holder check → key ≡ first_key drawn → made ≡ check_of key
    → new.note ≡ notes.NewHolder holder made → new.ready.skeleton ≡ old.ready.skeleton → ((v : PublicView) → CanSettle v old.ready → CanSettle v new.ready)
    → ((v : PublicView) (at : Stand) → IsSeenAs (settled v old.ready) at → IsSeenAs (settled v new.ready) at)
    → new.text.items ≡ old.text.items ++ key → new.titles ≡ old.titles → IsKeyed drawn old new
keyed_holder drawn old new holder check made key was first made_is is skeleton can seen text titles = record {
  note = is ∙ ap (notes.NewHolder holder) (made_is ∙ ap check_of first) ∙ sym (ap (λ n. with_check n (check_of (first_key drawn))) was);
  skeleton = skeleton;
  can = can;
  seen = seen;
  text = text ∙ ap (λ z. old.text.items ++ z) (first ∙ sym (ap (λ n. holder_key n drawn) was));
  titles = titles;
}
