-- Where the keys are held and the step's skeleton is told, it can be sealed.
use Rattle.std.proofs.Common.{◌≡◌, ⊎_elim, inl, inr, ℕ, ◌+◌, ◌≤◌, ◌<◌, true, false, cond, List, [], ◌∷◌, length, map, Option, Some, arith, refl, sym, ap, subst, ◌∙◌}
use Rattle.std.specs.Prelude.{IsSome, ◌++◌}
use Rattle.std.proofs.lemmas.List.{length-map}
use Rattle.chacha_seal.specs.Keys.{KeyParts}
use Rattle.chacha_seal.specs.Serials.{Counting}
use Rattle.cry_base.specs.Sets.{In}
use Rattle.cry_base.specs.declared.roles.Edge.{Edge}
use Rattle.cry_base.specs.declared.roles.Role.{Role}
use Rattle.cry_base.proofs.Members.{In-map}
use Rattle.key_links.specs.Ringed.{Ringed}
use Rattle.move_plan.specs.Change.{Change}
use Rattle.role_graph.specs.Roles.{same_role}
use Rattle.role_graph.proofs.Comparing.{same_role_tells}
use Rattle.public_fold.specs.Heads.{IsSkeleton, content_head}
use Rattle.public_fold.specs.KeyStep.{KeyState, given, key_step, keys_then, keys_without, newest, next_epoch, published, renewed, step_with}
use Rattle.public_fold.specs.Records.{Content, Link, Piece}
use Rattle.public_fold.specs.declared.heads.ContentHead.{ContentHead}
use Rattle.public_fold.specs.declared.heads.Skeleton.{Skeleton}
use Rattle.journal_bytes.specs.Sealing.{CanLink, CanSeal, CanSealText, HasLength, HoldsKeys, IsSealable, WillHave}
use Rattle.journal_bytes.proofs.Ascending.{session_rises}
use Rattle.journal_bytes.proofs.StepKeys.{newest-kept, newest-split}
use Rattle.journal_bytes.proofs.StepSealed.{counted_after, sealing_same}

pub newest-role : (keys : List (Role × ℕ)) (r : Role) (n : ℕ) → newest keys r ≡ Some n → In r (map (λ (key : Role × ℕ). key.0) keys)
unfolding newest
newest-role [] r n = λ e. absurd cc
newest-role (x ∷ xs) r n =
    (elim (same_role x.0 r) as (λ b. same_role x.0 r ≡ b → cond b (Some x.1) (newest xs r) ≡ Some n → In r (x.0 ∷ map (λ (key : Role × ℕ). key.0) xs)) [
      | true ↦ λ t e. inl (sym ((same_role_tells x.0 r).0 t))
      | false ↦ λ t e. inr (newest-role xs r n e)
    ]) refl

module _ (keys : List KeyParts) (k : KeyState) (before : List Edge) (c : Change) (pieces : List Piece) (ring : Ringed) (counter : Counting) (s : Skeleton) (text : List ℕ)
    (holds : HoldsKeys keys k ring counter) (can : IsSealable (key_step k before c pieces)) (skeleton : IsSkeleton (key_step k before c pieces) s) where
  will : (r : Role) (n : ℕ) → newest (key_step k before c pieces).after.keys r ≡ Some n → WillHave ring s.keys.items r
  unfolding key_step step_with published keys_then
  will r n e =
      ⊎_elim
      (λ here. inr (subst (λ (g : List (Role × ℕ)). In r (map (λ (key : Role × ℕ). key.0) g)) (sym skeleton.keys) (newest-role (given k c (renewed k before c)) r n here)))
      (λ there. inl (subst (λ (o : Option KeyParts). IsSome o) (sym (holds.has_present r n (newest-kept (renewed k before c ++ c.gone) k.keys r n there.1))) refl))
      (newest-split (given k c (renewed k before c)) (keys_without (renewed k before c ++ c.gone) k.keys) r n e)

  will_link : (l : Link) → In l s.links.items → CanLink ring s.keys.items l
  will_link l i =
      let j = subst (λ (ls : List Link). In l ls) skeleton.links i in
      record {
        is_tabled = can.tabled l j;
        has_source = will l.edge.from l.from_serial (can.sources l j);
        has_target = will l.edge.to l.to_serial (can.targets l j);
      }

  will_seal : HasLength (key_step k before c pieces) text → (h : ContentHead) → In h s.contents.items → CanSealText ring s.keys.items text h
  will_seal sizes h i =
      let w = (In-map Content ContentHead content_head h (key_step k before c pieces).contents).0 (subst (λ (hs : List ContentHead). In h hs) skeleton.contents i) in
      let x : Content = w.0 in
      let kinds = can.kinds x w.1 in
      let size = sizes x w.1 in
      let key = will _ x.key_serial (can.sealing x w.1) in
      subst (CanSealText ring s.keys.items text) (sym w.2) (record {
        kind_from_one = kinds.0;
        kind_to_three = kinds.1;
        has_key = subst (WillHave ring s.keys.items) (sym (sealing_same x.piece)) key;
        text_from = size.0;
        text_to = size.1;
      })

  pub can_seal : (drawn : List (List ℕ)) → (key_step k before c pieces).after.count < 4294967296 → length drawn ≡ length s.keys.items → length s.keys.items ≤ ring.spare
      → HasLength (key_step k before c pieces) text → CanSeal ring counter s drawn text
  can_seal drawn small long room sizes =
      let counted = counted_after k before c pieces counter s holds.is_counted skeleton in
      record {
        enough_drawn = long;
        enough_room = room;
        no_owner = λ key i. can.no_owner key (subst (λ (g : List (Role × ℕ)). In key g) skeleton.keys i);
        enough_serials = omega (arith, counted, small);
        each_link = will_link;
        one_content = let few = can.one_content in let many = ap length skeleton.contents ∙ length-map (key_step k before c pieces).contents content_head in omega (arith, few, many);
        each_content = will_seal sizes;
      }

-- ---- the next epoch

abbrev counts : ℕ → ℕ → Counting
counts epoch count = record { epoch = epoch; count = count }

same_newest : (k : KeyState) (r : Role) (n : ℕ) → newest (next_epoch k).keys r ≡ Some n → newest k.keys r ≡ Some n
unfolding next_epoch
same_newest k r n e = e

next_count : (k : KeyState) → counts (k.epoch + 1) 0 ≡ counts (next_epoch k).epoch (next_epoch k).count
unfolding next_epoch
next_count k = refl

pub next_holds : (keys : List KeyParts) (k : KeyState) (ring : Ringed) (counter : Counting) → HoldsKeys keys k ring counter → k.count ≤ 4294967296
    → HoldsKeys keys (next_epoch k) ring (record { epoch = k.epoch + 1; count = 0 })
next_holds keys k ring counter holds small =
    let rises = session_rises k small in
    record {
      has_present = λ r n e. holds.has_present r n (same_newest k r n e);
      drawn_below = λ key i. let low = holds.drawn_below key i in omega arith;
      present_below = λ r n e. let low = holds.present_below r n (same_newest k r n e) in omega arith;
      is_counted = next_count k;
    }
