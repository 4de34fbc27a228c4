-- The plain store refuses no line of a generated script.
use Rattle.std.proofs.Common.{◌≡◌, ◌≢◌, ℕ, zero, suc, ◌%◌, ◌<◌, ◌≤◌, true, false, cond, List, None, refl, sym, subst, inl, inr, arith}
use Rattle.std.specs.Prelude.{◌==◌, nat_lt}
use Rattle.cry_base.specs.Refusing.{refusal_of}
use Rattle.cry_base.specs.Stepping.{effect}
use Rattle.cry_base.specs.Store.{Store, FileEntry}
use Rattle.store_gen.specs.Accepting.{AcceptsAll}
use Rattle.store_gen.specs.Rule.{asks, IsReady, advanced, change_of, changed, drawn, drawn_requests, kind_in, folder_in, other_in, who_in, byte_in, home_of, has_granted, other_folder, grant_change, move_change}
use Rattle.store_gen.specs.Standing.{Stands, IsFile}
use Rattle.store_gen.specs.declared.change.Change.{Change}
use Rattle.store_gen.specs.declared.change.Change.TheVariants as change
use Rattle.store_gen.specs.declared.generator.Generator.{Generator}
use Rattle.store_gen.proofs.Refused.{write_accepted, grant_accepted, revoke_accepted, move_accepted}
use Rattle.store_gen.proofs.Effects.{write_stands, grant_stands, revoke_stands, move_stands}

-- a change that suits what stands
abbrev pub Suits : Generator → Change → Type 0
Suits g (change.Write folder file byte) = (folder < 8) × (file < 8) × (byte < 256)
Suits g (change.Grant who folder) = (who < 4) × (folder < 8) × (has_granted g who folder ≡ false)
Suits g (change.Revoke who folder) = (who < 4) × (folder < 8) × (has_granted g who folder ≡ true)
Suits g (change.Move file from into) = (file < 8) × (into < 8) × (from ≡ home_of g file) × (into ≢ home_of g file)

-- it is accepted, and afterwards what the generator has stands again
pub kept : (g : Generator) (s : Store) (file_bytes : ℕ) → Stands g s → 1 ≤ file_bytes → (c : Change) → Suits g c
    → (refusal_of s (asks c) file_bytes ≡ None) × ((key : List ℕ) → Stands (changed g c) (effect s (asks c) key))
kept g s n stands one (change.Write folder file byte) suits =
    (write_accepted g s stands n one folder file byte suits.0 suits.1, λ key. write_stands g s stands folder file byte key suits.0 suits.1)
kept g s n stands one (change.Grant who folder) suits =
    (grant_accepted g s stands n one who folder suits.0 suits.1 suits.2, λ key. grant_stands g s stands who folder key suits.0 suits.1)
kept g s n stands one (change.Revoke who folder) suits =
    (revoke_accepted g s stands n one who folder suits.0 suits.1 suits.2, λ key. revoke_stands g s stands who folder key suits.0 suits.1)
kept g s n stands one (change.Move file from into) suits =
    let here : from ≡ home_of g file = suits.2 in
    subst (λ (f : ℕ). (refusal_of s (asks (change.Move file f into)) n ≡ None) × ((key : List ℕ) → Stands (changed g (change.Move file f into)) (effect s (asks (change.Move file f into)) key)))
    (sym here)
    (move_accepted g s stands n one file into suits.0 suits.1 suits.3, λ key. move_stands g s stands file into key suits.0 suits.1)

other_is_other : (from k : ℕ) → from < 8 → other_folder from k ≢ from
other_is_other from k h = λ same. let small : k % 7 < 7 = omega arith in absurd (omega arith)

other_within : (from k : ℕ) → other_folder from k < 8
other_within from k = omega arith

-- so is what a number asks for
pub suited : (g : Generator) → IsReady g → Suits g (change_of g)
unfolding change_of
suited g ready =
    let x : ℕ = g.number in
    let folder : folder_in x < 8 = omega arith in
    let other : other_in x < 8 = omega arith in
    let who : who_in x < 4 = omega arith in
    let byte : byte_in x < 256 = omega arith in
    let grant : Change = grant_change (has_granted g (who_in x) (folder_in x)) (who_in x) (folder_in x) in
    let move : Change = move_change (folder_in x) (home_of g (folder_in x)) (other_in x) in
    let granting : Suits g grant =
    (elim (has_granted g (who_in x) (folder_in x)) as (λ b. has_granted g (who_in x) (folder_in x) ≡ b → Suits g (grant_change b (who_in x) (folder_in x))) [
      | true ↦ λ t. (who, folder, t)
      | false ↦ λ f. (who, folder, f)
    ]) refl in
    let moving : Suits g move =
    (folder, other_within (home_of g (folder_in x)) (other_in x), refl, other_is_other (home_of g (folder_in x)) (other_in x) (ready.within (folder_in x) folder)) in
    elim (nat_lt (kind_in x) 2) as (λ b. Suits g (cond b (change.Write (folder_in x) (other_in x) (byte_in x)) (cond (kind_in x == 2) grant move))) [
      | true ↦ (folder, other, byte)
      | false ↦ elim (kind_in x == 2) as (λ b. Suits g (cond b grant move)) [ true ↦ granting | false ↦ moving ]
    ]

pub advanced_stands : (g : Generator) (s : Store) → Stands g s → Stands (advanced g) s
advanced_stands g s stands = record {
  ready = record { files = stands.ready.files; grants = stands.ready.grants; within = stands.ready.within };
  folders = stands.folders;
  holders = stands.holders;
  grants = stands.grants;
  all = λ e i. again e (stands.all e i);
  each = stands.each;
  made = stands.made;
}
  where
    again : (e : FileEntry) → IsFile g e → IsFile (advanced g) e
    again e (inl w) = inl (w.0, record { below = w.1.below; id = w.1.id; name = w.1.name; folder = w.1.folder })
    again e (inr w) = inr w

pub drawn_accepted : (count : ℕ) (g : Generator) (s : Store) (file_bytes : ℕ) → Stands g s → 1 ≤ file_bytes → AcceptsAll file_bytes s (drawn_requests count g)
unfolding drawn_requests
drawn_accepted zero g s n stands one = tt
drawn_accepted (suc count) g s n stands one =
    let now = advanced_stands g s stands in
    let line = kept (advanced g) s n now one (change_of (advanced g)) (suited (advanced g) now.ready) in
    (line.0, λ key. drawn_accepted count (drawn g) (effect s (asks (change_of (advanced g))) key) n (line.1 key) one)
