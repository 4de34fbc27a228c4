use Rattle.std.proofs.Common.{◌≡◌, ℕ, ◌∷◌, List, map, sym, ap, ◌∙◌, subst}
use Rattle.std.specs.List.{list_all}
use Rattle.std.specs.Prelude.{nat_lt}
use Rattle.std.proofs.lemmas.Bool.{false≢true}
use Rattle.cry_base.specs.declared.roles.Role.{Role}
use Rattle.cry_base.specs.declared.roles.Role.TheVariants.{Owner}
use Rattle.index_format.specs.Plain.{plain_state}
use Rattle.index_format.specs.declared.rows.KeyRow.{KeyRow}
use Rattle.role_graph.specs.Ascending.{IsAscending}
use Rattle.public_fold.specs.AtKeys.{roles_of}
use Rattle.public_fold.specs.KeyStep.{next_serial}
use Rattle.public_fold.specs.RowTests.{is_key_place}
use Rattle.public_fold.specs.States.{HaveOwnSerials, key_of_row, key_state_of, keys_of_rows}
use Rattle.public_fold.proofs.RowTested.{below_told, key_places_told}
use Rattle.public_fold.proofs.SoundParts.{keys_sound, next_is, sound_below, sound_keyed, sound_own}
use Rattle.public_fold.proofs.sound_keys.sound_keys.Goals as goal

pub returns-then-not-are_key_places : goal.returns-then-not-are_key_places
returns-then-not-are_key_places c =
    let s = plain_state c.args.rows.now in
    let places : c.are_key_places.result ≡ list_all (λ (row : KeyRow). is_key_place row.place) s.keys =
    c.are_key_places.ensures ∙ ap (list_all (λ (row : KeyRow). is_key_place row.place)) c.as_slice.ensures in
    λ sound. false≢true (sym c.if-not-are_key_places.true ∙ places ∙ (key_places_told s.keys).1 sound.places)

pub returns-then-not-are_keyed : goal.returns-then-not-are_keyed
returns-then-not-are_keyed c =
    let s = plain_state c.args.rows.now in
    let tree = c.args.shape.now.tree in
    let g = c.args.grants.now in
    let keys : List (Role × ℕ) = c.in_ok-keys.keys.items in
    let keys_are : keys ≡ keys_of_rows s = c.in_ok-keys.ensures ∙ ap (λ (rows : List KeyRow). (Owner, 0) ∷ map key_of_row rows) c.as_slice-2.ensures in
    let some = rw c.in-Some.is at c.in_ok-keyed.ensures in
    let keyed : List Role = c.in-Some.keyed in
    let roles : keyed ≡ roles_of keys = some.1 ∙ c.as_slice-4.ensures ∙ c.in_ok-roles.ensures ∙ ap roles_of c.as_slice-3.ensures in
    λ sound. false≢true (sym c.if-not-are_keyed.true ∙ c.are_keyed.ensures.1 (sound_keyed s tree g c.requires.tree c.requires.checks c.requires.pairs keys keys_are keyed roles sound))

pub returns-then-not-are_below : goal.returns-then-not-are_below
returns-then-not-are_below c =
    let s = plain_state c.args.rows.now in
    let tree = c.args.shape.now.tree in
    let g = c.args.grants.now in
    let keys : List (Role × ℕ) = c.in_ok-keys.keys.items in
    let keys_are : keys ≡ keys_of_rows s = c.in_ok-keys.ensures ∙ ap (λ (rows : List KeyRow). (Owner, 0) ∷ map key_of_row rows) c.as_slice-2.ensures in
    let some = rw c.in-Some.is at c.in_ok-keyed.ensures in
    let keyed : List Role = c.in-Some.keyed in
    let roles : keyed ≡ roles_of keys = some.1 ∙ c.as_slice-4.ensures ∙ c.in_ok-roles.ensures ∙ ap roles_of c.as_slice-3.ensures in
    let below : c.are_below.result ≡ list_all (λ (key : Role × ℕ). nat_lt key.1 (next_serial (key_state_of s))) keys =
    c.are_below.ensures ∙ (λ k. list_all (λ (key : Role × ℕ). nat_lt key.1 ((c.next_serial-next.ensures ∙ next_is s) k)) (c.as_slice-5.ensures k)) in
    λ sound. false≢true (sym c.if-not-are_below.true ∙ below ∙ (below_told (next_serial (key_state_of s)) keys).1 (sound_below s tree g c.requires.tree c.requires.checks c.requires.pairs keys keys_are keyed roles sound))

pub returns-then-not-branch : goal.returns-then-not-branch
returns-then-not-branch c =
    let s = plain_state c.args.rows.now in
    let tree = c.args.shape.now.tree in
    let g = c.args.grants.now in
    let keys : List (Role × ℕ) = c.in_ok-keys.keys.items in
    let keys_are : keys ≡ keys_of_rows s = c.in_ok-keys.ensures ∙ ap (λ (rows : List KeyRow). (Owner, 0) ∷ map key_of_row rows) c.as_slice-2.ensures in
    let some = rw c.in-Some.is at c.in_ok-keyed.ensures in
    let keyed : List Role = c.in-Some.keyed in
    let roles : keyed ≡ roles_of keys = some.1 ∙ c.as_slice-4.ensures ∙ c.in_ok-roles.ensures ∙ ap roles_of c.as_slice-3.ensures in
    λ sound. false≢true (sym c.if-not-branch.true ∙ c.in_ok-have_own_serials.ensures.1 (subst HaveOwnSerials (sym c.as_slice-6.ensures) (sound_own s tree g c.requires.tree c.requires.checks c.requires.pairs keys keys_are keyed roles sound)))

pub returns : goal.returns
returns c =
    let s = plain_state c.args.rows.now in
    let tree = c.args.shape.now.tree in
    let g = c.args.grants.now in
    let keys : List (Role × ℕ) = c.in_ok-keys.keys.items in
    let keys_are : keys ≡ keys_of_rows s = c.in_ok-keys.ensures ∙ ap (λ (rows : List KeyRow). (Owner, 0) ∷ map key_of_row rows) c.as_slice-2.ensures in
    let some = rw c.in-Some.is at c.in_ok-keyed.ensures in
    let keyed : List Role = c.in-Some.keyed in
    let roles : keyed ≡ roles_of keys = some.1 ∙ c.as_slice-4.ensures ∙ c.in_ok-roles.ensures ∙ ap roles_of c.as_slice-3.ensures in
    let places : c.are_key_places.result ≡ list_all (λ (row : KeyRow). is_key_place row.place) s.keys =
    c.are_key_places.ensures ∙ ap (list_all (λ (row : KeyRow). is_key_place row.place)) c.as_slice.ensures in
    let below : c.are_below.result ≡ list_all (λ (key : Role × ℕ). nat_lt key.1 (next_serial (key_state_of s))) keys =
    c.are_below.ensures ∙ (λ k. list_all (λ (key : Role × ℕ). nat_lt key.1 ((c.next_serial-next.ensures ∙ next_is s) k)) (c.as_slice-5.ensures k)) in (
      keys_sound s tree g c.requires.tree c.requires.checks c.requires.pairs keys keys_are keyed roles
          ((key_places_told s.keys).0 (sym places ∙ c.if-not-are_key_places.false))
          (subst IsAscending (sym some.1) some.0)
          (c.are_keyed.ensures.0 c.if-not-are_keyed.false)
          ((below_told (next_serial (key_state_of s)) keys).0 (sym below ∙ c.if-not-are_below.false))
          (subst HaveOwnSerials c.as_slice-6.ensures (c.in_ok-have_own_serials.ensures.0 c.if-not-branch.false)),
      c.in_ok-of_keys.ensures ∙ c.as_slice-7.ensures ∙ keys_are,
    )
