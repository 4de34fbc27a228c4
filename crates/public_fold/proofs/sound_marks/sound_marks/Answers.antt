use Rattle.std.proofs.Common.{◌≡◌, List, map, length, sym, ap, ◌∙◌, subst}
use Rattle.std.specs.List.{list_all}
use Rattle.std.proofs.lemmas.Bool.{false≢true}
use Rattle.cry_base.specs.declared.roles.Role.{Role}
use Rattle.index_format.specs.Plain.{plain_state}
use Rattle.index_format.specs.declared.rows.MarkRow.{MarkRow}
use Rattle.role_graph.specs.Ascending.{IsAscending}
use Rattle.public_fold.specs.RowTests.{is_mark_place, stands_beside}
use Rattle.public_fold.specs.States.{marked_of, role_of_mark}
use Rattle.public_fold.proofs.RowTested.{all_stand, mark_places_told}
use Rattle.public_fold.proofs.SoundParts.{marks_sound, sound_marks_closed, sound_marks_stand}
use Rattle.public_fold.proofs.sound_marks.sound_marks.Goals as goal

pub returns-then-not-are_mark_places : goal.returns-then-not-are_mark_places
returns-then-not-are_mark_places c =
    let s = plain_state c.args.rows.now in
    let places : c.are_mark_places.result ≡ list_all (λ (row : MarkRow). is_mark_place row.place) s.marks =
    c.are_mark_places.ensures ∙ ap (list_all (λ (row : MarkRow). is_mark_place row.place)) c.as_slice.ensures in
    λ sound. false≢true (sym c.if-not-are_mark_places.true ∙ places ∙ (mark_places_told s.marks).1 sound.places)

pub returns-then-not-do_stand : goal.returns-then-not-do_stand
returns-then-not-do_stand c =
    let s = plain_state c.args.rows.now in
    let tree = c.args.shape.now.tree in
    let g = c.args.grants.now in
    let some = rw c.in-Some.is at c.in_ok-dirty.ensures in
    let marked : List Role = c.in-Some.dirty in
    let are : marked ≡ marked_of s = some.1 ∙ c.as_slice-3.ensures ∙ c.in_ok-roles.ensures ∙ ap (map role_of_mark) c.as_slice-2.ensures in
    let stand : c.do_stand.result ≡ list_all (λ (r : Role). stands_beside tree g.pairs (length g.checks) r) marked =
    c.do_stand.ensures ∙ ap (list_all (λ (r : Role). stands_beside tree g.pairs (length g.checks) r)) c.as_slice-4.ensures.roles in
    λ sound. false≢true (sym c.if-not-do_stand.true ∙ stand ∙ (all_stand tree g marked).1 (sound_marks_stand s tree g c.requires.tree c.requires.checks c.requires.pairs marked are sound))

pub returns-then-not-branch : goal.returns-then-not-branch
returns-then-not-branch c =
    let s = plain_state c.args.rows.now in
    let tree = c.args.shape.now.tree in
    let g = c.args.grants.now in
    let some = rw c.in-Some.is at c.in_ok-dirty.ensures in
    let marked : List Role = c.in-Some.dirty in
    let are : marked ≡ marked_of s = some.1 ∙ c.as_slice-3.ensures ∙ c.in_ok-roles.ensures ∙ ap (map role_of_mark) c.as_slice-2.ensures in
    λ sound. false≢true (sym c.if-not-branch.true ∙ c.in_ok-is_closed.ensures.1 (sound_marks_closed s tree g c.requires.tree c.requires.checks c.requires.pairs marked are sound))

pub returns : goal.returns
returns c =
    let s = plain_state c.args.rows.now in
    let tree = c.args.shape.now.tree in
    let g = c.args.grants.now in
    let some = rw c.in-Some.is at c.in_ok-dirty.ensures in
    let marked : List Role = c.in-Some.dirty in
    let are : marked ≡ marked_of s = some.1 ∙ c.as_slice-3.ensures ∙ c.in_ok-roles.ensures ∙ ap (map role_of_mark) c.as_slice-2.ensures in
    let places : c.are_mark_places.result ≡ list_all (λ (row : MarkRow). is_mark_place row.place) s.marks =
    c.are_mark_places.ensures ∙ ap (list_all (λ (row : MarkRow). is_mark_place row.place)) c.as_slice.ensures in
    let stand : c.do_stand.result ≡ list_all (λ (r : Role). stands_beside tree g.pairs (length g.checks) r) marked =
    c.do_stand.ensures ∙ ap (list_all (λ (r : Role). stands_beside tree g.pairs (length g.checks) r)) c.as_slice-4.ensures.roles in (
      marks_sound s tree g c.requires.tree c.requires.checks c.requires.pairs marked are
          ((mark_places_told s.marks).0 (sym places ∙ c.if-not-are_mark_places.false))
          (subst IsAscending (sym some.1) some.0)
          ((all_stand tree g marked).0 (sym stand ∙ c.if-not-do_stand.false))
          (c.in_ok-is_closed.ensures.0 c.if-not-branch.false),
      are,
    )
