use Rattle.std.proofs.Common.{ℕ, List, [], arith, ◌-◌, drop, length, slice_index_or, take, refl, sym, subst, ◌∙◌}
use Rattle.std.proofs.lemmas.List.{take_rest}
use Rattle.store_owner.specs.Drawing.{joined}
use Rattle.store_owner.specs.Counted.{root_counted}
use Rattle.store_owner.specs.Making.{IsMade, IsMadeJournal}
use Rattle.commit_journal.specs.Handing.{Hands, Write}
use Rattle.store_owner.specs.Owned.{OwnerView, owner_at}
use Rattle.store_owner.specs.Stopping.{ShowsWritten}
use Rattle.store_owner.proofs.MadePieces.{five_left, fresh_are, is_made, rest_keys, shows_fresh, six_pieces}
use Rattle.store_owner.proofs.making.made.Goals as goal

pub write-requires-clause-five : goal.write-requires-clause-five
write-requires-clause-five g c =
    let drawn = c.args.drawn.now in
    let rest = take (length drawn - 1) (drop 1 drawn) in
    five_left (slice_index_or drawn 0 []) rest drawn c.requires.six c.requires.sizes refl (take_rest drawn 1)

pub into_owner-requires : goal.into_owner-requires
into_owner-requires g c =
    let drawn = c.args.drawn.now in
    let owner = slice_index_or drawn 0 [] in
    let rest = take (length drawn - 1) (drop 1 drawn) in
    let behind = take_rest drawn 1 in
    let blank = c.write.new.self in
    record {
      sound = c.makers_own_the_store.ensures.sound (owner_at owner blank.journal blank.state blank.names blank.ring c.args.limits.file_bytes root_counted) owner rest c.args.making.blank.journal.limit
          (six_pieces drawn c.requires.six c.requires.sizes).first_long (five_left owner rest drawn c.requires.six c.requires.sizes refl behind) (rest_keys owner rest drawn c.requires.six c.requires.sizes refl behind) refl
          c.in-Ok.ensures.journal c.in-Ok.ensures.stands c.in-Ok.ensures.root c.in-Ok.ensures.seen c.in-Ok.ensures.held refl c.requires.files;
      end = let e = c.in-Ok.ensures.journal.ends_at in omega (arith, e);
    }

pub returns-clause-made : goal.returns-clause-made
returns-clause-made g c =
    let drawn = c.args.drawn.now in
    let owner = slice_index_or drawn 0 [] in
    let rest = take (length drawn - 1) (drop 1 drawn) in
    let behind = take_rest drawn 1 in
    let blank = c.write.new.self in
    let o : OwnerView = owner_at owner blank.journal blank.state blank.names blank.ring c.args.limits.file_bytes root_counted in
    subst (λ (x : OwnerView). IsMade (joined drawn) c.args.limits x) (sym c.into_owner.ensures)
    (is_made owner rest drawn c.requires.six c.requires.sizes refl behind c.args.limits o refl
    (c.makers_own_the_store.ensures.owner o owner rest c.args.making.blank.journal.limit
    (six_pieces drawn c.requires.six c.requires.sizes).first_long (five_left owner rest drawn c.requires.six c.requires.sizes refl behind) (rest_keys owner rest drawn c.requires.six c.requires.sizes refl behind) refl
    c.in-Ok.ensures.journal c.in-Ok.ensures.stands c.in-Ok.ensures.root c.in-Ok.ensures.seen c.in-Ok.ensures.held refl c.requires.files)
    (subst (λ (n : ℕ). IsMadeJournal owner n blank.journal) c.requires.limit c.in-Ok.ensures.journal) refl refl refl)

pub returns-clause-shows : goal.returns-clause-shows
returns-clause-shows g c = λ s is.
    let drawn = c.args.drawn.now in
    let rest = take (length drawn - 1) (drop 1 drawn) in
    c.in-Ok.ensures.shows s is
    ∙ shows_fresh (slice_index_or drawn 0 []) rest drawn c.requires.six c.requires.sizes refl (take_rest drawn 1) (c.fresh_journal_has_the_fresh_image.ensures (joined drawn))

pub returns-clause-hands : goal.returns-clause-hands
returns-clause-hands g c =
    let D = g.D.Disk in
    let a = c.args.disk.now in
    let b = c.write.new.disk in
    let drawn = c.args.drawn.now in
    subst (λ (ws : List Write). Hands ws (Unit {0}) (D.shown a) (D.shown b) (D.since b (D.moment a)))
    (fresh_are (slice_index_or drawn 0 []) (take (length drawn - 1) (drop 1 drawn)) drawn c.requires.six c.requires.sizes refl (take_rest drawn 1)) c.write.ensures.hands

pub returns-in_default-clause-hands : goal.returns-in_default-clause-hands
returns-in_default-clause-hands g c =
    let D = g.D.Disk in
    let a = c.args.disk.now in
    let b = c.write.new.disk in
    let drawn = c.args.drawn.now in
    subst (λ (ws : List Write). Hands ws (Unit {0}) (D.shown a) (D.shown b) (D.since b (D.moment a)))
    (fresh_are (slice_index_or drawn 0 []) (take (length drawn - 1) (drop 1 drawn)) drawn c.requires.six c.requires.sizes refl (take_rest drawn 1)) c.write.ensures.hands

pub returns-clause-handed : goal.returns-clause-handed
returns-clause-handed g c =
    let D = g.D.Disk in
    let drawn = c.args.drawn.now in
    subst (λ (ws : List Write). ShowsWritten ws (D.shown c.args.disk.now) (D.shown c.write.new.disk))
    (fresh_are (slice_index_or drawn 0 []) (take (length drawn - 1) (drop 1 drawn)) drawn c.requires.six c.requires.sizes refl (take_rest drawn 1)) c.in-Ok.ensures.handed
