use Rattle.std.proofs.Common.{◌<◌, ℕ, length, ap, sym, refl, ◌∙◌, arith}
use Rattle.cry_base.specs.declared.roles.Role.{Role}
use Rattle.public_fold.specs.KeyTables.{KeyRows, kind_of}
use Rattle.public_fold.proofs.InKinds.{put_in, room_in, room_left}
use Rattle.public_fold.proofs.by_kind.KeysByKind.put.Goals as goal

within : (c : goal.After-index-self-kind_of) → c.kind_of.result < length c.self.inside.tables
within c = omega (arith, c.kind_of.ensures.within, c.self.invariant)

pub put_row-requires : goal.put_row-requires
put_row-requires c =
    let room = rw (← c.self.view_is) at c.requires in
    let here = room_in (λ t. t.spare) c.self.inside.tables c.kind_of.result c.index-self-kind_of.result c.index-self-kind_of.result (within c) in
    omega (arith, room, here)

pub returns-clause-serials : goal.returns-clause-serials
returns-clause-serials c =
    put_in (λ t. t.rows) c.self.inside.tables c.kind_of.result c.index-self-kind_of.result _ c.args.self.now _
    (sym (ap (λ (t : KeyRows). t.tables) c.self.view_is)) refl (omega (arith, c.kind_of.ensures.within, c.self.invariant))
    c.args.key (c.kind_of.ensures.kind ∙ ap (λ (key : Role × ℕ). kind_of key.0) c.key.view_is) c.put_row.ensures.serials

pub returns-clause-spare : goal.returns-clause-spare
returns-clause-spare c =
    rw (← c.self.view_is) (room_left (λ t. t.spare) c.self.inside.tables c.kind_of.result c.index-self-kind_of.result _
    (omega (arith, c.kind_of.ensures.within, c.self.invariant)) 1 c.put_row.ensures.spare)
