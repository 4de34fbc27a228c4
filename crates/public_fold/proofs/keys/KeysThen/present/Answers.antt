use Rattle.std.proofs.Common.{◌≡◌, Some, None, refl, sym, ap, ◌∙◌}
use Rattle.std.specs.Prelude.{Option, unwrap_or}
use Rattle.std.specs.Option.{option_map}
use Rattle.cry_base.specs.declared.ids.Serial.{Serial}
use Rattle.public_fold.specs.KeyStep.{present}
use Rattle.public_fold.proofs.KeyTabled.{present-given, present-gone, present-kept}
use Rattle.public_fold.proofs.keys.KeysThen.present.Goals as goal

number_or : (o : Option Serial) → (unwrap_or o (record { 0 = 0 })).0 ≡ unwrap_or (option_map (λ (s : Serial). s.0) o) 0
number_or None = refl
number_or (Some s) = refl

pub returns-in-Some : goal.returns-in-Some
returns-in-Some c =
    present-given c.args.self.now.given.now c.args.self.now.old.now.keys c.args.self.now.gone.now c.args.role c.in-Some.serial.0 (sym c.in-Some.ensures)

pub returns-then-has_role : goal.returns-then-has_role
returns-then-has_role c =
    present-gone c.args.self.now.given.now c.args.self.now.old.now.keys c.args.self.now.gone.now c.args.role (sym c.in_default.ensures) (sym c.has_role.ensures ∙ c.if-has_role.true)

pub returns : goal.returns
unfolding present
returns c =
    ap (λ (s : Serial). s.0) c.unwrap_or.ensures
    ∙ number_or c.newest.result
    ∙ ap (λ o. unwrap_or o 0) c.newest.ensures
    ∙ present-kept c.args.self.now.given.now c.args.self.now.old.now.keys c.args.self.now.gone.now c.args.role (sym c.in_default.ensures) (sym c.has_role.ensures ∙ c.if-has_role.false)
