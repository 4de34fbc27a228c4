use Rattle.std.proofs.Common.{◌≡◌, Some, None, sym, ap, ◌∙◌}
use Rattle.std.specs.Option.{option_copied}
use Rattle.key_links.specs.Ringed.{serial_in}
use Rattle.key_links.proofs.Ringing.{absent_is, is_there, present_is}
use Rattle.key_links.proofs.ring.KeyRing.present.Goals as goal

pub returns-in-Some : goal.returns-in-Some
returns-in-Some c =
    let is : Some c.serial.result ≡ serial_in c.args.self.now c.args.role =
    present_is c.args.self.now c.args.role c.in-Some.key.now c.serial.result (ap option_copied (sym c.in-Some.is) ∙ c.find.ensures) c.serial.ensures in
    record { serial = is; there = is_there c.args.self.now c.args.role (Some c.serial.result) is }

pub returns-in-None : goal.returns-in-None
returns-in-None c =
    let is : None ≡ serial_in c.args.self.now c.args.role =
    absent_is c.args.self.now c.args.role (ap option_copied (sym c.in-None.is) ∙ c.find.ensures) in
    record { serial = is; there = is_there c.args.self.now c.args.role None is }
