use Rattle.std.proofs.Common.{◌++◌, refl, sym, ap, ◌∙◌, arith}
use Rattle.std.proofs.lemmas.List.{append-nil}
use Rattle.head_tree.specs.Climbing.{listed}
use Rattle.head_tree.proofs.climb.Climb.rise.Goals as goal

pub returns-in-Some : goal.returns-in-Some
unfolding listed
returns-in-Some c = record {
  level = refl;
  size = refl;
  before = refl;
  proof = c.put.ensures.items ∙ ap (λ o. c.args.self.now.proof.items ++ listed o) (sym c.in-Some.is);
  room = omega (arith, c.requires.room, c.put.ensures.spare);
}

pub returns-in_default : goal.returns-in_default
unfolding listed
returns-in_default c = record {
  level = refl;
  size = refl;
  before = refl;
  proof = sym (append-nil c.args.self.now.proof.items) ∙ ap (λ o. c.args.self.now.proof.items ++ listed o) (sym c.in_default.is);
  room = omega (arith, c.requires.room);
}
