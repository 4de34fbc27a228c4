use Rattle.std.proofs.Common.{◌≡◌, ℕ, List, Bool, true, false, not, ◌⊎◌, ◌↔◌, ⊎_elim, sym, ap, ◌∙◌, subst}
use Rattle.std.specs.List.{list_any}
use Rattle.std.specs.BTreeMap.{is_at}
use Rattle.std.specs.Ordering.{nat_cmp}
use Rattle.std.proofs.lemmas.Bool.{cases_Bool, false≢true}
use Rattle.cry_base.specs.Sets.{In}
use Rattle.public_fold.proofs.OwnSerials.{any_seen, put_in}
use Rattle.public_fold.proofs.sound_keys.add_new.Goals as goal

pub returns-clause-new : goal.returns-clause-new
returns-clause-new c =
    let there : Bool = list_any (is_at (nat_cmp c.args.number)) c.args.seen.now.keys in
    let is : c.in_ok-new.new ≡ not there = c.in_ok-new.ensures.added in
    let told = any_seen c.args.seen.now.keys c.args.number in (
      λ new i. false≢true (sym (is ∙ ap not (told.1 i)) ∙ new),
      λ out. ⊎_elim (λ (t : there ≡ true). absurd (out (told.0 t))) (λ (f : there ≡ false). is ∙ ap not f) (cases_Bool there),
    )

pub returns-clause-all : goal.returns-clause-all
returns-clause-all c = λ n.
    subst (λ (l : List ℕ). In n l ↔ ((n ≡ c.args.number) ⊎ In n c.args.seen.now.keys)) (sym c.in_ok-new.ensures.keys) (put_in n c.args.number c.args.seen.now.keys)
