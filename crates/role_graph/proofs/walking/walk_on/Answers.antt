use Rattle.std.proofs.Common.{◌≡◌, ◌↔◌, ◌+◌, ◌≤◌, ◌<◌, List, length, get_or, arith, refl, sym, ap, ◌∙◌, subst}
use Rattle.std.specs.Prelude.{option_copied}
use Rattle.std.proofs.lemmas.Result.{IfOk-weaker}
use Rattle.cry_base.specs.Sets.{In}
use Rattle.cry_base.specs.Store.{Store}
use Rattle.cry_base.specs.declared.roles.Edge.{Edge}
use Rattle.cry_base.specs.declared.roles.Role.{Role}
use Rattle.cry_base.specs.declared.roles.Role.TheVariants.{Owner}
use Rattle.role_graph.specs.Adjacent.{HaveSame, as_walked, edges_but, ending_in, ends_from, out_of, roles_in, with_new}
use Rattle.role_graph.specs.Closing.{IsReached}
use Rattle.role_graph.specs.Edges.{unordered}
use Rattle.role_graph.proofs.Walked.{ends_in, fewer_ends, fewer_in, walk_begins, walk_bounded, look_costs, walk_costs, walk_ends, walk_goes_on}
use Rattle.role_graph.proofs.walking.walk_on.Goals as goal

pub loop-done-init : goal.loop-done-init
loop-done-init g c =
    let es = unordered (g.R.Adjacent.store c.args.roles.now) in
    let none = c.reserve.ensures.items ∙ c.new-found.ensures in
    let start : HaveSame c.reserve.new.self.items c.new-seen.result.keys = λ r. (
      λ i. absurd (subst (In r) none i),
      λ i. absurd (subst (In r) c.new-seen.ensures.empty i),
    ) in
    record {
      walking = walk_begins (as_walked c.args.way es) (ending_in (option_copied c.args.within) (as_walked c.args.way (edges_but c.args.removed.now es))) c.args.from.now c.add_all.new.found.items (g.R.Adjacent.steps c.args.roles.now)
          (c.in_ok-add_all.ensures.found start ∙ ap (λ (l : List Role). with_new l c.args.from.now) none);
      stays = refl;
      same = c.in_ok-add_all.ensures.seen start;
    }

pub loop-done-smaller : goal.loop-done-smaller
loop-done-smaller g c =
    let es = unordered (g.R.Adjacent.store c.args.roles.now) in
    let found = c.loop-done.found.items in
    let less : c.loop-done.done < length found = subst (λ (l : List Role). c.loop-done.done < length l) c.as_slice.ensures c.loop-done-test.true in
    let most = walk_bounded (as_walked c.args.way es) (ending_in (option_copied c.args.within) (as_walked c.args.way (edges_but c.args.removed.now es))) c.args.from.now found c.loop-done.done (g.R.Adjacent.steps c.args.roles.now) (g.R.Adjacent.steps c.loop-done.roles) c.loop-done.invariant.walking in
    omega (arith, less, most)

pub loop-done-preserved : goal.loop-done-preserved
loop-done-preserved g c =
    let es = unordered (g.R.Adjacent.store c.args.roles.now) in
    let all : List Edge = as_walked c.args.way es in
    let walked : List Edge = as_walked c.args.way (edges_but c.args.removed.now es) in
    let left : List Edge = ending_in (option_copied c.args.within) walked in
    let found = c.loop-done.found.items in
    let done = c.loop-done.done in
    let less : done < length found = subst (λ (l : List Role). done < length l) c.as_slice.ensures c.loop-done-test.true in
    let role : Role = get_or found done Owner in
    let role_is : get_or c.as_slice-here.result.now done Owner ≡ get_or found done Owner = ap (λ (l : List Role). get_or l done Owner) c.as_slice-here.ensures in
    record {
      walking = walk_goes_on all left c.args.from.now found c.add_all-in-loop-done.new.found.items done (g.R.Adjacent.steps c.args.roles.now) (g.R.Adjacent.steps c.loop-done.roles) (g.R.Adjacent.steps c.look.new.roles) Owner c.loop-done.invariant.walking less
          (omega (arith, fewer_ends c.args.way c.args.removed.now es role, fewer_in (option_copied c.args.within) walked role))
          (c.in_ok-add_all-2.ensures.found c.loop-done.invariant.same
          ∙ ap (with_new found) (c.deref.ensures.value ∙ c.keep.ensures ∙ ap (roles_in (option_copied c.args.within)) (c.in_ok-look.ensures.ends
          ∙ (λ i. ends_from (as_walked c.args.way (edges_but c.args.removed.now (unordered (c.loop-done.invariant.stays i)))) (role_is i))) ∙ ends_in (option_copied c.args.within) walked role))
          (c.in_ok-look.ensures.steps ∙ (λ i. g.R.Adjacent.steps c.loop-done.roles + length (out_of (as_walked c.args.way (unordered (c.loop-done.invariant.stays i))) (role_is i)) + 1));
      stays = c.look.ensures.same ∙ c.loop-done.invariant.stays;
      same = c.in_ok-add_all-2.ensures.seen c.loop-done.invariant.same;
    }

pub returns-clause-reached : goal.returns-clause-reached
returns-clause-reached g c =
    let es = unordered (g.R.Adjacent.store c.args.roles.now) in
    let walked : List Edge = as_walked c.args.way (edges_but c.args.removed.now es) in
    let left : List Edge = ending_in (option_copied c.args.within) walked in
    let found = c.loop-done.found.items in
    let end : length found ≤ c.loop-done.done = subst (λ (l : List Role). length l ≤ c.loop-done.done) c.as_slice.ensures c.loop-done-test.false in
    IfOk-weaker c.of_seen.result (λ s. s ≡ c.loop-done.seen.keys) (λ s. (r : Role) → In r s ↔ IsReached left c.args.from.now r)
    (λ s e r.
    let told = walk_ends (as_walked c.args.way es) left c.args.from.now found c.loop-done.done (g.R.Adjacent.steps c.args.roles.now) (g.R.Adjacent.steps c.loop-done.roles) c.loop-done.invariant.walking end r in
    let same = c.loop-done.invariant.same r in
    (λ i. told.0 (same.1 (subst (In r) e i)), λ w. subst (In r) (sym e) (same.0 (told.1 w)))) c.of_seen.ensures

pub returns-in_err-look-clause-steps : goal.returns-in_err-look-clause-steps
returns-in_err-look-clause-steps g c =
    let es = unordered (g.R.Adjacent.store c.args.roles.now) in
    let found = c.loop-done.found.items in
    let done = c.loop-done.done in
    let all : List Edge = as_walked c.args.way es in
    let less : done < length found = subst (λ (l : List Role). done < length l) c.as_slice.ensures c.loop-done-test.true in
    look_costs all (ending_in (option_copied c.args.within) (as_walked c.args.way (edges_but c.args.removed.now es))) c.args.from.now found done (g.R.Adjacent.steps c.args.roles.now) (g.R.Adjacent.steps c.loop-done.roles) (g.R.Adjacent.steps c.look.new.roles) Owner c.loop-done.invariant.walking less
    (subst (λ (s : Store). g.R.Adjacent.steps c.look.new.roles ≤ g.R.Adjacent.steps c.loop-done.roles + length (out_of (as_walked c.args.way (unordered s)) (get_or found done Owner)) + 1) c.loop-done.invariant.stays
    (subst (λ (r : Role). g.R.Adjacent.steps c.look.new.roles ≤ g.R.Adjacent.steps c.loop-done.roles + length (out_of (as_walked c.args.way (unordered (g.R.Adjacent.store c.loop-done.roles))) r) + 1)
    (ap (λ (l : List Role). get_or l done Owner) c.as_slice-here.ensures) c.look.ensures.most))

pub returns-in_err-add_all-2-clause-steps : goal.returns-in_err-add_all-2-clause-steps
returns-in_err-add_all-2-clause-steps g c =
    let es = unordered (g.R.Adjacent.store c.args.roles.now) in
    let found = c.loop-done.found.items in
    let done = c.loop-done.done in
    let all : List Edge = as_walked c.args.way es in
    let less : done < length found = subst (λ (l : List Role). done < length l) c.as_slice.ensures c.loop-done-test.true in
    look_costs all (ending_in (option_copied c.args.within) (as_walked c.args.way (edges_but c.args.removed.now es))) c.args.from.now found done (g.R.Adjacent.steps c.args.roles.now) (g.R.Adjacent.steps c.loop-done.roles) (g.R.Adjacent.steps c.look.new.roles) Owner c.loop-done.invariant.walking less
    (subst (λ (s : Store). g.R.Adjacent.steps c.look.new.roles ≤ g.R.Adjacent.steps c.loop-done.roles + length (out_of (as_walked c.args.way (unordered s)) (get_or found done Owner)) + 1) c.loop-done.invariant.stays
    (subst (λ (r : Role). g.R.Adjacent.steps c.look.new.roles ≤ g.R.Adjacent.steps c.loop-done.roles + length (out_of (as_walked c.args.way (unordered (g.R.Adjacent.store c.loop-done.roles))) r) + 1)
    (ap (λ (l : List Role). get_or l done Owner) c.as_slice-here.ensures) c.look.ensures.most))

pub returns-clause-steps : goal.returns-clause-steps
returns-clause-steps g c =
    let es = unordered (g.R.Adjacent.store c.args.roles.now) in
    walk_costs (as_walked c.args.way es) (ending_in (option_copied c.args.within) (as_walked c.args.way (edges_but c.args.removed.now es))) c.args.from.now c.loop-done.found.items c.loop-done.done (g.R.Adjacent.steps c.args.roles.now) (g.R.Adjacent.steps c.loop-done.roles) c.loop-done.invariant.walking
