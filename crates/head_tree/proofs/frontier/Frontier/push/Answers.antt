use Rattle.std.proofs.Common.{◌≡◌, ◌+◌, ◌*◌, ◌^◌, ◌<◌, length, [], ◌∷◌, ◌++◌, refl, sym, ◌∙◌, rules, arith, lit<}
use Rattle.std.proofs.lemmas.List.{length_push}
use Rattle.head_tree.proofs.Growth.{carries}
use Rattle.head_tree.proofs.Trees.{tree_hash-one}
use Rattle.head_tree.proofs.frontier.Frontier.push.Goals as goal

pub returns : goal.returns
returns c = λ leaves grown.
    let places : length c.args.self.now.roots ≡ 33 = search rules in
    let room : c.args.self.now.leaves + 1 < 2 ^ length c.args.self.now.roots = rw places (omega arith) in
    let size : length leaves ≡ c.args.self.now.leaves * 2 ^ 0 = omega (arith, grown.count) in
    record {
      count = omega (arith, grown.count, length_push leaves c.args.leaf);
      stands = rw c.carry.ensures (carries c.args.self.now.roots 0 c.args.self.now.leaves c.args.leaf leaves (c.args.leaf ∷ []) room size refl
          (sym (tree_hash-one c.args.leaf)) grown.stands);
    }
