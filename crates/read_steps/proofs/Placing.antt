-- Where the batches of a log begin, once it has given one more.
use Rattle.std.proofs.Common.{◌≡◌, ℕ, List, [], ◌∷◌, ◌++◌, ap, ◌∙◌}
use Rattle.commit_journal.specs.Placed.{PlainPlaced}
use Rattle.commit_journal.specs.Places.{at_behind}
use Rattle.commit_journal.specs.Streaming.{ArePlaced, IsAt}
use Rattle.commit_journal.specs.declared.past.Past.{Past}

-- one batch more begins where the last ended, whatever the gate before it is
pub placed_more : (at number epoch : ℕ) (given : List PlainPlaced) (starts : List Past) (past start next : Past) (p : PlainPlaced) →
    ArePlaced at number epoch given starts past → start ≡ record past { gate = start.gate } → IsAt (at_behind p) p.batch p.epoch.0 next →
    ArePlaced at number epoch (given ++ p ∷ []) (starts ++ start ∷ []) next
placed_more at number epoch [] [] past start next p are same behind =
    ((ap (λ (q : Past). q.at) same ∙ are.0, ap (λ (q : Past). q.number) same ∙ are.1, ap (λ (q : Past). q.epoch.0) same ∙ are.2), behind)
placed_more at number epoch [] (s ∷ starts) past start next p are same behind = absurd are
placed_more at number epoch (q ∷ given) [] past start next p are same behind = absurd are
placed_more at number epoch (q ∷ given) (s ∷ starts) past start next p are same behind =
    (are.0, placed_more (at_behind q) q.batch q.epoch.0 given starts past start next p are.1 same behind)

-- the gate behind the last doesn't count
pub placed_gated : (at number epoch : ℕ) (given : List PlainPlaced) (starts : List Past) (past : Past) (gate : ℕ) →
    ArePlaced at number epoch given starts past → ArePlaced at number epoch given starts (record past { gate = gate })
placed_gated at number epoch [] [] past gate are = are
placed_gated at number epoch [] (s ∷ starts) past gate are = absurd are
placed_gated at number epoch (q ∷ given) [] past gate are = absurd are
placed_gated at number epoch (q ∷ given) (s ∷ starts) past gate are =
    (are.0, placed_gated (at_behind q) q.batch q.epoch.0 given starts past gate are.1)
