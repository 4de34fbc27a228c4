-- Commands between which the disk is only read are commands one after another.
use Rattle.std.proofs.Common.{◌≡◌, ◌≢◌, ◌⊎◌, ⊎_elim, inl, inr, List, [], ◌∷◌, ◌++◌, append_assoc, refl, sym, subst}
use Rattle.std.proofs.lemmas.List.{append-nil}
use Rattle.cry_base.specs.Requests.{Request}
use Rattle.cry_base.specs.declared.commands.Reply.{Reply}
use Rattle.cli_sessions.specs.Script.{Answered}
use Rattle.cli_sessions.specs.Script.Answered.{Begun, Then}

module _ (X : Type 0) (Step : X → Request → Reply → X → Type 0) (Reads : X → X → Type 0)
    (behind : (x z : X) → Reads x z → (request : Request) (reply : Reply) (y : X) → Step z request reply y → Step x request reply y) where
  -- commands behind reads: none were asked, or the first of them is one from before the reads
  pub commands_behind : (x z : X) → Reads x z → (asked : List Request) (given : List Reply) (y : X) → Answered Step z asked given y →
      ((asked ≡ []) × (given ≡ []) × (y ≡ z)) ⊎ Answered Step x asked given y
  commands_behind x z reads asked given y Begun = inl (refl, refl, refl)
  commands_behind x z reads asked given y (Then {asked = rs} {replies = told} {x = w} {y = v} {request = r} {reply = reply} before step) =
      ⊎_elim
      (λ none.
      let first : Step x r reply v = behind x z reads r reply v (subst (λ (s : X). Step s r reply v) none.2 step) in
      let one : Answered Step x (r ∷ []) (reply ∷ []) v = Then Begun first in
      inr (subst (λ (l : List Request). Answered Step x (l ++ r ∷ []) (told ++ reply ∷ []) v) (sym none.0)
      (subst (λ (l : List Reply). Answered Step x (r ∷ []) (l ++ reply ∷ []) v) (sym none.1) one)))
      (λ some. inr (Then some step))
      (commands_behind x z reads rs told w before)

  -- commands after commands
  pub answered_both : (x z : X) (first : List Request) (told : List Reply) → Answered Step x first told z → (asked : List Request) (given : List Reply) (y : X) → Answered Step z asked given y →
      Answered Step x (first ++ asked) (told ++ given) y
  answered_both x z first told before asked given y Begun =
      subst (λ (l : List Request). Answered Step x l (told ++ []) z) (sym (append-nil first)) (subst (λ (l : List Reply). Answered Step x first l z) (sym (append-nil told)) before)
  answered_both x z first told before asked given y (Then {asked = rs} {replies = some} {x = w} {y = v} {request = r} {reply = reply} more step) =
      subst (λ (l : List Request). Answered Step x l (told ++ (some ++ reply ∷ [])) v) (append_assoc first rs (r ∷ []))
      (subst (λ (l : List Reply). Answered Step x ((first ++ rs) ++ r ∷ []) l v) (append_assoc told some (reply ∷ []))
      (Then (answered_both x z first told before rs some w more) step))

  -- a line's commands, of which there is one at least
  pub block_behind : (x z : X) → Reads x z → (block : List Request) (given : List Reply) (y : X) → block ≢ [] → Answered Step z block given y → Answered Step x block given y
  block_behind x z reads block given y some answered = ⊎_elim (λ none. absurd (some none.0)) (λ all. all) (commands_behind x z reads block given y answered)

  -- commands one after another, and then reads, and then others
  pub answered_then : (start x z : X) (asked : List Request) (given : List Reply) → Answered Step start asked given x → Reads x z → (block : List Request) (some : List Reply) (y : X) → block ≢ [] →
      Answered Step z block some y → Answered Step start (asked ++ block) (given ++ some) y
  answered_then start x z asked given before reads block some y one more =
      answered_both start x asked given before block some y (block_behind x z reads block some y one more)
