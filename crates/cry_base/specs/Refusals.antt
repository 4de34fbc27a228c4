-- This project's own, docs/FORMAT.md: the words of the refusals.
use Rattle.std.specs.Prelude.{ℕ, List, codes}
use Rattle.cry_base.specs.declared.commands.Refusal.{Refusal}
use Rattle.cry_base.specs.declared.commands.Refusal.TheVariants.{BadName, NoPath, IsRoot, NotFolder, IsFolder, Exists, NotEmpty}
use Rattle.cry_base.specs.declared.commands.Refusal.TheVariants.{InsideItself, TooDeep, NoHolder, HasGrant, NoGrant, TooLong, Full}

-- the word that a reply gives for a refusal
abbrev pub word_of : Refusal → List ℕ
word_of BadName = codes "bad-name"
word_of NoPath = codes "no-path"
word_of IsRoot = codes "is-root"
word_of NotFolder = codes "not-folder"
word_of IsFolder = codes "is-folder"
word_of Exists = codes "exists"
word_of NotEmpty = codes "not-empty"
word_of InsideItself = codes "inside-itself"
word_of TooDeep = codes "too-deep"
word_of NoHolder = codes "no-holder"
word_of HasGrant = codes "has-grant"
word_of NoGrant = codes "no-grant"
word_of TooLong = codes "too-long"
word_of Full = codes "full"
