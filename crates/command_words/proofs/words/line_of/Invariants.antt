use Rattle.std.proofs.Common.{◌≡◌, map, take}
use Rattle.command_words.specs.Words.{line_of, texts_of}
use Rattle.command_words.proofs.words.line_of.Given as goal

abbrev pub invariant-loop-word : goal.invariant-loop-word
invariant-loop-word l = map (λ s. s.now) l.line.items ≡ line_of (texts_of (take l.word-index l.words))
