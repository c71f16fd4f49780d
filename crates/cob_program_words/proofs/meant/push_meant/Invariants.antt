use Rattle.std.proofs.Common.{◌≡◌, ◌++◌, drop, map}
use Rattle.std.specs.Prelude.{string_bytes}
use Rattle.cob_program_words.specs.Meant.{meant_word}
use Rattle.cob_program_words.proofs.meant.push_meant.Given as goal

abbrev pub invariant-loop-word : goal.invariant-loop-word
invariant-loop-word g l =
    map string_bytes l.meant.items ++ map (meant_word l.command) (map g.S.AsStr.text (drop l.word-index l.words))
    ≡ map string_bytes l.fn.meant.items ++ map (meant_word l.command) (map g.S.AsStr.text l.words)
