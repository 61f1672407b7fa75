use Rattle.std.proofs.Common.{◌-◌, length}
use Rattle.wpds_port.specs.Words.{word_of, same_word}
use Rattle.wpds_port.specs.private.Fronts.{HasPassed, at_first}
use Rattle.wpds_port.proofs.words.Words.split_once.Given as goal

abbrev pub invariant-loop-lexeme : goal.invariant-loop-lexeme
invariant-loop-lexeme l =
    let cutting = at_first (same_word (word_of l.at)) in HasPassed cutting cutting l.text l.place

abbrev pub decreases-loop-lexeme : goal.decreases-loop-lexeme
decreases-loop-lexeme l = length l.text - l.place
