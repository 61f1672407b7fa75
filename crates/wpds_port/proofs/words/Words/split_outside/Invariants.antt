use Rattle.std.proofs.Common.{◌-◌, ◌≤◌, length}
use Rattle.wpds_port.specs.Words.{word_of, same_word}
use Rattle.wpds_port.specs.private.Fronts.{HasPassed, outside}
use Rattle.wpds_port.proofs.words.Words.split_outside.Given as goal

abbrev pub invariant-loop-lexeme : goal.invariant-loop-lexeme
invariant-loop-lexeme l =
    let test = same_word (word_of l.at) in
    record {
      few : l.brackets ≤ l.place;
      passed : HasPassed (outside 0 test) (outside l.brackets test) l.text l.place;
    }

abbrev pub decreases-loop-lexeme : goal.decreases-loop-lexeme
decreases-loop-lexeme l = length l.text - l.place
