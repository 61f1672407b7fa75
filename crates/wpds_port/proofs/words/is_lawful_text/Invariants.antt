use Rattle.std.proofs.Common.{◌≡◌, length}
use Rattle.std.specs.Prelude.{is_some}
use Rattle.wpds_port.specs.Words.{lawful_words}
use Rattle.wpds_port.proofs.words.is_lawful_text.Given as goal

abbrev pub invariant-loop-left : goal.invariant-loop-left
invariant-loop-left l = is_some (lawful_words l.left) ≡ is_some (lawful_words l.text)

abbrev pub decreases-loop-left : goal.decreases-loop-left
decreases-loop-left l = length l.left
