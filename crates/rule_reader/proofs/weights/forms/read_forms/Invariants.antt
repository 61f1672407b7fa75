use Rattle.std.proofs.Common.{◌≡◌, List, ◌++◌, length}
use Rattle.std.specs.Prelude.{option_map}
use Rattle.document_forms.specs.Weights.{PairForm, PairsForm, copy_of}
use Rattle.rule_reader.specs.private.PairTexts.{some_pairs}
use Rattle.rule_reader.specs.private.FormReads.{HasPairs}
use Rattle.rule_reader.proofs.weights.forms.read_forms.Given as goal

-- The pairs are those that were read, and those of the words that are left.
abbrev pub invariant-loop-name : goal.invariant-loop-name
invariant-loop-name l =
    (done : List PairForm)
    × HasPairs l.items done l.forms
    × (copy_of l.words ≡ option_map (λ more. PairsForm (done ++ more)) (some_pairs l.left))

abbrev pub decreases-loop-name : goal.decreases-loop-name
decreases-loop-name l = length l.left
