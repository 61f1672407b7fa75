use Rattle.std.proofs.Common.{◌≡◌, List, ◌++◌, length}
use Rattle.std.specs.Prelude.{option_map}
use Rattle.document_forms.specs.Weights.{SignForm, SignsForm, genkill_of}
use Rattle.rule_reader.specs.private.FactReads.{HasSigns, some_signs}
use Rattle.rule_reader.proofs.weights.facts.read_facts.Given as goal

-- The signs are those that were read, and those of the words that are left.
abbrev pub invariant-loop-sign : goal.invariant-loop-sign
invariant-loop-sign l =
    (done : List SignForm)
    × HasSigns l.items done l.facts
    × (genkill_of l.words ≡ option_map (λ more. SignsForm (done ++ more)) (some_signs l.left))

abbrev pub decreases-loop-sign : goal.decreases-loop-sign
decreases-loop-sign l = length l.left
