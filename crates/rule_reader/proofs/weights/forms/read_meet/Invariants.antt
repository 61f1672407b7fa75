use Rattle.std.proofs.Common.{◌≡◌, List, ◌++◌, length}
use Rattle.std.specs.Prelude.{option_map}
use Rattle.document_forms.specs.Weights.{PartForm, Parts}
use Rattle.rule_reader.specs.private.PairTexts.{parts_in, from_pair}
use Rattle.rule_reader.specs.private.FormReads.{HasParts}
use Rattle.rule_reader.proofs.weights.forms.read_meet.Given as goal

-- The parts are those that were read, and those of the words that are left.
abbrev pub invariant-loop-part : goal.invariant-loop-part
invariant-loop-part l = record {
  read : (done : List PartForm)
      × HasParts l.items (Parts done) l.parts
      × (parts_in l.words ≡ option_map (λ more. done ++ more) (parts_in l.left));
  rest : from_pair l.words ≡ from_pair l.left;
}

abbrev pub decreases-loop-part : goal.decreases-loop-part
decreases-loop-part l = length l.left
