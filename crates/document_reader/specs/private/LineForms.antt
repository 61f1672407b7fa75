-- The form of a line by its words, and weights as they are said.
use Rattle.std.specs.Prelude.{◌≡◌, IsTrue, IsFalse, List, [], ◌∷◌, Option, Some, None}
use Rattle.wpds_port.specs.declared.Word.{Word}
use Rattle.document_forms.specs.declared.weight.WeightsLine.{WeightsLine}
use Rattle.document_forms.specs.Forms.{WeightsForm, ReachWeights, CostWeights, GenKillWeights, CopyWeights, RelationWeights, LineForm, form_behind}
use Rattle.document_forms.specs.Above.{weights_line}
use Rattle.document_forms.specs.Kinds.{has_unlawful_cap}
use Rattle.document_reader.specs.declared.weights_lines.WeightsWords.{WeightsWords}
use Rattle.document_reader.specs.declared.weights_lines.WeightsWords.TheVariants.{Reach, Cost, GenKill, Copy, Relation}

-- the form of words each of which a form takes
abbrev pub form_in : List Word → Option LineForm
form_in [] = None
form_in (w ∷ ws) = form_behind w ws

abbrev pub weights_said : WeightsWords → WeightsForm
weights_said Reach = ReachWeights
weights_said (Cost digits) = CostWeights digits.now
weights_said GenKill = GenKillWeights
weights_said Copy = CopyWeights
weights_said Relation = RelationWeights

-- What a form declares, if its cap is within the limits.
abbrev pub IsDeclared : WeightsForm → Option WeightsLine → Type 0
IsDeclared w None = IsTrue (has_unlawful_cap w)
IsDeclared w (Some line) = IsFalse (has_unlawful_cap w) × (line ≡ weights_line w)
