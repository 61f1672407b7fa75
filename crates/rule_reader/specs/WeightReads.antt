-- What reading a weight gives.
use Rattle.std.specs.Prelude.{◌≡◌, IsTrue, ℕ, Bool, true, false, nat_le, List, length, Option, Some, None, MatchOption}
use Rattle.wpds_base.specs.Limits.{most_copied}
use Rattle.document_forms.specs.declared.weight.WeightsLine.{WeightsLine}
use Rattle.wpds_port.specs.declared.Word.{Word}
use Rattle.document_forms.specs.Names.{has_unknown}
use Rattle.document_forms.specs.Weights.{WeightForm, PairsForm, weight_of}
use Rattle.document_forms.specs.Kinds.{weight_names, is_unlawful, is_deep}
use Rattle.document_forms.specs.Documents.{weight_value}
use Rattle.rule_reader.specs.declared.weights.WeightRead.{WeightRead}
use Rattle.rule_reader.specs.TreeReads.{is_sound}

-- There are no more variables than a copy's value has places for.
abbrev pub has_places : List (List ℕ) → WeightForm → Bool
has_places items (PairsForm ps) = nat_le (length items) most_copied
has_places items _ = true

-- What was read is the form: this is amiss, and where nothing is, its value stands. Whether an
-- expression is too deep is told of lawful weights.
pub record IsReadAs (items : List (List ℕ)) (f : WeightForm) (r : WeightRead) : Type 0 where
  pub unknown : r.faults.unknown ≡ has_unknown items (weight_names f)
  pub unlawful : r.faults.unlawful ≡ is_unlawful f
  pub deep : is_unlawful f ≡ false → r.faults.deep ≡ is_deep f
  pub value : IsTrue (has_places items f) → IsTrue (is_sound r.faults) → r.value ≡ weight_value items f

-- Nothing is read exactly where there is no form.
abbrev pub IsRead : List (List ℕ) → Option WeightForm → Option WeightRead → Type 0
IsRead items form read =
    MatchOption read (form ≡ None) (λ r. (f : WeightForm) × (form ≡ Some f) × IsReadAs items f r)

-- the weight that the words are, below a line with these weights and these items
abbrev pub IsWeightRead : WeightsLine → List (List ℕ) → List Word → Option WeightRead → Type 0
IsWeightRead weights items ws read = IsRead items (weight_of weights ws) read
