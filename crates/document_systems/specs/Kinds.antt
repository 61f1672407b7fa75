-- What the weights of a document are, over the semirings that it may name.
use Rattle.std.specs.Prelude.{ℕ, List}
use Rattle.semiring_laws.specs.Semiring.{Operations}
use Rattle.document_forms.specs.declared.weight.WeightText.{WeightText}
use Rattle.document_forms.specs.declared.document.MapText.{MapText}

-- Semirings `S` with weights `W` and return maps `Map`: what they compute, what is written in documents, and what that is worth.
pub record Kind (S W Map : Type 0) : Type 1 where
  pub operations : S → Operations W Map
  -- which of them a document can name
  pub named : S → Type 0
  -- which weights and return maps a rule of a document over it may have
  pub takes : S → WeightText → Type 0
  pub takes_map : S → MapText → Type 0
  -- what these are worth
  pub weight : S → WeightText → W
  pub map : S → MapText → Map
  -- the text of a value, by the names of the document's facts or variables
  pub written : S → List (List ℕ) → W → List ℕ
  -- the values that are told by their text, under such names
  pub told : S → List (List ℕ) → W → Type 0
