-- What reading facts that are generated and killed gives.
use Rattle.std.specs.Prelude.{◌≡◌, ℕ, false, List, [], ◌∷◌, map, Option, None}
use Rattle.wpds_port.specs.declared.Word.{Word}
use Rattle.document_forms.specs.Names.{has_unknown}
use Rattle.document_forms.specs.Weights.{SignForm, signs}
use Rattle.document_forms.specs.Documents.{sign_value}
use Rattle.rule_reader.specs.NameReads.{HasNames}
use Rattle.rule_reader.specs.declared.weights.facts.Facts.{Facts}
use Rattle.rule_reader.specs.declared.weights.facts.Sign.{Sign}

abbrev pub facts_of : List SignForm → List (List ℕ)
facts_of ss = map (λ s. s.fact) ss

abbrev pub sign_form : Sign → SignForm
sign_form s = record { plus = s.plus; fact = s.fact.now }

-- the signs of words, if there are some
abbrev pub some_signs : List Word → Option (List SignForm)
some_signs [] = None
some_signs (w ∷ ws) = signs (w ∷ ws)

-- The facts that were read are these, over the items.
pub record HasSigns (items : List (List ℕ)) (ss : List SignForm) (f : Facts) : Type 0 where
  pub names : HasNames (facts_of ss) f.names
  pub unknown : f.unknown ≡ has_unknown items (facts_of ss)
  pub signs : f.unknown ≡ false → f.signs.items ≡ map (sign_value items) ss
