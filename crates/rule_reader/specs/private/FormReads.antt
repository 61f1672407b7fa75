-- What reading the pairs of a copy gives.
use Rattle.std.specs.Prelude.{◌≡◌, ◌≤◌, ℕ, false, List, ◌∷◌, length, map, flat_map, Option, None, Some, ℤ, if◌then◌else◌}
use Rattle.std.specs.List.{list_any}
use Rattle.wpds_base.specs.Limits.{most_copied}
use Rattle.wpds_port.specs.declared.Word.{Word}
use Rattle.document_forms.specs.Names.{has_unknown}
use Rattle.document_forms.specs.Weights.{PartForm, OfVariable, OfNumber, PartsForm, PairForm, parts_of}
use Rattle.document_forms.specs.Kinds.{parts_names, has_wide_part}
use Rattle.document_forms.specs.Documents.{same_integer, parts_value, pair_value}
use Rattle.rule_reader.specs.NameReads.{HasNames}
use Rattle.rule_reader.specs.declared.weights.forms.Part.{Part}
use Rattle.rule_reader.specs.declared.weights.forms.Part.TheVariants.{Variable, Number}
use Rattle.rule_reader.specs.declared.weights.forms.PartsRead.{PartsRead}
use Rattle.rule_reader.specs.declared.weights.forms.Forms.{Forms}

abbrev pub part_form : Part → PartForm
part_form (Variable x) = OfVariable x.now
part_form (Number negative digits) = OfNumber negative digits.now

-- the one constant of constants and one more
abbrev pub constant_more : Option (Option ℤ) → ℤ → Option (Option ℤ)
constant_more None c = None
constant_more (Some None) c = Some (Some c)
constant_more (Some (Some x)) c = if same_integer x c then Some (Some c) else None

-- The parts that were read are these, over the items.
pub record HasParts (items : List (List ℕ)) (form : PartsForm) (r : PartsRead) : Type 0 where
  pub unknown : r.unknown ≡ has_unknown items (parts_names form)
  pub wide : r.wide ≡ has_wide_part form
  pub value :
      length items ≤ most_copied → r.unknown ≡ false → r.wide ≡ false → r.form ≡ parts_value items form

-- the names of the variables that pairs are for, and all names of pairs

abbrev pub targets_of : List PairForm → List (List ℕ)
targets_of ps = map (λ p. p.variable) ps

abbrev pub names_of_pairs : List PairForm → List (List ℕ)
names_of_pairs ps = flat_map (λ p. p.variable ∷ parts_names p.parts) ps

-- The pairs that were read are these, over the items.
pub record HasPairs (items : List (List ℕ)) (ps : List PairForm) (f : Forms) : Type 0 where
  pub names : HasNames (targets_of ps) f.names
  pub unknown : f.unknown ≡ has_unknown items (names_of_pairs ps)
  pub wide : f.wide ≡ list_any (λ p. has_wide_part p.parts) ps
  pub forms :
      length items ≤ most_copied → f.unknown ≡ false → f.wide ≡ false
      → f.forms.items ≡ map (pair_value items) ps

-- What was read are the parts of the words, behind which the rest comes.
abbrev pub ArePartsOf : List (List ℕ) → List Word → PartsRead → Type 0
ArePartsOf items ws r = (form : PartsForm) × (parts_of ws ≡ Some form) × HasParts items form r
