-- The parts of a document's text, as they are written one after the other.
use Rattle.std.proofs.Common.{◌≡◌, ◌==◌, ℕ, false, List, [], ◌∷◌, ◌++◌, length, map, ap, ◌∙◌, append_assoc, append-nil, codes}
use Rattle.document_forms.specs.declared.pattern.PatternText.{PatternText}
use Rattle.document_forms.specs.declared.weight.Action.TheVariants.{Choose, Assign}
use Rattle.document_forms.specs.declared.weight.Assignment.{Assignment}
use Rattle.document_forms.specs.declared.document.RuleLine.{RuleLine}
use Rattle.document_forms.specs.Names.{name}
use Rattle.document_forms.specs.Documents.{Document}
use Rattle.document_forms.specs.Writing.{listed, value_text, names_lines, item_text, pattern_text, action_text, rule_text, weight_texts, map_texts}
use Rattle.document_writer.specs.private.Documents.{step_text}
use Rattle.document_writer.specs.private.Rows.{behind_blanks, lines}
use Rattle.document_writer.proofs.RowLemmas.{spaced_first, spaced_more}

pub class_written : (word : List ℕ) (names : List (List ℕ)) → (length names == 0) ≡ false → lines (names_lines word names) ≡ (word ++ behind_blanks names) ++ 10 ∷ []
class_written word [] h = absurd cc
class_written word (x ∷ xs) h = append-nil _ ∙ ap (λ t. t ++ 10 ∷ []) (spaced_first word (x ∷ xs))

pub pattern_written : (d : Document) (p : PatternText) → pattern_text d p ≡ (name d.controls p.control ++ codes ":") ++ behind_blanks (map (item_text d.symbols) p.items)
pattern_written d p = spaced_first (name d.controls p.control ++ codes ":") (map (item_text d.symbols) p.items)

pub choose_written : (names : List (List ℕ)) (ks : List ℕ) → action_text names (Choose ks) ≡ codes "choose" ++ behind_blanks (map (name names) ks)
choose_written names ks = spaced_first (codes "choose") (map (name names) ks)

-- targets, the mark, and the values, each behind what was written
pub assign_written : (names : List (List ℕ)) (ps ts vs : List Assignment) (before behind : List ℕ) → ts ≡ ps → vs ≡ ps → behind ≡ ((before ++ listed (map (λ p. name names p.variable) ts)) ++ codes " := ") ++ listed (map (λ p. value_text names p.value) vs) → behind ≡ before ++ action_text names (Assign ps)
assign_written names ps ts vs before behind t v e =
    let targets = λ (qs : List Assignment). listed (map (λ p. name names p.variable) qs) in
    let values = λ (qs : List Assignment). listed (map (λ p. value_text names p.value) qs) in
    e
    ∙ ap (λ qs. ((before ++ targets qs) ++ codes " := ") ++ values vs) t
    ∙ ap (λ qs. ((before ++ targets ps) ++ codes " := ") ++ values qs) v
    ∙ ap (λ r. r ++ values ps) (append_assoc before (targets ps) (codes " := "))
    ∙ append_assoc before (targets ps ++ codes " := ") (values ps)

pub rule_written : (d : Document) (r : RuleLine) → rule_text d r ≡ (step_text d r ++ behind_blanks (weight_texts d.items r.weight)) ++ behind_blanks (map_texts d.items r.map)
rule_written d r =
    let step = name d.controls r.control ∷ name d.symbols r.symbol ∷ codes "->" ∷ name d.controls r.to ∷ map (name d.symbols) r.right in
    let weight = weight_texts d.items r.weight in
    let back = map_texts d.items r.map in
    spaced_more (codes "rule") (step ++ weight) back
    ∙ ap (λ t. t ++ behind_blanks back) (spaced_more (codes "rule") step weight)
