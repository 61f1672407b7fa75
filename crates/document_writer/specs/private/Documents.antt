-- The parts of a document's text.
use Rattle.std.specs.Prelude.{ℕ, List, ◌∷◌, ◌++◌, map, codes}
use Rattle.document_forms.specs.declared.document.RuleLine.{RuleLine}
use Rattle.document_forms.specs.Names.{name}
use Rattle.document_forms.specs.Documents.{Document}
use Rattle.document_forms.specs.Writing.{spaced, weights_text, names_lines, item_word}

-- a rule without its weight and its return map
abbrev pub step_text : Document → RuleLine → List ℕ
step_text d r =
    spaced (
    codes "rule" ∷ name d.controls r.control ∷ name d.symbols r.symbol ∷ codes "->"
    ∷ name d.controls r.to ∷ map (name d.symbols) r.right
    )

-- the lines before the rules
abbrev pub head_lines : Document → List (List ℕ)
head_lines d =
    codes "wpds 1" ∷ weights_text d.weights
    ∷ names_lines (codes "controls") d.controls ++ names_lines (codes "symbols") d.symbols
    ++ names_lines (item_word d.weights) d.items
