-- Statements and lines, by the words with which they begin.
use Rattle.std.proofs.Common.{◌≡◌, ℕ, true, false, List, [], ◌∷◌, Option, None, Some, refl, sym, ap, ◌∙◌}
use Rattle.std.specs.Prelude.{option_map, is_some, IsTrue, codes}
use Rattle.wpds_port.specs.declared.Mark.TheVariants.{Becomes, Colon}
use Rattle.wpds_port.specs.declared.Word.{Word}
use Rattle.wpds_port.specs.declared.Word.TheVariants.{Name, Number, Mark as Sign}
use Rattle.wpds_port.specs.Words.{same_word, before, behind}
use Rattle.document_forms.specs.Words.{is_becomes, ◌>>=◌}
use Rattle.program_lines.specs.private.Labels.{sides_of, begins_with_label}
use Rattle.rule_reader.proofs.CallerLemmas.{becomes_test}
use Rattle.truth_tables.specs.Texts.{is_name}
use Rattle.program_forms.specs.Forms.{StatementForm, AssignForm, Stating, labelled_of, list_of, values_of, call_of, becomes_of, worded_of, statement_of}
use Rattle.program_lines.specs.declared.texts.StatementText.{StatementText}
use Rattle.program_lines.specs.Texts.{IsRead, statement_said}

-- a statement with these words before `:=` and behind it, or without one
abbrev pub statement_cut : List Word → List Word → Option (List Word) → Option StatementForm
statement_cut ws front None = worded_of ws
statement_cut ws front (Some back) = sides_of front back

pub at_becomes : (ws front : List Word) (back : Option (List Word)) → front ≡ before (same_word (Sign Becomes)) ws → back ≡ behind (same_word (Sign Becomes)) ws
    → statement_of ws ≡ statement_cut ws front back
at_becomes ws front back f b =
    cut (behind is_becomes ws) ∙ ap (statement_cut ws (before is_becomes ws)) (ap (λ t. behind t ws) (sym becomes_test) ∙ sym b)
    ∙ ap (λ l. statement_cut ws l back) (ap (λ t. before t ws) (sym becomes_test) ∙ sym f)
  where
    cut : (o : Option (List Word)) → elim o [ None ↦ worded_of ws | Some right ↦ list_of (before is_becomes ws) >>= λ targets. becomes_of targets right ] ≡ statement_cut ws (before is_becomes ws) o
    cut None = refl
    cut (Some right) = refl

-- no label is in front
pub no_label : (ws : List Word) → begins_with_label ws ≡ false → labelled_of ws ≡ option_map (Stating None) (statement_of ws)
no_label [] h = refl
no_label (Name l ∷ []) h = refl
no_label (Name l ∷ Sign Colon ∷ ws) h = cc
no_label (Name l ∷ Sign m ∷ ws) h = refl
no_label (Name l ∷ Name x ∷ ws) h = refl
no_label (Name l ∷ Number n ∷ ws) h = refl
no_label (Number n ∷ ws) h = refl
no_label (Sign m ∷ ws) h = refl

-- a statement without `:=` that begins with none of these words is a call
pub worded_other : (w : Word) (ws : List Word)
    → is_name (codes "skip") w ≡ false → is_name (codes "goto") w ≡ false → is_name (codes "assume") w ≡ false
    → is_name (codes "assert") w ≡ false → is_name (codes "return") w ≡ false → is_name (codes "if") w ≡ false
    → is_name (codes "while") w ≡ false → worded_of (w ∷ ws) ≡ call_of [] (w ∷ ws)
worded_other w ws a b c d e f g = rw (a, b, c, d, e, f, g) refl

-- a call behind `:=`
pub call_becomes : (front back : List Word) (call : StatementText) → is_some (list_of front) ≡ true
    → ((xs : List (List ℕ)) → list_of front ≡ Some xs → IsRead (call_of xs back) statement_said (Some call))
    → IsRead (sides_of front back) statement_said (Some call)
call_becomes front back call k read = go (list_of front) refl k
  where
    here : (o s : Option StatementForm) (e : Option StatementForm) → (s ≡ o) × IsTrue (is_some o)
        → (s ≡ elim o [ Some t ↦ Some t | None ↦ e ]) × IsTrue (is_some (elim o [ Some t ↦ Some t | None ↦ e ]))
    here None s e h = cc
    here (Some t) s e h = (h.0, h.1)

    go : (o : Option (List (List ℕ))) → list_of front ≡ o → is_some o ≡ true
        → (statement_said call ≡ (o >>= λ xs. becomes_of xs back)) × IsTrue (is_some (o >>= λ xs. becomes_of xs back))
    go None e s = cc
    go (Some xs) e s = here (call_of xs back) (statement_said call) (option_map (AssignForm xs) (values_of back)) (read xs e)
