-- The first piece of words, and the others.
use Rattle.std.proofs.Common.{◌≡◌, ℕ, Bool, true, false, List, [], ◌∷◌, Option, None, Some, refl, sym, ap, ◌∙◌}
use Rattle.std.proofs.Math.Path.{fun_ext}
use Rattle.std.specs.Prelude.{◌==◌, ◌&&◌}
use Rattle.std.proofs.lemmas.Bool.{and_parts, eqb-true}
use Rattle.wpds_port.specs.declared.Mark.TheVariants.{Comma, Semicolon}
use Rattle.wpds_port.specs.declared.Word.{Word}
use Rattle.wpds_port.specs.declared.Word.TheVariants.{Name, Number, Mark as Sign}
use Rattle.wpds_port.specs.Words.{same_word, before, behind, before_outside, behind_outside, brackets_after}
use Rattle.document_forms.specs.Lines.{in_front}
use Rattle.document_forms.specs.Words.{is_comma, is_semicolon, parted_outside}
use Rattle.rule_reader.specs.declared.weights.pieces.Cut.TheVariants.{Commas, Semicolons, OutsideCommas}
use Rattle.rule_reader.specs.Pieces.{pieces_of, pieces_left}
use Rattle.rule_reader.proofs.EachLemmas.{others, parted_cut}

-- ---- the marks

comma_test : same_word (Sign Comma) ≡ is_comma
comma_test = fun_ext go
  where
    go : (w : Word) → same_word (Sign Comma) w ≡ is_comma w
    go (Name x) = refl
    go (Number n) = refl
    go (Sign Comma) = refl
    go (Sign m) = refl

semicolon_test : same_word (Sign Semicolon) ≡ is_semicolon
semicolon_test = fun_ext go
  where
    go : (w : Word) → same_word (Sign Semicolon) w ≡ is_semicolon w
    go (Name x) = refl
    go (Number n) = refl
    go (Sign Semicolon) = refl
    go (Sign m) = refl

-- ---- the pieces

commas_left : (o : Option (List Word)) → others is_comma o ≡ pieces_left Commas o
commas_left None = refl
commas_left (Some ws) = refl

semicolons_left : (o : Option (List Word)) → others is_semicolon o ≡ pieces_left Semicolons o
semicolons_left None = refl
semicolons_left (Some ws) = refl

pub at_comma : (ws : List Word) → pieces_of Commas ws ≡ before (same_word (Sign Comma)) ws ∷ pieces_left Commas (behind (same_word (Sign Comma)) ws)
at_comma ws =
    parted_cut is_comma ws
    ∙ ap (λ ps. before is_comma ws ∷ ps) (commas_left (behind is_comma ws))
    ∙ sym (ap (λ test. before test ws ∷ pieces_left Commas (behind test ws)) comma_test)

pub at_semicolon : (ws : List Word) → pieces_of Semicolons ws ≡ before (same_word (Sign Semicolon)) ws ∷ pieces_left Semicolons (behind (same_word (Sign Semicolon)) ws)
at_semicolon ws =
    parted_cut is_semicolon ws
    ∙ ap (λ ps. before is_semicolon ws ∷ ps) (semicolons_left (behind is_semicolon ws))
    ∙ sym (ap (λ test. before test ws ∷ pieces_left Semicolons (behind test ws)) semicolon_test)

-- ---- outside brackets

abbrev IsCutOutside : ℕ → List Word → Type 0
IsCutOutside d ws = parted_outside d is_comma ws ≡ before_outside d is_comma ws ∷ pieces_left OutsideCommas (behind_outside d is_comma ws)

outside_cut : (d : ℕ) (ws : List Word) → IsCutOutside d ws
outside_cut d [] = refl
outside_cut d (w ∷ ws) = go (d == 0 && is_comma w) refl (outside_cut (brackets_after d w) ws)
  where
    go : (t : Bool) → (d == 0 && is_comma w) ≡ t → IsCutOutside (brackets_after d w) ws → IsCutOutside d (w ∷ ws)
    go true h e =
        let k = and_parts (d == 0) (is_comma w) h in
        rw (h, parted_outside, before_outside, behind_outside) (ap (λ n. [] ∷ parted_outside n is_comma ws) (eqb-true d 0 k.0))
    go false h e = rw (h, parted_outside, before_outside, behind_outside) (ap (in_front w) e)

pub at_outside_comma : (ws : List Word) → pieces_of OutsideCommas ws ≡ before_outside 0 (same_word (Sign Comma)) ws ∷ pieces_left OutsideCommas (behind_outside 0 (same_word (Sign Comma)) ws)
at_outside_comma ws =
    outside_cut 0 ws
    ∙ sym (ap (λ test. before_outside 0 test ws ∷ pieces_left OutsideCommas (behind_outside 0 test ws)) comma_test)
