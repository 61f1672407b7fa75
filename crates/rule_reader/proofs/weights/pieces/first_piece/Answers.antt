use Rattle.std.proofs.Common.{◌≡◌, ◌∷◌, ap₂, sym, ◌∙◌, subst}
use Rattle.rule_reader.specs.declared.weights.pieces.Cut.TheVariants.{Commas, Semicolons, OutsideCommas}
use Rattle.rule_reader.specs.Pieces.{pieces_of, pieces_left}
use Rattle.rule_reader.proofs.PieceLemmas.{at_comma, at_semicolon, at_outside_comma}
use Rattle.rule_reader.proofs.weights.pieces.first_piece.Goals as goal

pub returns-in-Commas : goal.returns-in-Commas
returns-in-Commas c =
    let ws = c.args.words.now in
    let r = c.split_once.result in
    subst (λ k. pieces_of k ws ≡ r.0 ∷ pieces_left k r.1) (sym c.in-Commas.is)
    (at_comma ws ∙ ap₂ (λ p o. p ∷ pieces_left Commas o) (sym c.split_once.ensures.before) (sym c.split_once.ensures.behind))

pub returns-in-Semicolons : goal.returns-in-Semicolons
returns-in-Semicolons c =
    let ws = c.args.words.now in
    let call = c.split_once-in-Semicolons in
    let r = call.result in
    subst (λ k. pieces_of k ws ≡ r.0 ∷ pieces_left k r.1) (sym c.in-Semicolons.is)
    (at_semicolon ws ∙ ap₂ (λ p o. p ∷ pieces_left Semicolons o) (sym call.ensures.before) (sym call.ensures.behind))

pub returns-in-OutsideCommas : goal.returns-in-OutsideCommas
returns-in-OutsideCommas c =
    let ws = c.args.words.now in
    let r = c.split_outside.result in
    subst (λ k. pieces_of k ws ≡ r.0 ∷ pieces_left k r.1) (sym c.in-OutsideCommas.is)
    (at_outside_comma ws ∙ ap₂ (λ p o. p ∷ pieces_left OutsideCommas o) (sym c.split_outside.ensures.before) (sym c.split_outside.ensures.behind))
