-- Lists with commas, and what is told of them.
use Rattle.std.proofs.Common.{◌≡◌, ℕ, Bool, true, false, not, ◌&&◌, ◌||◌, List, [], ◌∷◌, Option, None, Some, refl, sym, ap, ◌∙◌}
use Rattle.std.specs.Prelude.{option_map, unwrap_or}
use Rattle.std.specs.List.{list_any, list_all}
use Rattle.wpds_port.specs.declared.Word.{Word}
use Rattle.document_forms.specs.Names.{is_reserved}
use Rattle.document_forms.specs.Words.{each}
use Rattle.document_forms.specs.Weights.{target_of}
use Rattle.program_forms.specs.Forms.{are_free}

-- ---- names that may be declared

abbrev pub is_free_piece : List Word → Bool
is_free_piece p = unwrap_or (option_map (λ x. not (is_reserved x)) (target_of p)) false

abbrev free_told : Option (List (List ℕ)) → Bool
free_told o = unwrap_or (option_map are_free o) false

free_more : (x : List ℕ) (o : Option (List (List ℕ))) → free_told (option_map (λ ys. x ∷ ys) o) ≡ (not (is_reserved x) && free_told o)
free_more x None = go (not (is_reserved x))
  where
    go : (b : Bool) → false ≡ (b && false)
    go true = refl
    go false = refl
free_more x (Some ys) = go (is_reserved x) (list_any is_reserved ys)
  where
    go : (a b : Bool) → not (a || b) ≡ (not a && not b)
    go true b = refl
    go false b = refl

pub free_pieces : (ps : List (List Word)) → free_told (each target_of ps) ≡ list_all is_free_piece ps
free_pieces [] = refl
free_pieces (p ∷ ps) = go (target_of p) refl (free_pieces ps)
  where
    go : (o : Option (List ℕ)) → target_of p ≡ o → free_told (each target_of ps) ≡ list_all is_free_piece ps
        → free_told (each target_of (p ∷ ps)) ≡ list_all is_free_piece (p ∷ ps)
    go None e h = rw (e, each) refl
    go (Some x) e h =
        let here : is_free_piece p ≡ not (is_reserved x) = ap (λ o. unwrap_or (option_map (λ x. not (is_reserved x)) o) false) e in
        let this : each target_of (p ∷ ps) ≡ option_map (λ ys. x ∷ ys) (each target_of ps) = rw (e, each) refl in
        ap free_told this ∙ free_more x (each target_of ps) ∙ ap (λ b. not (is_reserved x) && b) h
        ∙ ap (λ b. b && list_all is_free_piece ps) (sym here)

pub free_kept : (old : List (List Word)) (p : List Word) (ps : List (List Word)) (all : Bool)
    → list_all is_free_piece old ≡ all → old ≡ p ∷ ps → is_free_piece p ≡ true → list_all is_free_piece ps ≡ all
free_kept old p ps all e o k = ap (λ b. b && list_all is_free_piece ps) (sym k) ∙ ap (list_all is_free_piece) (sym o) ∙ e

pub free_stops : (old : List (List Word)) (p : List Word) (ps : List (List Word)) (all : Bool)
    → list_all is_free_piece old ≡ all → old ≡ p ∷ ps → is_free_piece p ≡ false → false ≡ all
free_stops old p ps all e o k = ap (λ b. b && list_all is_free_piece ps) (sym k) ∙ ap (list_all is_free_piece) (sym o) ∙ e

pub free_end : (old : List (List Word)) (all : Bool) → list_all is_free_piece old ≡ all → old ≡ [] → true ≡ all
free_end old all e o = ap (list_all is_free_piece) (sym o) ∙ e
