-- Texts in a row: the first, and then the others behind a mark.
use Rattle.std.proofs.Common.{◌≡◌, ◌≤◌, ℕ, Bool, true, false, List, [], ◌∷◌, ◌++◌, map, length, drop, refl, sym, ap, ◌∙◌, append_assoc, append-nil}
use Rattle.std.specs.Prelude.{codes}
use Rattle.std.proofs.lemmas.List.{drop_all}
use Rattle.std.proofs.lemmas.List.Concat.{flat_map-append}
use Rattle.document_forms.specs.Writing.{spaced, ended_but_last, listed, in_turn}
use Rattle.document_writer.specs.private.Rows.{behind_blanks, marked}

-- a row whose first text is known
pub spaced_first : (t : List ℕ) (ts : List (List ℕ)) → spaced (t ∷ ts) ≡ t ++ behind_blanks ts
spaced_first t [] = sym (append-nil t)
spaced_first t (u ∷ ts) = ap (λ r. t ++ 32 ∷ r) (spaced_first u ts)

-- a row and more behind it
pub spaced_more : (t : List ℕ) (ts us : List (List ℕ)) → spaced (t ∷ (ts ++ us)) ≡ spaced (t ∷ ts) ++ behind_blanks us
spaced_more t ts us =
    spaced_first t (ts ++ us)
    ∙ ap (λ r. t ++ r) (flat_map-append (λ u. 32 ∷ u) ts us)
    ∙ sym (append_assoc t (behind_blanks ts) (behind_blanks us))
    ∙ ap (λ r. r ++ behind_blanks us) (sym (spaced_first t ts))

marked_behind : (mark t : List ℕ) (ts : List (List ℕ)) → marked mark true (t ∷ ts) ≡ mark ++ marked mark false (t ∷ ts)
marked_behind mark t ts = append_assoc mark t (marked mark true ts)

pub spaced_marked : (ts : List (List ℕ)) → spaced ts ≡ marked (codes " ") false ts
spaced_marked [] = refl
spaced_marked (t ∷ []) = sym (append-nil t)
spaced_marked (t ∷ u ∷ ts) = ap (λ r. t ++ 32 ∷ r) (spaced_marked (u ∷ ts))

ended_more : (end x u : List ℕ) (ts : List (List ℕ)) → spaced (x ∷ ended_but_last end (u ∷ ts)) ≡ x ++ 32 ∷ spaced (ended_but_last end (u ∷ ts))
ended_more end x u [] = refl
ended_more end x u (t ∷ ts) = refl

ended_marked : (end : List ℕ) (ts : List (List ℕ)) → spaced (ended_but_last end ts) ≡ marked (end ++ 32 ∷ []) false ts
ended_marked end [] = refl
ended_marked end (t ∷ []) = sym (append-nil t)
ended_marked end (t ∷ u ∷ ts) =
    let mark = end ++ 32 ∷ [] in
    ended_more end (t ++ end) u ts
    ∙ ap (λ r. (t ++ end) ++ 32 ∷ r) (ended_marked end (u ∷ ts))
    ∙ append_assoc t end (32 ∷ marked mark false (u ∷ ts))
    ∙ ap (λ r. t ++ r) (sym (append_assoc end (32 ∷ []) (marked mark false (u ∷ ts))))
    ∙ ap (λ r. t ++ r) (sym (marked_behind mark u ts))

pub listed_marked : (ts : List (List ℕ)) → listed ts ≡ marked (codes ", ") false ts
listed_marked = ended_marked (codes ",")

pub in_turn_marked : (ts : List (List ℕ)) → in_turn ts ≡ marked (codes " ; ") false ts
in_turn_marked = ended_marked (codes " ;")

-- a row is written once nothing is left of it
pub row_done : {X : Type 0} (f : X → List ℕ) (mark : List ℕ) (first : Bool) (xs : List X) (place : ℕ) (before after text : List ℕ) → length xs ≤ place → after ++ marked mark first (map f (drop place xs)) ≡ before ++ marked mark false (map f xs) → text ≡ marked mark false (map f xs) → after ≡ before ++ text
row_done f mark first xs place before after text above is text_is =
    sym (append-nil after)
    ∙ ap (λ l. after ++ marked mark first (map f l)) (sym (drop_all place xs above))
    ∙ is
    ∙ ap (λ t. before ++ t) (sym text_is)
