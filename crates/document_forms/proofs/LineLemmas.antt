-- The pieces of a text are what they are said to be.
use Rattle.std.proofs.Common.{◌≡◌, ◌≢◌, ◌↔◌, inl, inr, ℕ, Bool, true, false, not, cond, List, [], ◌∷◌, ◌++◌, refl, sym, ap, ◌∙◌, subst}
use Rattle.std.specs.Prelude.{◌==◌}
use Rattle.std.proofs.lemmas.Bool.{and_parts, and_from, not-true, eqb-true}
use Rattle.document_forms.specs.Lines.{in_front, pieces, has_no_feed, IsCut}

-- a piece that a line feed ends
pieces-ended : (p rest : List ℕ) → has_no_feed p ≡ true → pieces (p ++ 10 ∷ rest) ≡ p ∷ pieces rest
pieces-ended [] rest h = refl
pieces-ended (b ∷ p) rest h =
    let k = and_parts (not (b == 10)) (has_no_feed p) h in
    let m = not-true (b == 10) k.0 in
    rw (m, pieces-ended p rest k.1) refl

-- a piece that the end ends
pieces-last : (b : ℕ) (p : List ℕ) → has_no_feed (b ∷ p) ≡ true → pieces (b ∷ p) ≡ (b ∷ p) ∷ []
pieces-last b [] h = rw (not-true (b == 10) (and_parts (not (b == 10)) true h).0) refl
pieces-last b (c ∷ p) h =
    let k = and_parts (not (b == 10)) (has_no_feed (c ∷ p)) h in
    rw (not-true (b == 10) k.0, pieces-last c p k.1) refl

pieces_of_cut : (ps : List (List ℕ)) (bytes : List ℕ) → IsCut bytes ps → pieces bytes ≡ ps
pieces_of_cut [] bytes h = ap pieces h
pieces_of_cut (p ∷ ps) bytes h = elim (h.1) [
  | inl m ↦ ap pieces m.1 ∙ pieces-ended p m.0 h.0 ∙ ap (λ x. p ∷ x) (pieces_of_cut ps m.0 m.2)
  | inr m ↦ ap pieces m.0 ∙ last p h.0 m.1 ∙ ap (λ x. p ∷ x) (sym m.2)
]
  where
    last : (p : List ℕ) → has_no_feed p ≡ true → p ≢ [] → pieces p ≡ p ∷ []
    last [] g n = absurd (n refl)
    last (b ∷ p) g n = pieces-last b p g

-- a byte in front keeps the cutting
in_front_is_cut : (b : ℕ) (bs : List ℕ) (ps : List (List ℕ)) → (b == 10) ≡ false → IsCut bs ps → IsCut (b ∷ bs) (in_front b ps)
in_front_is_cut b bs [] n h = (rw n refl, inr (ap (λ x. b ∷ x) h, (λ e. cc), refl))
in_front_is_cut b bs (p ∷ ps) n h = (
  and_from (not (b == 10)) (has_no_feed p) (rw n refl) h.0,
  elim (h.1) [
    | inl m ↦ inl (m.0, ap (λ x. b ∷ x) m.1, m.2)
    | inr m ↦ inr (ap (λ x. b ∷ x) m.0, (λ e. cc), m.2)
  ],
)

pieces_are_cut : (bytes : List ℕ) → IsCut bytes (pieces bytes)
pieces_are_cut [] = refl
pieces_are_cut (b ∷ bs) = go (b == 10) refl (pieces_are_cut bs)
  where
    go : (t : Bool) → (b == 10) ≡ t → IsCut bs (pieces bs) → IsCut (b ∷ bs) (cond t ([] ∷ pieces bs) (in_front b (pieces bs)))
    go true e h = (refl, inl (bs, ap (λ x. x ∷ bs) (eqb-true b 10 e), h))
    go false e h = in_front_is_cut b bs (pieces bs) e h

-- there is one cutting, and it is the pieces
pub is_cut : (bytes : List ℕ) (ps : List (List ℕ)) → (pieces bytes ≡ ps) ↔ IsCut bytes ps
is_cut bytes ps = ((λ e. subst (λ x. IsCut bytes x) e (pieces_are_cut bytes)), pieces_of_cut ps bytes)
