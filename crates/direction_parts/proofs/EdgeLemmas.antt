-- What opening edges read, and where they lead.
use Rattle.std.proofs.Common.{◌≡◌, inl, inr, Bool, ℕ, ◌≤◌, true, List, [], ◌∷◌, ◌++◌, refl, sym, ap, ◌∙◌, subst}
use Rattle.std.specs.List.{list_all}
use Rattle.std.proofs.lemmas.Bool.{and_parts, and_from}
use Rattle.weighted_automata.specs.declared.place.Label.{Label}
use Rattle.weighted_automata.specs.declared.place.Label.TheVariants.{Symbol, Empty}
use Rattle.weighted_automata.specs.declared.place.Place.{Place}
use Rattle.wpds_base.specs.Lists.{IsIn}
use Rattle.saturation_laws.specs.Paths.{Reads}
use Rattle.direction_parts.specs.Places.{arrow, reads_symbol, LeadsToItems}

-- what all of a list pass, each passes
pub all_listed : {X : Type 0} (test : X → Bool) (xs : List X) → list_all test xs ≡ true → (x : X) → IsIn x xs → test x ≡ true
all_listed test [] all x h = absurd h
all_listed test (y ∷ xs) all x h =
    let parts = and_parts (test y) (list_all test xs) all in
    elim h [ inl same ↦ sym (ap test same) ∙ parts.0 | inr there ↦ all_listed test xs parts.1 x there ]

pub all_from : {X : Type 0} (test : X → Bool) (xs : List X) → ((x : X) → IsIn x xs → test x ≡ true) → list_all test xs ≡ true
all_from test [] each = refl
all_from test (x ∷ xs) each = and_from (test x) (list_all test xs) (each x (inl refl)) (all_from test xs (λ y h. each y (inr h)))

pub symbol_of : (l : Label) → reads_symbol l ≡ true → (g : ℕ) × (l ≡ Symbol g)
symbol_of (Symbol g) h = (g, refl)
symbol_of Empty h = cc

-- one edge more
pub reads_more : (edges : List Place) (from : ℕ) (word : List ℕ) (mid g to : ℕ) → Reads edges from word mid → IsIn (arrow mid g to) edges → Reads edges from (word ++ g ∷ []) to
reads_more edges from [] mid g to reads edge = let P : ℕ → Type 0 = λ n. IsIn (arrow n g to) edges in (to, subst P (sym reads) edge, refl)
reads_more edges from (h ∷ word) mid g to reads edge = (reads.0, reads.1, reads_more edges reads.0 word mid g to reads.2 edge)

-- where something was read, the edges lead to an item
pub reads_to_item : (controls : ℕ) (edges : List Place) → LeadsToItems controls edges → (from : ℕ) (word : List ℕ) (to : ℕ) → (word ≡ [] → ⊥) → Reads edges from word to → controls ≤ to
reads_to_item controls edges items from [] to full reads = absurd (full refl)
reads_to_item controls edges items from (g ∷ []) to full reads =
    let P : ℕ → Type 0 = λ n. controls ≤ n in subst P reads.2 (items _ reads.1)
reads_to_item controls edges items from (g ∷ h ∷ word) to full reads = reads_to_item controls edges items reads.0 (h ∷ word) to (λ e. cc) reads.2
