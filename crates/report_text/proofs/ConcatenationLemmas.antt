-- Runs one after the other.
use Rattle.std.proofs.Common.{◌≡◌, ℕ, List, [], ◌∷◌, ◌++◌, map, refl, sym, ap, ◌∙◌, append-nil, append_assoc}
use Rattle.std.proofs.lemmas.List.{map-append}
use Rattle.std.proofs.lemmas.Grind.{flat_map-append}
use Rattle.witness_graph.specs.Runs.{concatenations}

pub map_same : (xs : List (List ℕ)) → map (λ b. b) xs ≡ xs
map_same [] = refl
map_same (x ∷ xs) = ap (λ l. x ∷ l) (map_same xs)

-- the empty run adds nothing
pub empty_first : (xs : List (List ℕ)) → concatenations ([] ∷ []) xs ≡ xs
empty_first xs = append-nil (map (λ b. b) xs) ∙ map_same xs

pub empty_last : (xs : List (List ℕ)) → concatenations xs ([] ∷ []) ≡ xs
empty_last [] = refl
empty_last (x ∷ xs) = ap (λ l. l ∷ concatenations xs ([] ∷ [])) (append-nil x) ∙ ap (λ l. x ∷ l) (empty_last xs)

pub either_first : (xs ys zs : List (List ℕ)) → concatenations (xs ++ ys) zs ≡ concatenations xs zs ++ concatenations ys zs
either_first xs ys zs = flat_map-append (λ a. map (λ b. a ++ b) zs) xs ys

-- ---- behind a run

pub behind_behind : (a b : List ℕ) (xs : List (List ℕ)) → map (λ c. a ++ c) (map (λ c. b ++ c) xs) ≡ map (λ c. (a ++ b) ++ c) xs
behind_behind a b [] = refl
behind_behind a b (x ∷ xs) =
    ap (λ l. l ∷ map (λ c. a ++ c) (map (λ c. b ++ c) xs)) (sym (append_assoc a b x)) ∙ ap (λ l. ((a ++ b) ++ x) ∷ l) (behind_behind a b xs)

behind_first : (a : List ℕ) (xs ys : List (List ℕ)) → concatenations (map (λ b. a ++ b) xs) ys ≡ map (λ b. a ++ b) (concatenations xs ys)
behind_first a [] ys = refl
behind_first a (x ∷ xs) ys =
    ap (λ l. map (λ c. (a ++ x) ++ c) ys ++ l) (behind_first a xs ys)
    ∙ ap (λ l. l ++ map (λ b. a ++ b) (concatenations xs ys)) (sym (behind_behind a x ys))
    ∙ sym (map-append (λ b. a ++ b) (map (λ c. x ++ c) ys) (concatenations xs ys))

pub concatenations_assoc : (xs ys zs : List (List ℕ)) → concatenations (concatenations xs ys) zs ≡ concatenations xs (concatenations ys zs)
concatenations_assoc [] ys zs = refl
concatenations_assoc (x ∷ xs) ys zs =
    either_first (map (λ b. x ++ b) ys) (concatenations xs ys) zs
    ∙ ap (λ l. l ++ concatenations (concatenations xs ys) zs) (behind_first x ys zs)
    ∙ ap (λ l. map (λ b. x ++ b) (concatenations ys zs) ++ l) (concatenations_assoc xs ys zs)

-- a rule first
pub rule_first : (r : ℕ) (xs : List (List ℕ)) → concatenations ((r ∷ []) ∷ []) xs ≡ map (λ b. (r ∷ []) ++ b) xs
rule_first r xs = append-nil (map (λ b. (r ∷ []) ++ b) xs)
