-- What holds of each item of a list, one item more.
use Rattle.std.proofs.Common.{◌≡◌, ℕ, ◌+◌, ◌<◌, ◌≤◌, List, [], ◌∷◌, ◌++◌, length, get_or, take, sym, ap, ◌∙◌, subst}
use Rattle.std.specs.Prelude.{All}
use Rattle.std.proofs.lemmas.List.{take_more, take_all}
use Rattle.std.proofs.lemmas.List.Elements.{All-from_recursion, recursion_from_All}
use Rattle.saturation_laws.proofs.CallerLemmas.{all_append}

module _ {X : Type 0} (P : X → Type 0) (xs : List X) (i : ℕ) (here : All P (take i xs)) where
  pub all_more : (x : X) → i < length xs → x ≡ get_or xs i x → P x → All P (take (i + 1) xs)
  all_more x within read holds =
      let longer : take i xs ++ x ∷ [] ≡ take (i + 1) xs = ap (λ y. take i xs ++ y ∷ []) read ∙ sym (take_more xs i x within) in
      subst (All P) longer (All-from_recursion P (take i xs ++ x ∷ []) (all_append P (take i xs) (x ∷ []) (recursion_from_All P (take i xs) here) (holds, tt)))

  pub all_read : length xs ≤ i → All P xs
  all_read past = subst (All P) (take_all i xs past) here
