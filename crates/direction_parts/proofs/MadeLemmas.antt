-- What is made of each thing that a pass lists.
use Rattle.std.proofs.Common.{◌≡◌, ℕ, suc, List, [], ◌∷◌, ◌++◌, map, refl, ap, ◌∙◌}
use Rattle.std.specs.List.{flat_map}
use Rattle.std.proofs.lemmas.List.{map-append}
use Rattle.pushdown_rules.specs.declared.rule.Rule.{Rule}
use Rattle.pushdown_rules.proofs.CallerLemmas.{by_number}
use Rattle.direction_parts.specs.Passes.{by_rule}

-- of what each rule gives
pub made_by_rule : {S W Map X Y : Type 0} (h : X → Y) (f : ℕ → Rule S W Map → List X) (n : ℕ) (rs : List (Rule S W Map))
    → map h (by_rule f n rs) ≡ by_number (λ k r. map h (f k r)) n rs
made_by_rule h f n [] = refl
made_by_rule h f n (r ∷ rs) = map-append h (f n r) (by_rule f (suc n) rs) ∙ ap (λ ys. map h (f n r) ++ ys) (made_by_rule h f (suc n) rs)

-- of what each item gives
pub made_by_each : {X Y Z : Type 0} (h : Y → Z) (f : X → List Y) (n : ℕ) (xs : List X) → map h (flat_map f xs) ≡ by_number (λ _ x. map h (f x)) n xs
made_by_each h f n [] = refl
made_by_each h f n (x ∷ xs) = map-append h (f x) (flat_map f xs) ∙ ap (λ ys. map h (f x) ++ ys) (made_by_each h f (suc n) xs)
