-- A turn at a stack of runs that are begun.
use Rattle.std.proofs.Common.{◌≡◌, ℕ, ◌<◌, List, [], ◌∷◌, ◌++◌, length, map, refl, sym, ap, subst, ◌∙◌, append-nil, arith}
use Rattle.std.specs.Prelude.{All}
use Rattle.std.proofs.lemmas.List.{get_or_append_left, get_or_push, length_push}
use Rattle.std.proofs.lemmas.List.Elements.{All-push}
use Rattle.report_text.specs.declared.beginning.Part.{Part}
use Rattle.report_text.specs.declared.beginning.Part.TheVariants.{Rule, Node}
use Rattle.report_text.specs.declared.beginning.Beginning.{Beginning}
use Rattle.report_text.specs.private.Opening.{rest_runs, runs_behind, begun_runs, stack_runs, steps, stack_steps, IsWithin, AreWithin, IsStack, IsOpened}
use Rattle.report_text.proofs.ConcatenationLemmas.{map_same, empty_last, behind_behind, rule_first}
use Rattle.report_text.proofs.OpeningLemmas.{steps_push, steps_some, rest_push, stack_push, stack_steps_push}

all_rest : {X : Type 0} (P : X → Type 0) (xs : List X) (x : X) → All P (xs ++ x ∷ []) → All P xs
all_rest P xs x all k d h = subst P (get_or_append_left xs (x ∷ []) d k h) (all k d (omega (arith, length_push xs x)))

all_last : {X : Type 0} (P : X → Type 0) (xs : List X) (x : X) → All P (xs ++ x ∷ []) → P x
all_last P xs x all = subst P (get_or_push xs x x (length xs) refl) (all (length xs) x (omega (arith, length_push xs x)))

module _ (n : ℕ) (known : ℕ → List (List ℕ)) where
  -- a node begins the runs that it has
  pub first_runs : (k : ℕ) (stack : List Beginning) (b : Beginning) → b.rules.items ≡ [] → b.parts.items ≡ Node k ∷ [] → stack ≡ b ∷ [] → stack_runs known stack ≡ known k
  first_runs k stack b rules parts e =
      ap (stack_runs known) e
      ∙ append-nil (begun_runs known b)
      ∙ ap (λ l. map (λ rest. l ++ rest) (rest_runs known b.parts.items)) rules
      ∙ map_same (rest_runs known b.parts.items)
      ∙ ap (rest_runs known) parts
      ∙ empty_last (known k)

  pub first_within : (k : ℕ) (stack : List Beginning) (b : Beginning) → k < n → b.parts.items ≡ Node k ∷ [] → stack ≡ b ∷ [] → IsStack n stack
  first_within k stack b within parts e =
      subst (IsStack n) (sym e)
      (All-push (λ x. AreWithin n x.parts.items) [] b (λ i d h. absurd (omega arith))
      (subst (AreWithin n) (sym parts) (All-push (IsWithin n) [] (Node k) (λ i d h. absurd (omega arith)) within)))

  module _ (stack rest : List Beginning) (b : Beginning) (popped : stack ≡ rest ++ b ∷ []) where
    last_within : IsStack n stack → AreWithin n b.parts.items
    last_within all = all_last (λ x. AreWithin n x.parts.items) rest b (subst (IsStack n) popped all)

    pub rest_within : IsStack n stack → IsStack n rest
    rest_within all = all_rest (λ x. AreWithin n x.parts.items) rest b (subst (IsStack n) popped all)

    module _ (parts : List Part) (p : Part) (next : b.parts.items ≡ parts ++ p ∷ []) where
      pub next_within : IsStack n stack → IsWithin n p
      next_within all = all_last (IsWithin n) parts p (subst (AreWithin n) next (last_within all))

      pub after_within : IsStack n stack → AreWithin n parts
      after_within all = all_rest (IsWithin n) parts p (subst (AreWithin n) next (last_within all))

    -- a rule that comes next
    module _ (parts : List Part) (r : ℕ) (next : b.parts.items ≡ parts ++ Rule r ∷ []) (now : List Beginning) (c : Beginning) (rules : c.rules.items ≡ b.rules.items ++ r ∷ [])
        (left : c.parts.items ≡ parts) (pushed : now ≡ rest ++ c ∷ []) where
      pub rule_runs : stack_runs known now ≡ stack_runs known stack
      rule_runs =
          ap (stack_runs known) pushed
          ∙ stack_push n known rest c
          ∙ ap (λ l. map (λ more. l ++ more) (rest_runs known c.parts.items) ++ stack_runs known rest) rules
          ∙ ap (λ l. map (λ more. (b.rules.items ++ r ∷ []) ++ more) (rest_runs known l) ++ stack_runs known rest) left
          ∙ ap (λ l. l ++ stack_runs known rest) (sym (behind_behind b.rules.items (r ∷ []) (rest_runs known parts)))
          ∙ ap (λ l. map (λ more. b.rules.items ++ more) l ++ stack_runs known rest) (sym (rest_push known parts (Rule r) ∙ rule_first r (rest_runs known parts)))
          ∙ ap (λ l. map (λ more. b.rules.items ++ more) (rest_runs known l) ++ stack_runs known rest) (sym next)
          ∙ sym (stack_push n known rest b)
          ∙ ap (stack_runs known) (sym popped)

      pub rule_fewer : stack_steps now < stack_steps stack
      rule_fewer = omega (arith, ap stack_steps pushed, ap stack_steps popped, stack_steps_push rest c, stack_steps_push rest b, ap steps left, ap steps next, steps_push parts (Rule r), steps_some parts)

      pub rule_within : IsStack n stack → IsStack n now
      rule_within all =
          subst (IsStack n) (sym pushed)
          (All-push (λ x. AreWithin n x.parts.items) rest c (rest_within all) (subst (AreWithin n) (sym left) (after_within parts (Rule r) next all)))

    -- a node that comes next
    pub node_runs : (parts : List Part) (k : ℕ) → b.parts.items ≡ parts ++ Node k ∷ [] → (now : List Beginning) (most : ℕ)
        → IsOpened n known (runs_behind known b.rules.items (known k) parts) most rest now → stack_runs known now ≡ stack_runs known stack
    node_runs parts k next now most opened =
        opened.runs
        ∙ ap (λ l. map (λ more. b.rules.items ++ more) l ++ stack_runs known rest) (sym (rest_push known parts (Node k)))
        ∙ ap (λ l. map (λ more. b.rules.items ++ more) (rest_runs known l) ++ stack_runs known rest) (sym next)
        ∙ sym (stack_push n known rest b)
        ∙ ap (stack_runs known) (sym popped)
