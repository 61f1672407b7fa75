-- Runs that are begun, and too long already.
use Rattle.std.proofs.Common.{◌≡◌, ℕ, suc, ◌<◌, ◌≤◌, List, [], ◌∷◌, ◌++◌, length, map, fold, ap, ◌∙◌, length-append, arith}
use Rattle.std.specs.Prelude.{Option}
use Rattle.std.proofs.Math.Nat.{mul-pos}
use Rattle.witness_graph.specs.Runs.{concatenations}
use Rattle.report_text.specs.declared.totals.Totals.{Totals}
use Rattle.report_text.specs.declared.beginning.Part.{Part}
use Rattle.report_text.specs.declared.beginning.Part.TheVariants.{Rule, Node}
use Rattle.report_text.specs.declared.beginning.Beginning.{Beginning}
use Rattle.report_text.specs.private.Counting.{AreCounted}
use Rattle.report_text.specs.private.Opening.{runs_by, rest_runs, stack_runs, IsWithin, AreWithin}
use Rattle.report_text.proofs.TotalLemmas.{length-concatenations}
use Rattle.report_text.proofs.ConcatenationLemmas.{rule_first}
use Rattle.report_text.proofs.OpeningLemmas.{rest_push, stack_push}

module _ (n : ℕ) (known : ℕ → List (List ℕ)) (totals : List (Option Totals)) (len : length totals ≡ n) (counted : AreCounted totals known) where
  some_by : (p : Part) → IsWithin n p → 0 < length (runs_by known p)
  some_by (Rule r) within = omega arith
  some_by (Node k) within = (counted k (omega arith)).some

  some_from : (parts : List Part) (after : List (List ℕ)) → 0 < length after → AreWithin n parts → 0 < length (fold (λ rest part. concatenations (runs_by known part) rest) after parts)
  some_from [] after some within = some
  some_from (p ∷ ps) after some within =
      let first = some_by p (within 0 p (omega arith)) in
      some_from ps (concatenations (runs_by known p) after) (omega (arith, length-concatenations (runs_by known p) after, mul-pos first some)) (λ k d h. within (suc k) d (omega arith))

  some_rest : (parts : List Part) → AreWithin n parts → 0 < length (rest_runs known parts)
  some_rest parts within = some_from parts ([] ∷ []) (omega arith) within

  -- the first of the runs has more rules than there is room for
  abbrev pub IsOver : ℕ → List Beginning → Type 0
  IsOver room stack = (run : List ℕ) × (more : List (List ℕ)) × (stack_runs known stack ≡ run ∷ more) × (room < length run)

  pub over_room : (room : ℕ) (stack rest : List Beginning) (b : Beginning) → stack ≡ rest ++ b ∷ [] → (parts : List Part) (r : ℕ) → b.parts.items ≡ parts ++ Rule r ∷ [] → AreWithin n parts → room ≤ length b.rules.items → IsOver room stack
  over_room room stack rest b popped parts r next within full = by_rest (rest_runs known parts) (some_rest parts within) runs_are
    where
      runs_are : stack_runs known stack ≡ map (λ more. b.rules.items ++ more) (map (λ more. (r ∷ []) ++ more) (rest_runs known parts)) ++ stack_runs known rest
      runs_are =
          ap (stack_runs known) popped
          ∙ stack_push n known rest b
          ∙ ap (λ l. map (λ more. b.rules.items ++ more) (rest_runs known l) ++ stack_runs known rest) next
          ∙ ap (λ l. map (λ more. b.rules.items ++ more) l ++ stack_runs known rest) (rest_push known parts (Rule r) ∙ rule_first r (rest_runs known parts))

      by_rest : (runs : List (List ℕ)) → 0 < length runs → stack_runs known stack ≡ map (λ more. b.rules.items ++ more) (map (λ more. (r ∷ []) ++ more) runs) ++ stack_runs known rest → IsOver room stack
      by_rest [] some e = absurd (omega arith)
      by_rest (x ∷ xs) some e = (
        b.rules.items ++ ((r ∷ []) ++ x),
        map (λ more. b.rules.items ++ more) (map (λ more. (r ∷ []) ++ more) xs) ++ stack_runs known rest,
        e,
        omega (arith, length-append b.rules.items ((r ∷ []) ++ x), length-append (r ∷ []) x),
      )
