-- The patterns of a query are over the symbols of the lowering.
use Rattle.std.proofs.Common.{◌≡◌, ℕ, ◌<◌, ◌≤◌, zero, suc, ◌+◌, true, false, [], ◌∷◌, arith}
use Rattle.std.specs.Prelude.{All, Result, Ok, Err, IfOk}
use Rattle.std.specs.List.{range_with_len, AllByRecursion}
use Rattle.std.proofs.lemmas.List.Elements.{All-from_recursion, All-cons, All-nil}
use Rattle.config_patterns.specs.declared.item.Item.{Item}
use Rattle.pattern_openings.specs.PatternOpenings.{IsOver}
use Rattle.witness_graph.specs.declared.node.Side.{Side}
use Rattle.witness_graph.specs.declared.node.Side.TheVariants.{Pre, Post}
use Rattle.boolean_programs.specs.declared.point.Point.{Point}
use Rattle.boolean_programs.specs.Programs.{Program}
use Rattle.lowering_laws.specs.Queries.{entry_pattern, point_pattern}
use Rattle.query_answers.specs.Answering.{opened_of}
use Rattle.program_reports.specs.private.Patterns.{alone, on_top}

-- what follows of the value follows where there is one
pub of_ok : {X E : Type 0} {P Q : X → Type 0} (r : Result X E) → ((x : X) → P x → Q x) → IfOk r P → IfOk r Q
of_ok (Ok x) follows is = follows x is
of_ok (Err e) follows is = tt

-- ---- patterns

module _ (n : ℕ) where
  abbrev IsBelow : Item → Type 0
  IsBelow x = All (λ g. g < n) x.set

  all_below : (a k : ℕ) → a + k ≤ n → AllByRecursion (λ g. g < n) (range_with_len a k)
  all_below a zero low = tt
  all_below a (suc k) low = (omega arith, all_below (a + 1) k (omega arith))

  one_below : (g : ℕ) → g < n → IsBelow (record { set = g ∷ []; star = false })
  one_below g low = All-cons (λ h. h < n) g [] low (All-nil (λ h. h < n))

  pub alone_over : (g : ℕ) → g < n → IsOver 1 n (alone n g)
  alone_over g low = record { control = omega arith; sets = All-cons IsBelow (record { set = g ∷ []; star = false }) [] (one_below g low) (All-nil IsBelow) }

  pub on_top_over : (g : ℕ) → g < n → IsOver 1 n (on_top n g)
  on_top_over g low =
      let any : Item = record { set = range_with_len 0 n; star = true } in
      let all : IsBelow any = All-from_recursion (λ h. h < n) (range_with_len 0 n) (all_below 0 n (omega arith)) in
      record {
        control = omega arith;
        sets = All-cons IsBelow (record { set = g ∷ []; star = false }) (any ∷ []) (one_below g low) (All-cons IsBelow any [] all (All-nil IsBelow));
      }

-- the pattern from which a saturation starts has the one control
pub opened_within : (by : Side) (p : Program) (point : Point) (controls : ℕ) → controls ≡ 1 → (opened_of by (entry_pattern p) (point_pattern p point)).control < controls
opened_within Pre p point controls one = omega arith
opened_within Post p point controls one = omega arith
