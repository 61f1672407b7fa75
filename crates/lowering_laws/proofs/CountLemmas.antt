-- How many symbols and rules a lowering has.
use Rattle.std.proofs.Common.{◌≡◌, ℕ, suc, ◌+◌, List, [], ◌∷◌, length, refl, sym, ap, ap₂, ◌∙◌, sum_by}
use Rattle.std.specs.List.{filter}
use Rattle.std.proofs.lemmas.List.{length-map, length-append}
use Rattle.std.proofs.lemmas.List.Sums.{length-filter, sum_by-cons}
use Rattle.boolean_programs.specs.Lines.{Instruction, code}
use Rattle.boolean_programs.specs.Programs.{Program}
use Rattle.boolean_machine.specs.Machine.{Action, Jumps, Sets, Calls, Returns, action}
use Rattle.boolean_machine.specs.Lawful.{is_assert}
use Rattle.program_laws.specs.ReadPrograms.{points, rules, rules_by, ways}
use Rattle.lowering_laws.specs.Lowering.{jump_rule, line_rules, rules_from, plan, symbols}

pub all_points : (p : Program) → symbols p ≡ points p
all_points p =
    ap (λ n. length (code p) + n)
    (length-map (filter (λ (i : Instruction). is_assert i.statement) (code p)) (λ (i : Instruction). i.line) ∙ length-filter (λ (i : Instruction). is_assert i.statement) (code p))

line_ways : (p : Program) (k : ℕ) (i : Instruction) (a : Action) → length (line_rules p k i a) ≡ ways a
line_ways p k i (Jumps points) = length-map points (jump_rule p k)
line_ways p k i (Sets targets values) = refl
line_ways p k i (Calls targets callee arguments) = refl
line_ways p k i (Returns values) = refl

module _ (p : Program) (ways_are : (i : Instruction) → rules_by i.statement ≡ ways (action p i)) where
  rules_are : (k : ℕ) (is : List Instruction) → length (rules_from p k is) ≡ sum_by (λ (i : Instruction). rules_by i.statement) is
  rules_are k [] = refl
  rules_are k (i ∷ is) =
      length-append (line_rules p k i (action p i)) (rules_from p (suc k) is)
      ∙ ap₂ (λ a b. a + b) (line_ways p k i (action p i) ∙ sym (ways_are i)) (rules_are (suc k) is)
      ∙ sym (sum_by-cons (λ (j : Instruction). rules_by j.statement) i is)

  pub all_rules : length (plan p) ≡ rules p
  all_rules = rules_are 0 (code p)
