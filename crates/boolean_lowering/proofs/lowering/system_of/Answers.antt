use Rattle.std.proofs.Common.{ℕ, ◌≤◌, [], List, length, refl, sym, ap, subst, ◌∙◌, arith}
use Rattle.wpds_base.specs.Limits.{most_rules}
use Rattle.pushdown_rules.specs.Pushdown.{Pushdown}
use Rattle.relation_laws.specs.Building.{Parts}
use Rattle.relation_laws.specs.Relations.{leads}
use Rattle.relation_weights.specs.declared.rel_map.RelMap.{RelMap}
use Rattle.boolean_programs.specs.declared.point.Point.{Point}
use Rattle.boolean_programs.specs.Programs.{Program, program_of}
use Rattle.lowering_laws.specs.Lowering.{variables, plan}
use Rattle.lowering_laws.specs.Weights.{slots_of}
use Rattle.boolean_lowering.specs.private.Made.{IsFor, AreAdded, program_in}
use Rattle.boolean_lowering.proofs.LayoutLemmas.{variables_same}
use Rattle.boolean_lowering.proofs.TableLemmas.{points_long, lowering_made}
use Rattle.boolean_lowering.proofs.lowering.system_of.Goals as goal

pub add_lines-requires-clause-few_rules : goal.add_lines-requires-clause-few_rules
add_lines-requires-clause-few_rules c =
    let p = program_of c.args.program.now in
    let all = c.plans_are_within.ensures.all_rules p in
    let few = c.requires.few_rules in
    let within : length (plan p) ≤ most_rules = omega arith in
    subst (λ (q : Program). length (plan q) ≤ most_rules) (sym c.in_ok-making.ensures.program) within

pub returns : goal.returns
returns c =
    let p = program_of c.args.program.now in
    let program = c.in_ok-making.ensures.program in
    let none : Pushdown ℕ Parts RelMap = record { semiring = c.keeping_results-relations.result; controls = 1; symbols = c.len-symbols.result; rules = [] } in
    let new = c.add_lines.new.system in
    let is : IsFor p none = record {
      semiring = c.keeping_results-relations.ensures ∙ c.variables.ensures.value
          ∙ variables_same (program_in c.in_ok-making.making) c.in_ok-making.making.layout c.in_ok-making.ensures.making.layout ∙ ap variables program;
      controls = refl;
      symbols_are = c.len-symbols.ensures.value ∙ ap (λ (ps : List Point). length ps) c.requires.table ∙ points_long p;
    } in
    let are : AreAdded p none new (plan p) =
    subst (λ (s : Pushdown ℕ Parts RelMap). AreAdded p s new (plan p)) c.new-system.ensures
    (subst (λ (q : Program). AreAdded q c.new-system.result new (plan q)) program c.in_ok-add_lines.ensures) in
    lowering_made p none new (λ q s one count lowered. c.plans_are_made.ensures.system q s leads slots_of one count lowered) is refl are
