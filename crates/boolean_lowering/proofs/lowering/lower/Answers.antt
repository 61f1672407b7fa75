use Rattle.std.proofs.Common.{◌≡◌, ◌≤◌, List, length, map, sym, ap, ◌∙◌, arith}
use Rattle.wpds_base.specs.Limits.{most_symbols}
use Rattle.boolean_programs.specs.declared.point.Point.{Point}
use Rattle.boolean_programs.specs.Lines.{code}
use Rattle.boolean_programs.specs.Programs.{program_of}
use Rattle.lowering_laws.specs.Lowering.{symbols}
use Rattle.boolean_lowering.specs.declared.spot.Spot.{Spot}
use Rattle.boolean_lowering.specs.private.Spots.{instruction_of}
use Rattle.boolean_lowering.proofs.TableLemmas.{points_are, lines_rise, few_lines, points_long}
use Rattle.boolean_lowering.proofs.lowering.lower.Goals as goal

pub of-requires-clause-rising : goal.of-requires-clause-rising
of-requires-clause-rising c =
    let p = program_of c.args.program.now in
    let are : map instruction_of c.deref.result.now ≡ code p = ap (λ (ss : List Spot). map instruction_of ss) c.deref.ensures.value ∙ c.in_ok-spots.ensures in
    lines_rise p c.deref.result.now are c.requires.read

pub of-requires-clause-few : goal.of-requires-clause-few
of-requires-clause-few c =
    let p = program_of c.args.program.now in
    let are : map instruction_of c.deref.result.now ≡ code p = ap (λ (ss : List Spot). map instruction_of ss) c.deref.ensures.value ∙ c.in_ok-spots.ensures in
    let all = c.plans_are_within.ensures.all_points p in
    let few = c.requires.few_points in
    let within : symbols p ≤ most_symbols = omega arith in
    few_lines p c.deref.result.now are most_symbols within

pub system_of-requires-clause-table : goal.system_of-requires-clause-table
system_of-requires-clause-table c =
    let p = program_of c.args.program.now in
    let are : map instruction_of c.deref.result.now ≡ code p = ap (λ (ss : List Spot). map instruction_of ss) c.deref.ensures.value ∙ c.in_ok-spots.ensures in
    c.in_ok-points.ensures ∙ points_are p c.deref.result.now are

pub returns-clause-points : goal.returns-clause-points
returns-clause-points c =
    let p = program_of c.args.program.now in
    let are : map instruction_of c.deref.result.now ≡ code p = ap (λ (ss : List Spot). map instruction_of ss) c.deref.ensures.value ∙ c.in_ok-spots.ensures in
    c.in_ok-points.ensures ∙ points_are p c.deref.result.now are

pub returns-clause-symbols : goal.returns-clause-symbols
returns-clause-symbols c =
    let p = program_of c.args.program.now in
    let are : map instruction_of c.deref.result.now ≡ code p = ap (λ (ss : List Spot). map instruction_of ss) c.deref.ensures.value ∙ c.in_ok-spots.ensures in
    ap (λ (ps : List Point). length ps) (c.in_ok-points.ensures ∙ points_are p c.deref.result.now are) ∙ points_long p ∙ sym c.in_ok-system.ensures.lowering.symbols_are
