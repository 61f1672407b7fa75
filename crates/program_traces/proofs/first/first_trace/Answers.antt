use Rattle.std.proofs.Common.{◌-◌, ◌+◌, sym, subst, arith}
use Rattle.boolean_programs.specs.Programs.{program_of}
use Rattle.witness_graph.specs.Runs.{listing_runs}
use Rattle.program_traces.specs.Traces.{FiresFromEntry, IsRunTrace}
use Rattle.program_traces.specs.Firsts.{IsInfeasible}
use Rattle.program_traces.proofs.FirstLemmas.{some_left, no_room, too_long, fires, shows, goes_on}
use Rattle.program_traces.proofs.first.first_trace.Goals as goal

pub returns-in-TooLong : goal.returns-in-TooLong
returns-in-TooLong c =
    let system = c.args.lowering.now.system in
    let p = program_of c.args.program.now in
    let runs = listing_runs c.args.listing.now in
    let over = rw c.in-TooLong.is at c.in_ok-next.ensures in
    too_long system p c.args.limit runs c.requires.feasible c.runs.room c.runs.left c.runs.invariant over.0 over.1 over.2 (let h = over.3 in omega arith)

pub unreachable-requires : goal.unreachable-requires
unreachable-requires c =
    let system = c.args.lowering.now.system in
    let p = program_of c.args.program.now in
    let runs = listing_runs c.args.listing.now in
    some_left system p c.args.limit runs c.requires.feasible c.runs.room c.runs.left c.runs.invariant (rw c.in-End.is at c.in_ok-next.ensures)

pub concrete-requires-clause-runs : goal.concrete-requires-clause-runs
concrete-requires-clause-runs c =
    let system = c.args.lowering.now.system in
    let p = program_of c.args.program.now in
    let runs = listing_runs c.args.listing.now in
    let next = rw c.in-Run.is at c.in_ok-next.ensures in
    let room = c.runs-test.true in
    let fires_on = fires system p c.args.limit runs c.requires.feasible c.runs.room c.runs.left c.runs.invariant c.in-Run.run' c.in_ok-next.field-0.rest next.0 (let h = next.1 in omega arith) c.requires.runs in
    subst (FiresFromEntry p system) (sym c.as_slice.ensures) fires_on

pub returns-in-Some : goal.returns-in-Some
returns-in-Some c =
    let system = c.args.lowering.now.system in
    let p = program_of c.args.program.now in
    let runs = listing_runs c.args.listing.now in
    let next = rw c.in-Run.is at c.in_ok-next.ensures in
    let room = c.runs-test.true in
    shows system p c.args.limit runs c.requires.feasible c.runs.room c.runs.left c.runs.invariant c.in-Run.run' c.in_ok-next.field-0.rest next.0 (let h = next.1 in omega arith) c.in-Some.trace
    (λ none. let told = c.in_ok-trace-in-Run.ensures.none.1 (subst (IsInfeasible system) (sym c.as_slice.ensures) none) in let is = c.in-Some.is in cc)
    (subst (λ run. IsRunTrace p system run c.in-Some.trace) c.as_slice.ensures (rw c.in-Some.is at c.in_ok-trace-in-Run.ensures.some))

pub runs-preserved : goal.runs-preserved
runs-preserved c =
    let system = c.args.lowering.now.system in
    let p = program_of c.args.program.now in
    let runs = listing_runs c.args.listing.now in
    let next = rw c.in-Run.is at c.in_ok-next.ensures in
    let room = c.runs-test.true in
    let none = subst (IsInfeasible system) c.as_slice.ensures (c.in_ok-trace-in-Run.ensures.none.0 c.in_default.is) in
    goes_on system p c.args.limit runs c.requires.feasible c.runs.room c.runs.left c.runs.invariant c.in-Run.run' c.in_ok-next.field-0.rest next.0 (let h = next.1 in omega arith) none (c.runs.room - (c.len.result + 1)) (let h = next.1 in let l = c.len.ensures in omega arith)

pub returns : goal.returns
returns c =
    let system = c.args.lowering.now.system in
    let p = program_of c.args.program.now in
    let runs = listing_runs c.args.listing.now in
    no_room system p c.args.limit runs c.requires.feasible c.runs.room c.runs.left c.runs.invariant (let none = c.runs-test.false in omega arith)
