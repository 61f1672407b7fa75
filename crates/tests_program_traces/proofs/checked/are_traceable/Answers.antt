use Rattle.std.proofs.Common.{subst}
use Rattle.boolean_programs.specs.Programs.{program_of}
use Rattle.witness_graph.specs.Runs.{listing_runs}
use Rattle.tests_program_traces.specs.Checked.{IsTraced}
use Rattle.tests_program_traces.proofs.RunLemmas.{one_more}
use Rattle.tests_program_traces.proofs.checked.are_traceable.Goals as goal

pub runs-preserved : goal.runs-preserved
runs-preserved c =
    let system = c.args.lowering.now.system in
    let p = program_of c.args.program.now in
    let next = rw c.in-Run.is at c.in_ok-next.ensures in
    let is = rw c.in-Some.is at c.in_ok-traced-in-Run.ensures in
    let traced : IsTraced p system c.in-Run.run' c.in-Some.trace = subst (λ r. IsTraced p system r c.in-Some.trace) c.as_slice.ensures is in
    one_more p system (listing_runs c.args.listing.now) c.runs.left c.runs.found c.runs.invariant c.in-Run.run' c.in_ok-next.field-0.rest c.in-Some.trace next.0 traced c.is_found-found.result c.is_found-found.ensures
