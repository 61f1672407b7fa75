use Rattle.std.proofs.Common.{subst}
use Rattle.program_statements.specs.Parts.{HasTargets}
use Rattle.program_statements.proofs.PartLemmas.{no_targets}
use Rattle.program_statements.proofs.targets.read_call_targets.Goals as goal

pub returns-in-None : goal.returns-in-None
returns-in-None c = λ xs e.
    let names = c.args.names.now in
    subst (λ l. HasTargets names l c.new.result) (no_targets c.args.targets.now xs e c.in-None.is) (c.new.ensures names)
