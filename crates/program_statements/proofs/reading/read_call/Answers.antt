use Rattle.program_statements.proofs.reading.read_call.Goals as goal

pub returns : goal.returns
returns c = λ w begun returns xs vs tables t v.
    c.call.ensures w c.args.names.now begun returns xs c.args.callee.now vs (c.in_ok-targets.ensures xs t) (c.proc.ensures w tables) (c.in_ok-arguments.ensures vs v)
