use Rattle.program_statements.proofs.reading.read_assign.Goals as goal

pub returns : goal.returns
returns c = λ w begun returns xs vs t v.
    c.assign.ensures w c.args.names.now begun returns xs vs (c.in_ok-targets.ensures xs t) (c.in_ok-choices.ensures vs v)
