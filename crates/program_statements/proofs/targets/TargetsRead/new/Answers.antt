use Rattle.program_statements.proofs.targets.TargetsRead.new.Goals as goal

pub returns : goal.returns
returns c = λ names. record { variables = c.new.ensures names; once = c.new-2.ensures }
