use Rattle.rule_reader.proofs.weights.actions.Targets.new.Goals as goal

pub returns : goal.returns
returns c = λ items. record { variables = c.new.ensures items; names = c.new-2.ensures }
