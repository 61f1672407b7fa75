use Rattle.std.proofs.Common.{ap, ◌∙◌}
use Rattle.rule_reader.specs.Names.{number_among}
use Rattle.rule_reader.proofs.NumberedLemmas.{last_is_number}
use Rattle.rule_reader.proofs.names.NameTable.number_of.Goals as goal

pub returns : goal.returns
returns c =
    c.find.ensures.number
    ∙ last_is_number c.self.inside.names.members c.args.name c.self.invariant
    ∙ ap (λ names. number_among names c.args.name.now) c.self.view_is
