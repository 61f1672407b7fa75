use Rattle.std.proofs.Common.{not, nat_lt, ap, ap₂, ◌∙◌}
use Rattle.document_forms.specs.Names.{is_among}
use Rattle.rule_reader.proofs.NumberedLemmas.{name_added}
use Rattle.rule_reader.proofs.names.NameTable.add.Goals as goal

pub invariant_of-self-2 : goal.invariant_of-self-2
invariant_of-self-2 c = (name_added c.self.inside.names.members c.make.new.self.members c.args.name c.self.invariant c.in_ok-make.ensures.members).once

pub returns-clause-added : goal.returns-clause-added
returns-clause-added c =
    ap₂ nat_lt c.len-count.ensures.len c.len.ensures.len
    ∙ (name_added c.self.inside.names.members c.make.new.self.members c.args.name c.self.invariant c.in_ok-make.ensures.members).added
    ∙ ap (λ names. not (is_among names c.args.name.now)) c.self.view_is
