use Rattle.std.proofs.Common.{subst}
use Rattle.program_statements.specs.Parts.{HasChoices}
use Rattle.program_statements.proofs.PartLemmas.{no_values}
use Rattle.program_statements.proofs.choices.read_some_choices.Goals as goal

pub returns-in-None : goal.returns-in-None
returns-in-None c = λ vs e.
    let names = c.args.names.now in
    subst (λ l. HasChoices names l c.new.result) (no_values c.args.words.now vs e c.in-None.ensures) (c.new.ensures names)
