use Rattle.std.proofs.Common.{ap, ◌∙◌}
use Rattle.std.specs.Prelude.{Err}
use Rattle.wpds_app.proofs.InputLemmas.{unread_program}
use Rattle.wpds_app.proofs.input.program_of.Goals as goal

pub returns-in-Err : goal.returns-in-Err
returns-in-Err c =
    unread_program c.args.input.now c.in-Err.fault c.requires
    (λ r e. (c.programs_are_refused_by_lines.ensures.refused c.args.input.now r).0 (c.read_program.ensures.refused r (c.in-Err.is ∙ ap Err e)))
