use Rattle.std.proofs.Common.{ap, ◌∙◌}
use Rattle.std.specs.Prelude.{Err}
use Rattle.wpds_app.proofs.InputLemmas.{unread}
use Rattle.wpds_app.proofs.input.meaning_of.Goals as goal

pub returns-in-Err : goal.returns-in-Err
returns-in-Err c =
    unread c.args.input.now c.in-Err.fault
    (λ program. let is = c.is_program.ensures.1 program in cc (is, c.if-is_program.false))
    (λ r e. c.read_system.ensures.refused r (c.in-Err.is ∙ ap Err e))
