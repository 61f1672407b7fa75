use Rattle.std.proofs.Common.{◌∷◌, [], ap, ◌∙◌}
use Rattle.boolean_programs.specs.declared.program.Proc.{Proc}
use Rattle.program_forms.specs.Programs.{on_last, with_body}
use Rattle.boolean_syntax.specs.declared.procs.OpenProc.{OpenProc}
use Rattle.boolean_syntax.specs.private.Opened.{proc_now}
use Rattle.boolean_syntax.proofs.ProcLemmas.{last_changed}
use Rattle.boolean_syntax.proofs.procs.Procs.add_line.Goals as goal

pub returns : goal.returns
returns c =
    let last = c.in-Some.last in
    let next : OpenProc = record last { body = c.push.new.self } in
    let q : Proc = proc_now last in
    last_changed (with_body (c.args.line ∷ [])) c.self.inside.begun.items c.pop.new.self.items c.push-2.new.self.items last next
    c.in-Some.ensures.items c.in_ok-push-2.ensures.items
    (ap (λ b. record q { body = b }) c.in_ok-push.ensures.items)
    ∙ ap (on_last (with_body (c.args.line ∷ []))) c.self.view_is
