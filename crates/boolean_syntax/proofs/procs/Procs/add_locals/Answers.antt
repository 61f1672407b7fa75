use Rattle.std.proofs.Common.{ap, ◌∙◌}
use Rattle.boolean_programs.specs.declared.program.Proc.{Proc}
use Rattle.document_reader.specs.NameLines.{names_in}
use Rattle.program_forms.specs.Programs.{on_last, with_locals}
use Rattle.boolean_syntax.specs.declared.procs.OpenProc.{OpenProc}
use Rattle.boolean_syntax.specs.private.Opened.{proc_now}
use Rattle.boolean_syntax.proofs.ProcLemmas.{last_changed}
use Rattle.boolean_syntax.proofs.procs.Procs.add_locals.Goals as goal

pub returns : goal.returns
returns c =
    let last = c.in-Some.last in
    let next : OpenProc = record last { locals = c.add_texts.new.texts } in
    let q : Proc = proc_now last in
    let added = with_locals (names_in c.args.names.now) in
    last_changed added c.self.inside.begun.items c.pop.new.self.items c.push.new.self.items last next
    c.in-Some.ensures.items c.in_ok-push.ensures.items
    (ap (λ xs. record q { locals = xs }) c.in_ok-add_texts.ensures)
    ∙ ap (on_last added) c.self.view_is
