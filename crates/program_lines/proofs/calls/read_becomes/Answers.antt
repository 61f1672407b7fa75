use Rattle.std.proofs.Common.{sym, ap, ◌∙◌}
use Rattle.program_forms.specs.Forms.{list_of}
use Rattle.program_lines.proofs.LineLemmas.{call_becomes}
use Rattle.program_lines.proofs.calls.read_becomes.Goals as goal

pub returns-in-Some : goal.returns-in-Some
returns-in-Some c =
    call_becomes c.args.front.now c.args.back.now c.in-Some.call (sym c.if-not-is_list.ensures)
    (λ xs e. rw c.in-Some.is at (c.in_ok-call.ensures xs (ap list_of c.reborrow.ensures.same ∙ e)))
