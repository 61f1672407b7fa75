use Rattle.std.proofs.Common.{◌∙◌, ap₂}
use Rattle.std.proofs.lemmas.Result.{IfOk-weaker}
use Rattle.clap.specs.Words.{with_rule}
use Rattle.command_words.proofs.command.the_command.Goals as goal

pub returns : goal.returns
returns c =
    let first = c.in_ok-arg.ensures.shape c.task_argument.ensures.local ∙ ap₂ with_rule c.bare_command.ensures c.task_argument.ensures.rule in
    let second = c.in_ok-arg-2.ensures.shape c.size_argument.ensures.local ∙ ap₂ with_rule first c.size_argument.ensures.rule in
    let third = c.in_ok-arg-3.ensures.shape c.workers_argument.ensures.local ∙ ap₂ with_rule second c.workers_argument.ensures.rule in
    let fourth = c.in_ok-arg-4.ensures.shape c.by_argument.ensures.local ∙ ap₂ with_rule third c.by_argument.ensures.rule in
    let fifth = c.in_ok-arg-5.ensures.shape c.brief_argument.ensures.local ∙ ap₂ with_rule fourth c.brief_argument.ensures.rule in
    IfOk-weaker c.arg-6.result _ _ (λ r h. h.shape c.traces_argument.ensures.local ∙ ap₂ with_rule fifth c.traces_argument.ensures.rule) c.arg-6.ensures
