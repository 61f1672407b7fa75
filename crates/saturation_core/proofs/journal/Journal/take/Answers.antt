use Rattle.std.proofs.Common.{suc, ◌≡◌, [], ◌∷◌, ◌++◌, length, ap, ◌∙◌, sym, arith}
use Rattle.std.proofs.lemmas.List.{length-append}
use Rattle.saturation_core.specs.JournalEvents as event
use Rattle.saturation_core.specs.declared.journal.Mark.TheVariants.{Take}
use Rattle.saturation_core.specs.private.Records.{events_of, taken}
use Rattle.saturation_core.proofs.RecordLemmas.{take_push, taken_take}
use Rattle.saturation_core.proofs.journal.Journal.take.Goals as goal

marks_are : (c : goal.After-push_reserved) → c.push_reserved.new.self.items ≡ c.self.inside.marks.items ++ Take c.args.seat ∷ []
marks_are c = c.push_reserved.ensures.items ∙ ap (λ ms. ms ++ Take c.args.seat ∷ []) c.in_ok-reserve.ensures.items

pub invariant_of-self-2 : goal.invariant_of-self-2
invariant_of-self-2 c =
    ap taken (marks_are c) ∙ taken_take c.self.inside.marks.items c.args.seat ∙ ap suc c.self.invariant
    ∙ omega (arith, length-append c.self.inside.numbers.items (c.args.number ∷ [])) ∙ sym (ap (λ ps. length ps) c.in_ok-push.ensures.items)

pub returns-clause-ok : goal.returns-clause-ok
returns-clause-ok c =
    ap (λ ms. events_of ms c.push.new.self.items) (marks_are c)
    ∙ ap (λ ps. events_of (c.self.inside.marks.items ++ Take c.args.seat ∷ []) ps) c.in_ok-push.ensures.items
    ∙ take_push c.self.inside.marks.items c.self.inside.numbers.items c.self.invariant c.args.seat c.args.number
    ∙ ap (λ j. j.events ++ event.Take c.args.seat c.args.number ∷ []) c.self.view_is
