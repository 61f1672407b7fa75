use Rattle.std.proofs.Common.{◌≡◌, ◌+◌, ◌++◌, ◌∷◌, [], drop, Some, None, sym, ap, ◌∙◌, refl, subst}
use Rattle.std.proofs.lemmas.List.{drop_all}
use Rattle.wpds_port.specs.Refusals.{refusal}
use Rattle.wpds_base.specs.Faults.{first_fault}
use Rattle.program_forms.specs.Declared.{Whole, whole}
use Rattle.program_forms.specs.Places.{at_top, place_behind}
use Rattle.program_forms.specs.FirstRefusal.{end_conditions}
use Rattle.program_tables.specs.Judging.{AreJudged}
use Rattle.boolean_syntax.specs.private.Found.{stated_lines}
use Rattle.boolean_syntax.specs.private.Readings.{HasRead}
use Rattle.boolean_syntax.proofs.DeclarationLemmas.{end_told}
use Rattle.boolean_syntax.proofs.WayLemmas.{begins, goes_on, found_here, all_taken, found_at_end, refused_alone, next_kept, first_kept, none_kept, refusal_kept}
use Rattle.boolean_syntax.proofs.program.read_body.Goals as goal

pub loop-line-init : goal.loop-line-init
loop-line-init c = λ ls walked.
    let w : Whole = whole (stated_lines ls) in
    let top = c.at_top-place.ensures in (
      [],
      ls,
      begins w ls c.at_top-place.result top,
      c.in_ok-reading.ensures w walked.declared,
      subst (λ p. AreJudged p ls c.deref-line-items.result.now c.args.stated.refused) (sym top)
          (subst (λ ts. AreJudged at_top ls ts c.args.stated.refused) (sym c.deref-line-items.ensures.value) walked.judged),
    )

pub loop-line-preserved : goal.loop-line-preserved
loop-line-preserved c = λ ls walked.
    let w : Whole = whole (stated_lines ls) in
    let m = c.loop-line.invariant ls walked in
    let items = c.deref-line-items.result.now in
    let k = c.loop-line.line-index in
    let t = c.line-item.result in
    let p = c.loop-line.place in
    let first = first_kept p m.1 (drop k items) (drop (k + 1) items) c.args.stated.refused t
    (next_kept items k t c.loop-line-test.true c.line-item.is) m.4 in
    let g = rw c.in_default.is at (c.in_ok-kind.ensures w m.0 first.0 walked.declared m.3 first.3) in (
      m.0 ++ g.line ∷ [],
      first.1,
      goes_on w ls p c.read_line.new.place m.1 first.1 m.0 first.0 g.line m.2 first.2 g.judged g.kind g.place,
      g.read,
      subst (λ q. AreJudged q first.1 (drop (k + 1) items) c.args.stated.refused) (ap (place_behind p) g.judged ∙ sym g.place) first.4,
    )

pub returns-in-Some-clause-refused : goal.returns-in-Some-clause-refused
returns-in-Some-clause-refused c = λ ls r walked e.
    let w : Whole = whole (stated_lines ls) in
    let m = c.loop-line.invariant ls walked in
    let items = c.deref-line-items.result.now in
    let k = c.loop-line.line-index in
    let t = c.line-item.result in
    let p = c.loop-line.place in
    let first = first_kept p m.1 (drop k items) (drop (k + 1) items) c.args.stated.refused t
    (next_kept items k t c.loop-line-test.true c.line-item.is) m.4 in
    let g = rw c.in-Some.is at (c.in_ok-kind.ensures w m.0 first.0 walked.declared m.3 first.3) in
    let same : refusal t.number c.in-Some.kind ≡ r = cc (c.refused.ensures, e) in
    found_here w c.args.lines.after ls p m.1 first.1 m.0 first.0 c.in-Some.kind refl m.2 first.2 g
    ∙ ap (λ n. Some (refusal n c.in-Some.kind)) (sym first.3.number)
    ∙ ap Some same

pub returns-in-Some-refused-clause-refused : goal.returns-in-Some-refused-clause-refused
returns-in-Some-refused-clause-refused c = λ ls r walked e.
    let w : Whole = whole (stated_lines ls) in
    let m = c.loop-line.invariant ls walked in
    let p = c.loop-line.place in
    let left = drop c.loop-line.line-index c.deref-line-items.result.now in
    let none : left ≡ [] = drop_all c.loop-line.line-index c.deref-line-items.result.now c.loop-line-test.false in
    let x = refusal_kept p m.1 left c.args.stated.refused c.in-Some-refused.refusal none c.in-Some-refused.is m.4 in
    let same : c.in-Some-refused.refusal ≡ r = cc e in
    found_here w c.args.lines.after ls p m.1 x.1 m.0 x.0 x.3.kind refl m.2 x.2
    (refused_alone w m.0 p x.0 x.3.kind x.3.judged)
    ∙ sym x.3.told
    ∙ ap Some same

pub returns-in-Some-end_kind-clause-refused : goal.returns-in-Some-end_kind-clause-refused
returns-in-Some-end_kind-clause-refused c = λ ls r walked e.
    let w : Whole = whole (stated_lines ls) in
    let m = c.loop-line.invariant ls walked in
    let p = c.loop-line.place in
    let left = drop c.loop-line.line-index c.deref-line-items.result.now in
    let none : left ≡ [] = drop_all c.loop-line.line-index c.deref-line-items.result.now c.loop-line-test.false in
    let all : m.1 ≡ [] = none_kept p m.1 left c.args.stated.refused none c.in_default-refused.is m.4 in
    let same : refusal c.after.result c.in-Some-end_kind.kind ≡ r = cc (c.refused-in-Some-end_kind.ensures, e) in
    let told : first_fault (end_conditions w m.0) ≡ Some c.in-Some-end_kind.kind =
    sym (end_told w m.0 c.loop-line.reading m.3 c.begun.result (c.begun.ensures ∙ m.2.begun)) ∙ sym (c.end_kind.ensures w walked.declared) ∙ c.in-Some-end_kind.is in
    found_at_end w c.args.lines.after ls p m.1 m.0 (Some c.in-Some-end_kind.kind) refl m.2 all told
    ∙ ap (λ n. Some (refusal n c.in-Some-end_kind.kind)) (sym c.after.ensures)
    ∙ ap Some same

pub returns-clause-read : goal.returns-clause-read
returns-clause-read c = λ ls walked.
    let w : Whole = whole (stated_lines ls) in
    let m = c.loop-line.invariant ls walked in
    let p = c.loop-line.place in
    let left = drop c.loop-line.line-index c.deref-line-items.result.now in
    let none : left ≡ [] = drop_all c.loop-line.line-index c.deref-line-items.result.now c.loop-line-test.false in
    let all : m.1 ≡ [] = none_kept p m.1 left c.args.stated.refused none c.in_default-refused.is m.4 in
    subst (λ xs. HasRead w xs c.loop-line.reading) (sym (all_taken w ls p m.1 m.0 m.2 all)) m.3

pub returns-clause-whole : goal.returns-clause-whole
returns-clause-whole c = λ ls walked.
    let w : Whole = whole (stated_lines ls) in
    let m = c.loop-line.invariant ls walked in
    let p = c.loop-line.place in
    let left = drop c.loop-line.line-index c.deref-line-items.result.now in
    let none : left ≡ [] = drop_all c.loop-line.line-index c.deref-line-items.result.now c.loop-line-test.false in
    let all : m.1 ≡ [] = none_kept p m.1 left c.args.stated.refused none c.in_default-refused.is m.4 in
    let told : first_fault (end_conditions w m.0) ≡ None =
    sym (end_told w m.0 c.loop-line.reading m.3 c.begun.result (c.begun.ensures ∙ m.2.begun)) ∙ sym (c.end_kind.ensures w walked.declared) ∙ c.in-None.is in
    found_at_end w c.args.lines.after ls p m.1 m.0 None refl m.2 all told
