use Rattle.std.proofs.Common.{◌≤◌, ◌∙◌, length, Some, ap, subst, refl, arith}
use Rattle.wpds_base.specs.Limits.{most_pushed}
use Rattle.document_forms.specs.Words.{◌>>=◌}
use Rattle.document_forms.specs.Forms.{rule_of}
use Rattle.rule_reader.specs.RuleReads.{above_in}
use Rattle.rule_reader.specs.private.Rules.{IsEnd, IsBackRead}
use Rattle.rule_reader.proofs.RuleLemmas.{rule_form, long_rule, no_rule, no_return, parts_end, back_there}
use Rattle.rule_reader.proofs.rules.read_rule.Goals as goal

pub returns-then-len-gt-MOST_PUSHED : goal.returns-then-len-gt-MOST_PUSHED
returns-then-len-gt-MOST_PUSHED c = λ queries.
    let h = c.in-Some.head in
    let m = c.in_ok-right.ensures.right in
    ap rule_of c.in-Some.ensures
    ∙ long_rule h.control.now h.symbol.now h.to.now h.rest c.in_ok-right.behind m.0 m.2
    (omega (arith, c.in_ok-right.right.numbers.ok.0, m.1.count))

pub returns-in_default-rule_end : goal.returns-in_default-rule_end
returns-in_default-rule_end c = λ queries.
    let h = c.in-Some.head in
    let m = c.in_ok-right.ensures.right in
    ap rule_of c.in-Some.ensures
    ∙ no_rule h.control.now h.symbol.now h.to.now h.rest c.in_ok-right.behind m.0 m.2 c.in_default-rule_end.ensures

pub returns-in_default-2 : goal.returns-in_default-2
returns-in_default-2 c = λ queries.
    let h = c.in-Some.head in
    let m = c.in_ok-right.ensures.right in
    let end = c.in-Some-rule_end.end in
    ap rule_of c.in-Some.ensures
    ∙ no_return h.control.now h.symbol.now h.to.now h.rest c.in_ok-right.behind m.0 end m.2 c.in-Some-rule_end.ensures
    (omega (arith, c.in_ok-right.right.numbers.ok.0, m.1.count))
    (subst (IsBackRead c.args.scope.now.weights c.args.scope.now.items end.back) c.in_default-2.is c.in_ok-back.ensures)

pub returns : goal.returns
returns c = λ queries.
    let a = above_in c.args.scope.now c.args.rules queries in
    let h = c.in-Some.head in
    let m = c.in_ok-right.ensures.right in
    let end = c.in-Some-rule_end.end in
    let is_end : IsEnd c.in_ok-right.behind end = c.in-Some-rule_end.ensures in
    let back = subst (IsBackRead a.weights a.items end.back) c.in-Some-2.is c.in_ok-back.ensures in
    let short : length m.0 ≤ most_pushed = omega (arith, c.in_ok-right.right.numbers.ok.0, m.1.count) in
    let f = rule_form h.control.now h.symbol.now h.to.now end m.0 back.0 in (
      f,
      ap rule_of c.in-Some.ensures
          ∙ parts_end h.control.now h.symbol.now h.to.now h.rest c.in_ok-right.behind m.0 end m.2 is_end short
          ∙ ap (λ o. o >>= λ b. Some (rule_form h.control.now h.symbol.now h.to.now end m.0 b)) back.1,
      c.in_ok-rule_from.ensures a f (record {
        ends = c.read_ends.ensures f refl refl refl c.args.rules queries;
        right = m.1;
        weight = c.in_ok-weight.ensures;
        back = back.2;
        given = c.is_some.ensures ∙ back_there end.back back.0 back.1;
        full = refl;
      }),
    )
