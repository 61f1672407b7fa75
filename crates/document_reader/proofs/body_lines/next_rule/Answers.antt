use Rattle.std.proofs.Common.{◌≡◌, length, subst, arith}
use Rattle.std.proofs.lemmas.Result.{IfOk-weaker}
use Rattle.rule_reader.specs.RuleReads.{above_in, IsRuleRead}
use Rattle.document_reader.proofs.body_lines.next_rule.Goals as goal

pub returns : goal.returns
returns c =
    let now = c.args.reading.now in
    let asked = length now.queries.items in
    let many : c.len.result ≡ length now.rules.items = omega (arith, now.rules.ok.0) in
    IfOk-weaker c.read_rule.result _ _
    (λ read h. subst (λ n. IsRuleRead (above_in now.scope n asked) c.args.words.now read) many (h asked))
    c.read_rule.ensures
