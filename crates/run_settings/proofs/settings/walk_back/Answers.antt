use Rattle.std.proofs.Common.{[], ◌∷◌, reverse, ap, ◌∙◌, arith}
use Rattle.std.proofs.lemmas.List.{reverse-append}
use Rattle.run_settings.proofs.ProgressLemmas.{there_before, way_on}
use Rattle.run_settings.proofs.settings.walk_back.Goals as goal

pub go_back-requires-clause-there : goal.go_back-requires-clause-there
go_back-requires-clause-there c =
    there_before c.args.n c.args.system.now c.args.run.now c.requires.n c.back.past.items c.pop.new.self.items c.in-Some.before c.in-Some.ensures.items
    c.back.moment (reverse c.back.later.items) c.back.invariant c.semiring-relations.ensures.valid c.len.result (omega arith) c.rule-rule.result.now c.rule-rule.ensures.rule

pub back-preserved-in_ok-push : goal.back-preserved-in_ok-push
back-preserved-in_ok-push c =
    way_on c.args.n c.args.system.now c.args.run.now c.requires.n c.back.past.items c.pop.new.self.items c.in-Some.before c.in-Some.ensures.items
    c.back.moment (reverse c.back.later.items) c.back.invariant c.semiring-relations.ensures.valid c.len.result (omega arith) c.rule-rule.result.now c.rule-rule.ensures.rule
    c.go_back.new.self c.in_ok-behind.ensures.before c.in_ok-behind.behind c.in_ok-behind.ensures.behind (reverse c.push.new.self.items)
    (ap reverse c.in_ok-push.ensures.items ∙ reverse-append c.back.later.items (c.in_ok-behind.behind ∷ []))

pub back-preserved : goal.back-preserved
back-preserved c =
    way_on c.args.n c.args.system.now c.args.run.now c.requires.n c.back.past.items c.pop.new.self.items c.in-Some.before c.in-Some.ensures.items
    c.back.moment (reverse c.back.later.items) c.back.invariant c.semiring-relations.ensures.valid c.len.result (omega arith) c.rule-rule.result.now c.rule-rule.ensures.rule
    c.go_back.new.self c.in_ok-behind.ensures.before c.in_ok-behind.behind c.in_ok-behind.ensures.behind (reverse c.push.new.self.items)
    (ap reverse c.in_ok-push.ensures.items ∙ reverse-append c.back.later.items (c.in_ok-behind.behind ∷ []))
