use Rattle.std.proofs.Common.{◌≡◌, [], length, sym, ap, ◌∙◌}
use Rattle.std.proofs.lemmas.Bool.{eqb-true}
use Rattle.std.proofs.lemmas.List.{nil_from_length}
use Rattle.run_settings.proofs.BackLemmas.{joins_return}
use Rattle.run_settings.proofs.moment.Moment.go_back.Goals as goal

pub before_return-requires-clause-joins : goal.before_return-requires-clause-joins
before_return-requires-clause-joins c =
    let there = c.requires.there in
    let right = c.args.rule.now.right in
    let pops : right ≡ [] = nil_from_length right (ap (λ l. length l) (sym c.as_slice.ensures) ∙ eqb-true (length c.as_slice.result.now) 0 (sym c.if-is_empty.ensures)) in
    joins_return c.args.n c.args.rule.now there.0 c.args.self.now c.args.past.now.accumulator there.2.accumulator
    c.in-Some.call (sym c.in-Some.is ∙ there.2.newest) pops there.3
