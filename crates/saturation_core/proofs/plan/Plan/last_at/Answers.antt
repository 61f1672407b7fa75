use Rattle.std.proofs.Common.{◌≡◌, ◌<◌, ◌^◌, length, map, sym, ap, ◌∙◌, subst, arith}
use Rattle.std.specs.Prelude.{IfSome, Some}
use Rattle.key_rows.specs.Rows.{last_where}
use Rattle.weighted_automata.specs.Entries.{entry_at}
use Rattle.saturation_core.specs.private.Finding.{found_at}
use Rattle.saturation_core.proofs.GoalLemmas.{is_of, last_of_row, last_found, last_within, within_limit}
use Rattle.saturation_core.proofs.plan.Plan.last_at.Goals as goal

at : (g : _) (c : goal.After-last g) → c.last.result ≡ last_where (is_of c.args.place) c.args.self.now
at g c =
    c.last.ensures (map (λ l. Some l.goal) c.self.inside.steps.items) c.self.invariant
    ∙ last_of_row c.args.place c.self.inside.steps.items
    ∙ ap (last_where (is_of c.args.place)) c.self.view_is

pub returns-clause-within : goal.returns-clause-within
returns-clause-within g c = subst (λ o. IfSome o (λ k. k < length c.args.self.now)) (sym (at g c)) (last_within (is_of c.args.place) c.args.self.now)

pub returns-clause-found : goal.returns-clause-found
returns-clause-found g c = λ n ts.
    last_found c.args.place c.args.self.now n ts ∙ ap (λ o. found_at c.args.place n c.args.self.now o (entry_at c.args.place ts)) (sym (at g c))

pub returns-clause-limit : goal.returns-clause-limit
returns-clause-limit g c =
    let few : length c.self.inside.steps.items < 2 ^ 63 = omega arith in
    subst (λ o. IfSome o (λ k. k < 2 ^ 63)) (sym (at g c))
    (within_limit (last_where (is_of c.args.place) c.args.self.now) (length c.args.self.now) (2 ^ 63) (omega (arith, few, ap length c.self.view_is)) (last_within (is_of c.args.place) c.args.self.now))
