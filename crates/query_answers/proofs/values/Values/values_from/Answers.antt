use Rattle.query_answers.proofs.AnsweredLemmas.{values_told}
use Rattle.query_answers.proofs.values.Values.values_from.Goals as goal

pub returns-in-Pre-clause-values : goal.returns-in-Pre-clause-values
returns-in-Pre-clause-values g c =
    values_told g.S.Semiring.operations c.answers_are_values.ensures (record { system = c.self.inside.system.now; side = c.self.inside.side; workers = c.self.inside.workers }) c.args.self.now c.self.view_is
    c.semiring.ensures.valid c.self.invariant.0 c.args.from.now c.control.ensures.valid.few_items c.requires.from c.args.tos.now c.requires.tos (λ vs. vs.items) c.backward_values.result
    c.backward_values.ensures.values

pub returns-in-Pre-2-clause-values : goal.returns-in-Pre-2-clause-values
returns-in-Pre-2-clause-values g c =
    values_told g.S.Semiring.operations c.answers_are_values.ensures (record { system = c.self.inside.system.now; side = c.self.inside.side; workers = c.self.inside.workers }) c.args.self.now c.self.view_is
    c.semiring.ensures.valid c.self.invariant.0 c.args.from.now c.control.ensures.valid.few_items c.requires.from c.args.tos.now c.requires.tos (λ vs. vs.items) c.joint_values.result
    c.joint_values.ensures

pub returns-in-Post-clause-values : goal.returns-in-Post-clause-values
returns-in-Post-clause-values g c =
    values_told g.S.Semiring.operations c.answers_are_values.ensures (record { system = c.self.inside.system.now; side = c.self.inside.side; workers = c.self.inside.workers }) c.args.self.now c.self.view_is
    c.semiring.ensures.valid c.self.invariant.0 c.args.from.now c.control.ensures.valid.few_items c.requires.from c.args.tos.now c.requires.tos (λ vs. vs.items) c.forward_values.result
    c.forward_values.ensures

pub returns-in-Post-2-clause-values : goal.returns-in-Post-2-clause-values
returns-in-Post-2-clause-values g c =
    values_told g.S.Semiring.operations c.answers_are_values.ensures (record { system = c.self.inside.system.now; side = c.self.inside.side; workers = c.self.inside.workers }) c.args.self.now c.self.view_is
    c.semiring.ensures.valid c.self.invariant.0 c.args.from.now c.control.ensures.valid.few_items c.requires.from c.args.tos.now c.requires.tos (λ vs. vs.items) c.book_values.result
    c.book_values.ensures
