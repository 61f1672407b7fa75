use Rattle.std.proofs.Common.{rules, ap, sym, ◌∙◌}
use Rattle.seat_lock.specs.Queue.{opened_by}
use Rattle.seat_lock.specs.Passes.{own_number}
use Rattle.seat_lock.proofs.CallerLemmas.{grown-or}
use Rattle.tests_workers.proofs.locks.note.Goals as goal

pub give-requires-clause-grown : goal.give-requires-clause-grown
give-requires-clause-grown g c =
    let turn = c.turn-held.ensures.turn in
    grown-or _ c.turn-held.result.seat.me.0 c.write-done.result c.turn-held.result.value.lines.items _ (record { by = c.number-number.result; text = c.args.text }) (ap (λ z. opened_by z.stage) turn)
    (c.number-number.ensures ∙ (sym c.args.pass.is.names ∙ ap (λ z. own_number z.claims) (sym turn))) (search rules)
