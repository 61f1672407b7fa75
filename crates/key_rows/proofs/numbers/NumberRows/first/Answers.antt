use Rattle.std.proofs.Common.{sym, ap, ◌∙◌}
use Rattle.std.specs.Prelude.{Some, option_map}
use Rattle.key_rows.specs.Numbers.{ends_at}
use Rattle.key_rows.specs.declared.rows.Ends.{Ends}
use Rattle.key_rows.proofs.NumberLemmas.{first_number}
use Rattle.key_rows.proofs.numbers.NumberRows.first.Goals as goal

pub returns-in-Some : goal.returns-in-Some
returns-in-Some c = λ ks rows.
    ap Some c.from.ensures
    ∙ ap (option_map (λ (e : Ends). e.first)) (sym c.in-Some.is)
    ∙ first_number ks c.args.self.now.ends.items c.args.self.now.gaps.items c.args.number c.ends_of.result rows (c.ends_of.ensures ∙ ap (λ es. ends_at es c.args.number) c.deref.ensures.value)

pub returns-in-None : goal.returns-in-None
returns-in-None c = λ ks rows.
    ap (option_map (λ (e : Ends). e.first)) (sym c.in-None.is)
    ∙ first_number ks c.args.self.now.ends.items c.args.self.now.gaps.items c.args.number c.ends_of.result rows (c.ends_of.ensures ∙ ap (λ es. ends_at es c.args.number) c.deref.ensures.value)
