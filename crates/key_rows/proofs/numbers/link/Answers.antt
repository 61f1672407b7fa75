use Rattle.std.proofs.Common.{rules, set, sym, ap, ◌∙◌, subst, refl, ◌++◌, ◌∷◌, []}
use Rattle.std.specs.Prelude.{Some}
use Rattle.key_rows.specs.Numbers.{AreLinkedNumbers}
use Rattle.key_rows.proofs.NumberLemmas.{numbers_push}
use Rattle.std.proofs.lemmas.Cmp.{nat_cmp_total}
use Rattle.key_rows.proofs.RowLemmas.{first_of}
use Rattle.key_rows.proofs.numbers.link.Goals as goal
use Rattle.key_rows.proofs.numbers.link.Goals.{in-Some, in-None}

pub returns-clause-rows : goal.returns-clause-rows
returns-clause-rows c = λ ks before.
    let new = set c.args.ends.now c.args.number (Some (record { first = c.match-found.first; last = c.len-last.result })) in
    subst (AreLinkedNumbers (ks ++ Some c.args.number ∷ []) new) (sym c.push_reserved.ensures.items)
    (numbers_push nat_cmp_total ks c.args.number c.args.ends.now c.args.gaps.now.items before c.requires.cell c.match-found.first c.len-last.result c.ends_of-found.result new c.put_gap.new.gaps.items
    (search rules)
    c.ends_of-found.ensures
    (elim c.match-found.branch [
      | in-Some w ↦ w.first-is ∙ ap (λ o. first_of o c.len-last.result) (sym w.in-Some.is)
      | in-None w ↦ w.first-is ∙ ap (λ o. first_of o c.len-last.result) (sym w.in-None.is)
    ])
    refl
    c.put_gap.ensures.gaps)
