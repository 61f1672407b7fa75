use Rattle.std.proofs.Common.{sym, subst, ◌++◌, ◌∷◌, []}
use Rattle.key_rows.specs.Numbers.{AreLinkedNumbers}
use Rattle.key_rows.proofs.NumberLemmas.{numbers_none}
use Rattle.key_rows.proofs.numbers.NumberRows.push.Goals as goal

pub returns-in-None-clause-rows : goal.returns-in-None-clause-rows
returns-in-None-clause-rows c = λ ks rows.
    subst (λ o. AreLinkedNumbers (ks ++ o ∷ []) c.args.self.now.ends.items c.push_reserved.new.self.items) (sym c.in-None.is)
    (subst (AreLinkedNumbers (ks ++ _ ∷ []) c.args.self.now.ends.items) (sym c.push_reserved.ensures.items)
    (numbers_none ks c.args.self.now.ends.items c.args.self.now.gaps.items rows))
