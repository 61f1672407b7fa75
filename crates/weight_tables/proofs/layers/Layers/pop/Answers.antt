use Rattle.std.proofs.Common.{◌≡◌, ◌<◌, ℕ, ◌+◌, Bool, true, false, List, [], ◌∷◌, ◌++◌, length, set, refl, sym, ap, ◌∙◌, subst, arith}
use Rattle.std.specs.Prelude.{Some, None, IfSome, slice_get}
use Rattle.weight_tables.proofs.layers.Layers.pop.Goals as goal

pub returns-in-Base-clause-entry : goal.returns-in-Base-clause-entry
returns-in-Base-clause-entry g c = rw c.in-Base.is c.pop.ensures.entry

pub returns-in-Target-clause-entry : goal.returns-in-Target-clause-entry
returns-in-Target-clause-entry g c = rw c.in-Target.is c.pop-in-Target.ensures.entry

pub returns-in-Walk-clause-entry : goal.returns-in-Walk-clause-entry
returns-in-Walk-clause-entry g c = rw c.in-Walk.is c.pop-in-Walk.ensures.entry
