use Rattle.std.proofs.Common.{◌≡◌, ◌<◌, ℕ, ◌+◌, Bool, true, false, List, [], ◌∷◌, ◌++◌, length, set, refl, sym, ap, ◌∙◌, subst, arith}
use Rattle.std.specs.Prelude.{Some, None, IfSome, slice_get}
use Rattle.weight_tables.proofs.layers.Layers.weight.Goals as goal

pub returns : goal.returns
returns g c = let e = c.weight.ensures in (e.0, ap (λ es. slice_get es c.args.t) (sym c.list.ensures) ∙ e.1, e.2)
