use Rattle.std.proofs.Common.{◌≡◌, ◌<◌, ℕ, ◌+◌, Bool, true, false, List, [], ◌∷◌, ◌++◌, length, set, refl, sym, ap, ◌∙◌, subst, arith}
use Rattle.std.specs.Prelude.{Some, None, IfSome, slice_get}
use Rattle.weight_tables.proofs.LayerLemmas.{seen_length}
use Rattle.weight_tables.proofs.tables.Tables.len.Goals as goal

pub returns : goal.returns
returns g c = c.len.ensures.len ∙ ap length c.list.ensures ∙ sym (seen_length (g.M.Weigher.worth c.self.inside.weigher) _ _ c.self.inside.layers c.args.self.now c.self.view_is c.args.layer)
