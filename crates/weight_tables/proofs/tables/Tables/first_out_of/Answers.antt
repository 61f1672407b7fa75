use Rattle.std.proofs.Common.{◌≡◌, ◌<◌, ℕ, ◌+◌, Bool, true, false, List, [], ◌∷◌, ◌++◌, length, set, refl, sym, ap, ◌∙◌, subst, arith}
use Rattle.std.specs.Prelude.{Some, None, IfSome, slice_get}
use Rattle.weight_tables.specs.Entries.{is_out_of}
use Rattle.weight_tables.proofs.LayerLemmas.{seen_where, seen_within}
use Rattle.weight_tables.proofs.tables.Tables.first_out_of.Goals as goal

pub returns-clause-number : goal.returns-clause-number
returns-clause-number g c = c.first_out_of.ensures.number ∙ seen_where (g.M.Weigher.worth c.self.inside.weigher) _ _ c.self.inside.layers c.args.self.now c.self.view_is c.args.layer (is_out_of c.args.state) (is_out_of c.args.state) (λ e. refl) _ c.list.ensures

pub returns-clause-within : goal.returns-clause-within
returns-clause-within g c = seen_within (g.M.Weigher.worth c.self.inside.weigher) _ _ c.self.inside.layers c.args.self.now c.self.view_is c.args.layer c.first_out_of.result _ c.list.ensures c.first_out_of.ensures.within
