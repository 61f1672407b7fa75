use Rattle.std.proofs.Common.{◌∙◌}
use Rattle.weight_tables.proofs.RenewalLemmas.{kept_renewed, renewed_marks, seen_renewed}
use Rattle.weight_tables.proofs.tables.Tables.renew_weigher.Goals as goal

pub put_cells-requires : goal.put_cells-requires
put_cells-requires g c = renewed_marks (g.M.Weigher.Knows c.in-Ok.new.weigher) (g.M.Weigher.worth c.self.inside.weigher) (g.M.Weigher.worth c.in-Ok.new.weigher) c.self.inside.layers c.in-Ok.new.cells c.in-Ok.ensures.layers

pub invariant_of-self : goal.invariant_of-self
invariant_of-self g c = kept_renewed c.self.inside.weigher c.self.inside.hand c.self.inside.layers c.in-Ok.new c.in-Ok.ensures _ c.self.invariant _ c.put_cells.ensures

pub returns-in-Ok : goal.returns-in-Ok
returns-in-Ok g c = seen_renewed c.self.inside.weigher c.self.inside.hand c.self.inside.layers c.in-Ok.new c.in-Ok.ensures _ _ _ c.put_cells.ensures ∙ c.self.view_is
