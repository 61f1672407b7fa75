use Rattle.std.proofs.Common.{◌≡◌, ◌<◌, ℕ, ◌+◌, Bool, true, false, List, [], ◌∷◌, ◌++◌, length, set, refl, sym, ap, ◌∙◌, subst, arith}
use Rattle.std.specs.Prelude.{Some, None, IfSome, slice_get}
use Rattle.weight_tables.specs.Entries.{taken}
use Rattle.weight_tables.specs.private.Layered.{list_of}
use Rattle.weight_tables.specs.private.Kept.{valued_entry}
use Rattle.weight_tables.proofs.ValueLemmas.{valued-taken}
use Rattle.weight_tables.proofs.LayerLemmas.{if_none, if_some, kept_popped, none_seen, entry_seen, entries_seen}
use Rattle.weight_tables.proofs.tables.Tables.pop.Goals as goal

pub invariant_of-self : goal.invariant_of-self
invariant_of-self g c = kept_popped _ _ _ c.self.inside.layers c.self.invariant c.args.layer c.pop.result _ c.pop.ensures.stays c.pop.ensures.taken

pub returns-clause-none : goal.returns-clause-none
returns-clause-none g c = if_none c.pop.result (none_seen (g.M.Weigher.worth c.self.inside.weigher) _ _ c.self.inside.layers c.args.self.now (c.self.view_is ∙ c.renew_weigher.ensures) c.args.layer) c.pop.ensures.none

pub returns-clause-entry : goal.returns-clause-entry
returns-clause-entry g c = if_some c.pop.result (λ t h. (valued_entry (g.M.Weigher.worth c.self.inside.weigher) h.0, entry_seen (g.M.Weigher.worth c.self.inside.weigher) _ _ c.self.inside.layers c.args.self.now (c.self.view_is ∙ c.renew_weigher.ensures) c.args.layer t h.0 h.1, h.2)) c.pop.ensures.entry

pub returns-clause-taken : goal.returns-clause-taken
returns-clause-taken g c =
    let list = list_of c.args.layer c.self.inside.layers in
    if_some c.pop.result (λ t e. entries_seen (g.M.Weigher.worth c.self.inside.weigher) _ _ c.self.inside.layers c.args.self.now (c.self.view_is ∙ c.renew_weigher.ensures) c.args.layer (taken t) (taken t list) (valued-taken (g.M.Weigher.worth c.self.inside.weigher) t list) _ e) c.pop.ensures.taken
