use Rattle.std.proofs.Common.{◌≡◌, ◌<◌, ℕ, ◌+◌, Bool, true, false, List, [], ◌∷◌, ◌++◌, length, set, refl, sym, ap, ◌∙◌, subst, arith}
use Rattle.std.specs.Prelude.{Some, None, IfSome, slice_get}
use Rattle.std.specs.Ordering.{eq_by_cmp, nat_cmp}
use Rattle.std.proofs.Common.{map}
use Rattle.weighted_automata.specs.contracts.place.PlaceOrd.TheImpl.{ghosts as of_places}
use Rattle.weighted_automata.specs.declared.place.Place.{Place}
use Rattle.weight_tables.specs.private.Index.{row_of, empty_target}
use Rattle.weight_tables.specs.Entries.{is_empty_into}
use Rattle.weight_tables.proofs.ListLemmas.{row_small, first_is, first_within}
use Rattle.weight_tables.proofs.IndexLemmas.{target_test}
use Rattle.weight_tables.proofs.entry_list.EntryList.first_empty_into.Goals as goal

pub as_number-requires : goal.as_number-requires
as_number-requires g c = row_small c.self.inside.places.members c.self.inside.cells.items c.self.inside.index c.self.inside.waiting.items c.self.invariant c.args.self.now c.self.view_is c.first.result (first_within c.self.inside.places.members c.self.inside.cells.items c.self.inside.index c.self.inside.waiting.items c.self.invariant c.args.self.now c.self.view_is (eq_by_cmp nat_cmp) empty_target c.args.state (is_empty_into c.args.state) (λ e. target_test c.args.state e.place) c.first.result (c.first.ensures (map empty_target c.self.inside.places.members) c.self.invariant.indexed.by_target))

pub returns-clause-number : goal.returns-clause-number
returns-clause-number g c = first_is c.self.inside.places.members c.self.inside.cells.items c.self.inside.index c.self.inside.waiting.items c.self.invariant c.args.self.now c.self.view_is (eq_by_cmp nat_cmp) empty_target c.args.state (is_empty_into c.args.state) (λ e. target_test c.args.state e.place) c.as_number.result (c.as_number.ensures ∙ (c.first.ensures (map empty_target c.self.inside.places.members) c.self.invariant.indexed.by_target))

pub returns-clause-within : goal.returns-clause-within
returns-clause-within g c = first_within c.self.inside.places.members c.self.inside.cells.items c.self.inside.index c.self.inside.waiting.items c.self.invariant c.args.self.now c.self.view_is (eq_by_cmp nat_cmp) empty_target c.args.state (is_empty_into c.args.state) (λ e. target_test c.args.state e.place) c.as_number.result (c.as_number.ensures ∙ (c.first.ensures (map empty_target c.self.inside.places.members) c.self.invariant.indexed.by_target))
