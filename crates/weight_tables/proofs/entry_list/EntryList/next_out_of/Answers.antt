use Rattle.std.proofs.Common.{◌≡◌, ◌<◌, ℕ, ◌+◌, Bool, true, false, List, [], ◌∷◌, ◌++◌, length, set, refl, sym, ap, ◌∙◌, subst, arith}
use Rattle.std.specs.Prelude.{Some, None, IfSome, slice_get}
use Rattle.std.specs.Ordering.{eq_by_cmp, nat_cmp}
use Rattle.std.proofs.Common.{map}
use Rattle.weighted_automata.specs.contracts.place.PlaceOrd.TheImpl.{ghosts as of_places}
use Rattle.weighted_automata.specs.declared.place.Place.{Place}
use Rattle.weight_tables.specs.private.Index.{row_of, empty_target}
use Rattle.key_rows.specs.Rows.{next_alike}
use Rattle.weight_tables.specs.Entries.{is_out_of}
use Rattle.weight_tables.proofs.ListLemmas.{row_small, next_is, next_none, next_within}
use Rattle.weight_tables.proofs.IndexLemmas.{number_test}
use Rattle.weight_tables.proofs.entry_list.EntryList.next_out_of.Goals as goal

pub as_number-requires : goal.as_number-requires
as_number-requires g c = row_small c.self.inside.places.members c.self.inside.cells.items c.self.inside.index c.self.inside.waiting.items c.self.invariant c.args.self.now c.self.view_is c.next.result (next_within c.self.inside.places.members c.self.inside.cells.items c.self.inside.index c.self.inside.waiting.items c.self.invariant c.args.self.now c.self.view_is (eq_by_cmp nat_cmp) (λ p. Some p.from) c.next.result c.args.t (c.next.ensures (map (λ p. Some p.from) c.self.inside.places.members) c.self.invariant.indexed.by_state ∙ ap (λ k. next_alike (eq_by_cmp nat_cmp) k (map (λ p. Some p.from) c.self.inside.places.members)) c.from.ensures))

pub returns-clause-row : goal.returns-clause-row
returns-clause-row g c = λ e at. next_is c.self.inside.places.members c.self.inside.cells.items c.self.inside.index c.self.inside.waiting.items c.self.invariant c.args.self.now c.self.view_is (eq_by_cmp nat_cmp) (λ p. Some p.from) e.place.from (is_out_of e.place.from) (λ d. number_test e.place.from d.place.from) c.as_number.result c.args.t e at refl (c.as_number.ensures ∙ (c.next.ensures (map (λ p. Some p.from) c.self.inside.places.members) c.self.invariant.indexed.by_state ∙ ap (λ k. next_alike (eq_by_cmp nat_cmp) k (map (λ p. Some p.from) c.self.inside.places.members)) c.from.ensures))

pub returns-clause-within : goal.returns-clause-within
returns-clause-within g c = next_within c.self.inside.places.members c.self.inside.cells.items c.self.inside.index c.self.inside.waiting.items c.self.invariant c.args.self.now c.self.view_is (eq_by_cmp nat_cmp) (λ p. Some p.from) c.as_number.result c.args.t (c.as_number.ensures ∙ (c.next.ensures (map (λ p. Some p.from) c.self.inside.places.members) c.self.invariant.indexed.by_state ∙ ap (λ k. next_alike (eq_by_cmp nat_cmp) k (map (λ p. Some p.from) c.self.inside.places.members)) c.from.ensures))
