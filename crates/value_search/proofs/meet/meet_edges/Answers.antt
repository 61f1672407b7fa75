use Rattle.std.proofs.Common.{ℕ, suc, ◌<◌, length, not, sym, ap, ◌∙◌, subst}
use Rattle.std.specs.Prelude.{Option, Some}
use Rattle.std.proofs.lemmas.Option.{slice_get_within}
use Rattle.semiring_laws.specs.Semiring.{Fits}
use Rattle.value_laws.specs.Settled.{first_worth}
use Rattle.value_laws.proofs.CallerLemmas.{fits_first}
use Rattle.weight_tables.proofs.CallerLemmas.{to_go}
use Rattle.value_search.proofs.GrowLemmas.{stands}
use Rattle.value_search.proofs.OnwardLemmas.{onward_itself, onward_then}
use Rattle.value_search.proofs.SecondLemmas.{IsOpenMet, none_is, open_later}
use Rattle.value_search.proofs.EdgeLemmas.{edges_end, edges_go_on, edges_start, fewer_edges}
use Rattle.value_search.proofs.HandLemmas.{hand_onward, hand_starts, hand_stays, held_first, held_opens}
use Rattle.value_search.proofs.meet.meet_edges.Goals as goal

pub hold_first-requires-clause-entry : goal.hold_first-requires-clause-entry
hold_first-requires-clause-entry g c = let at = c.requires.at in slice_get_within c.args.tables.now.target c.args.at.number at.0 at.1

pub edges-init : goal.edges-init
edges-init g c =
    let p = c.args.system.now in
    let s = g.S.Semiring.operations p.semiring in
    let law = g.S.Semiring.laws p.semiring in
    let valid = c.semiring-semiring.ensures.valid in
    let old = c.args.tables.now in
    let at = c.args.at in
    let k = c.args.k in
    let aim = c.args.target.now in
    let mid = c.hold_first.new.tables in
    let rule = stands p.rules k c.requires.rule in
    let fits : (w : g.row.S-W.Denot) → Fits s w → Fits s (first_worth s rule.0 w) = λ w fw. fits_first valid law k rule.0 rule.1 w fw in
    let onward = hand_onward valid law (Some aim) (first_worth s) k rule.0 rule.1 fits old mid c.requires.search at.number at.from at.symbol at.to c.requires.at c.in_ok-hold_first.ensures.ok in
    let held = hand_starts valid law (Some aim) (first_worth s) k rule.0 rule.1 fits old mid c.requires.search at.number at.from at.symbol at.to c.requires.at c.in_ok-hold_first.ensures.ok in (
      onward_itself valid law (Some aim) mid onward.search,
      held,
      edges_start aim.items at.to c.args.below c.first_edge-first.result (IsOpenMet s p k at.from at.symbol at.to mid.target) c.first_edge-first.ensures.none c.first_edge-first.ensures.edge c.first_edge-first.ensures.next c.first_edge-first.ensures.within,
    )

pub give_each-requires-clause-search : goal.give_each-requires-clause-search
give_each-requires-clause-search g c =
    c.edges.invariant.0.search

pub give_each-requires-clause-sums : goal.give_each-requires-clause-sums
give_each-requires-clause-sums g c = λ r there.
    let p = c.args.system.now in
    let s = g.S.Semiring.operations p.semiring in
    let law = g.S.Semiring.laws p.semiring in
    let valid = c.semiring-semiring.ensures.valid in
    let old = c.args.tables.now in
    let at = c.args.at in
    let k = c.args.k in
    let aim = c.args.target.now in
    let now = c.edges.tables in
    let was = c.edges.invariant.0 in
    let held = c.edges.invariant.1 in
    let walk = c.edges.invariant.2 in
    let to = c.in-Some.to in
    let edge = walk.edge to c.in-Some.is in
    held_opens valid law aim k r there at.from at.symbol c.args.below at.to to (c.requires.right r there) (c.requires.from r there) now held edge

pub next_edge-next-requires-clause-within : goal.next_edge-next-requires-clause-within
next_edge-next-requires-clause-within g c =
    c.edges.invariant.2.within c.in-Some.to c.in-Some.is

pub next_edge-next-requires-clause-edge : goal.next_edge-next-requires-clause-edge
next_edge-next-requires-clause-edge g c =
    c.edges.invariant.2.edge c.in-Some.to c.in-Some.is

pub edges-preserved : goal.edges-preserved
edges-preserved g c =
    let p = c.args.system.now in
    let s = g.S.Semiring.operations p.semiring in
    let law = g.S.Semiring.laws p.semiring in
    let valid = c.semiring-semiring.ensures.valid in
    let old = c.args.tables.now in
    let at = c.args.at in
    let k = c.args.k in
    let aim = c.args.target.now in
    let mid = c.hold_first.new.tables in
    let rule = stands p.rules k c.requires.rule in
    let fits : (w : g.row.S-W.Denot) → Fits s w → Fits s (first_worth s rule.0 w) = λ w fw. fits_first valid law k rule.0 rule.1 w fw in
    let onward = hand_onward valid law (Some aim) (first_worth s) k rule.0 rule.1 fits old mid c.requires.search at.number at.from at.symbol at.to c.requires.at c.in_ok-hold_first.ensures.ok in
    let now = c.edges.tables in
    let was = c.edges.invariant.0 in
    let held = c.edges.invariant.1 in
    let walk = c.edges.invariant.2 in
    let to = c.in-Some.to in
    let edge = walk.edge to c.in-Some.is in
    let new = c.give_each.new.tables in
    let done = c.in_ok-give_each.ensures in (
      onward_then valid law (Some aim) mid now new onward.search was done.onward,
      hand_stays valid law (Some aim) (first_worth s) k at.from at.symbol at.to now new done.onward held done.hand,
      edges_go_on aim.items at.to c.args.below to c.edges.next (IsOpenMet s p k at.from at.symbol at.to now.target) (IsOpenMet s p k at.from at.symbol at.to new.target) c.in-Some.is walk
          (λ i met. open_later valid law now.target new.target was.search.tables.target done.onward.search.tables.target done.onward.further k at.from at.symbol at.to i met)
          (λ r there. held_first valid law (Some aim) k r there at.from at.symbol at.to (c.requires.from r there) now held new done.onward to (done.given r there))
          c.next_edge-next.result c.next_edge-next.ensures.none c.next_edge-next.ensures.edge c.next_edge-next.ensures.next c.next_edge-next.ensures.within,
    )

pub edges-smaller : goal.edges-smaller
edges-smaller g c =
    let p = c.args.system.now in
    let s = g.S.Semiring.operations p.semiring in
    let law = g.S.Semiring.laws p.semiring in
    let valid = c.semiring-semiring.ensures.valid in
    let old = c.args.tables.now in
    let at = c.args.at in
    let k = c.args.k in
    let aim = c.args.target.now in
    let now = c.edges.tables in
    let was = c.edges.invariant.0 in
    let held = c.edges.invariant.1 in
    let walk = c.edges.invariant.2 in
    let to = c.in-Some.to in
    let edge = walk.edge to c.in-Some.is in
    let Q : Option ℕ → Type 0 = λ o. to_go (suc (length aim.items)) c.next_edge-next.result < to_go (suc (length aim.items)) o in
    subst Q (sym c.in-Some.is) (fewer_edges (length aim.items) to c.next_edge-next.result (walk.within to c.in-Some.is) c.next_edge-next.ensures.later c.next_edge-next.ensures.within)

pub returns-clause-onward : goal.returns-clause-onward
returns-clause-onward g c =
    let p = c.args.system.now in
    let s = g.S.Semiring.operations p.semiring in
    let law = g.S.Semiring.laws p.semiring in
    let valid = c.semiring-semiring.ensures.valid in
    let old = c.args.tables.now in
    let at = c.args.at in
    let k = c.args.k in
    let aim = c.args.target.now in
    let mid = c.hold_first.new.tables in
    let rule = stands p.rules k c.requires.rule in
    let fits : (w : g.row.S-W.Denot) → Fits s w → Fits s (first_worth s rule.0 w) = λ w fw. fits_first valid law k rule.0 rule.1 w fw in
    let onward = hand_onward valid law (Some aim) (first_worth s) k rule.0 rule.1 fits old mid c.requires.search at.number at.from at.symbol at.to c.requires.at c.in_ok-hold_first.ensures.ok in
    onward_then valid law (Some aim) old mid c.edges.tables c.requires.search onward c.edges.invariant.0

pub returns-clause-met : goal.returns-clause-met
returns-clause-met g c = λ r there to edge.
    let p = c.args.system.now in
    let s = g.S.Semiring.operations p.semiring in
    let law = g.S.Semiring.laws p.semiring in
    let valid = c.semiring-semiring.ensures.valid in
    let old = c.args.tables.now in
    let at = c.args.at in
    let k = c.args.k in
    let aim = c.args.target.now in
    edges_end aim.items at.to c.args.below c.edges.next (IsOpenMet s p k at.from at.symbol at.to c.edges.tables.target) c.in_default.is c.edges.invariant.2 to edge r there

pub returns-then-is_none-clause-onward : goal.returns-then-is_none-clause-onward
returns-then-is_none-clause-onward g c =
    let p = c.args.system.now in
    let s = g.S.Semiring.operations p.semiring in
    let law = g.S.Semiring.laws p.semiring in
    let valid = c.semiring-semiring.ensures.valid in
    let old = c.args.tables.now in
    let at = c.args.at in
    let k = c.args.k in
    let aim = c.args.target.now in
    onward_itself valid law (Some aim) old c.requires.search

pub returns-then-is_none-clause-met : goal.returns-then-is_none-clause-met
returns-then-is_none-clause-met g c = λ r there to edge.
    let p = c.args.system.now in
    let s = g.S.Semiring.operations p.semiring in
    let law = g.S.Semiring.laws p.semiring in
    let valid = c.semiring-semiring.ensures.valid in
    let old = c.args.tables.now in
    let at = c.args.at in
    let k = c.args.k in
    let aim = c.args.target.now in
    let P : ℕ → Type 0 = IsOpenMet s p k at.from at.symbol at.to old.target in
    let first = c.first_edge-first.ensures in
    edges_end aim.items at.to c.args.below c.first_edge-first.result P (none_is c.first_edge-first.result (c.is_none.ensures ∙ ap not c.if-is_none.true))
    (edges_start aim.items at.to c.args.below c.first_edge-first.result P first.none first.edge first.next first.within) to edge r there
