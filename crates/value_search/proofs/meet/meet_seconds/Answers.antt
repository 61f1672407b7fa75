use Rattle.std.proofs.Common.{◌≡◌, ℕ, ◌<◌, ◌^◌, not, sym, ap, ◌∙◌, subst}
use Rattle.std.specs.Prelude.{Option, None}
use Rattle.std.proofs.lemmas.Option.{slice_get_within}
use Rattle.semiring_laws.specs.Semiring.{Fits}
use Rattle.weighted_automata.specs.declared.place.Label.TheVariants.{Symbol}
use Rattle.value_laws.proofs.CallerLemmas.{fits_inside}
use Rattle.weight_tables.specs.Entries.{index_where, is_from}
use Rattle.weight_tables.specs.Tables.{TablesValue}
use Rattle.weight_tables.proofs.CallerLemmas.{walk_starts, walk_at, walk_ends, to_go}
use Rattle.value_search.specs.Met.{call_worth}
use Rattle.value_search.proofs.GrowLemmas.{stands, walk_grows, row_place, row_stays, row_goes_on}
use Rattle.value_search.proofs.OnwardLemmas.{onward_itself, onward_then}
use Rattle.value_search.proofs.SecondLemmas.{IsSecondMet, all_seconds, fewer_ahead, none_is, passes_at, passes_kept, second_later, second_met, second_skips}
use Rattle.value_search.proofs.HandLemmas.{hand_onward, hand_starts, hand_stays}
use Rattle.value_search.proofs.meet.meet_seconds.Goals as goal

pub hold_call-requires-clause-entry : goal.hold_call-requires-clause-entry
hold_call-requires-clause-entry g c = let at = c.requires.at in slice_get_within c.args.tables.now.base c.args.at.number at.0 at.1

pub row-init : goal.row-init
row-init g c =
    let p = c.args.system.now in
    let s = g.S.Semiring.operations p.semiring in
    let law = g.S.Semiring.laws p.semiring in
    let valid = c.semiring-semiring.ensures.valid in
    let old = c.args.tables.now in
    let at = c.args.at in
    let k = c.args.k in
    let mid = c.hold_call.new.tables in
    let rule = stands p.rules k c.requires.rule in
    let fits : (w : g.row.S-W.Denot) → Fits s w → Fits s (call_worth s rule.0 w) = λ w fw. fits_inside valid law k rule.0 rule.1 at.symbol c.args.below (c.requires.right rule.0 rule.1) w fw in
    let onward = hand_onward valid law None (call_worth s) k rule.0 rule.1 fits old mid c.requires.search at.number at.from at.symbol at.to c.requires.at c.in_ok-hold_call.ensures in
    let held = hand_starts valid law None (call_worth s) k rule.0 rule.1 fits old mid c.requires.search at.number at.from at.symbol at.to c.requires.at c.in_ok-hold_call.ensures in
    let same : mid.base ≡ old.base = ap (λ (u : TablesValue g.row.S.Denot g.row.S-W.Denot g.row.S-Ret.Denot). u.base) (c.in_ok-hold_call.ensures rule.0 rule.1 c.requires.at.0 c.requires.at.1) in (
      onward_itself valid law None mid onward.search,
      held,
      walk_starts (is_from at.to (Symbol c.args.below)) mid.base c.first_from-first.result (IsSecondMet s p k at.from at.symbol at.to c.args.below mid.base)
          (c.first_from-first.ensures.number ∙ ap (index_where (is_from at.to (Symbol c.args.below))) (sym same)),
    )

pub meet_second-requires-clause-search : goal.meet_second-requires-clause-search
meet_second-requires-clause-search g c = c.row.invariant.0.search

pub meet_second-requires-clause-entry : goal.meet_second-requires-clause-entry
meet_second-requires-clause-entry g c =
    let p = c.args.system.now in
    let s = g.S.Semiring.operations p.semiring in
    let law = g.S.Semiring.laws p.semiring in
    let valid = c.semiring-semiring.ensures.valid in
    let old = c.args.tables.now in
    let at = c.args.at in
    let k = c.args.k in
    let now = c.row.tables in
    let was = c.row.invariant.0 in
    let walk = c.row.invariant.2 in
    let t = c.in-Some.second in
    let P : ℕ → Type 0 = IsSecondMet s p k at.from at.symbol at.to c.args.below now.base in
    let f = walk_at (is_from at.to (Symbol c.args.below)) now.base c.row.next P walk t c.in-Some.is in
    slice_get_within now.base t f.item f.there

pub meet_second-requires-clause-row : goal.meet_second-requires-clause-row
meet_second-requires-clause-row g c = λ e is.
    let p = c.args.system.now in
    let s = g.S.Semiring.operations p.semiring in
    let law = g.S.Semiring.laws p.semiring in
    let valid = c.semiring-semiring.ensures.valid in
    let old = c.args.tables.now in
    let at = c.args.at in
    let k = c.args.k in
    let now = c.row.tables in
    let was = c.row.invariant.0 in
    let walk = c.row.invariant.2 in
    let t = c.in-Some.second in
    let P : ℕ → Type 0 = IsSecondMet s p k at.from at.symbol at.to c.args.below now.base in
    let f = walk_at (is_from at.to (Symbol c.args.below)) now.base c.row.next P walk t c.in-Some.is in
    row_place at.to c.args.below e (passes_at (is_from at.to (Symbol c.args.below)) now.base t f e is)

pub meet_second-requires-clause-hand : goal.meet_second-requires-clause-hand
meet_second-requires-clause-hand g c = c.row.invariant.1

pub row-preserved : goal.row-preserved
row-preserved g c =
    let p = c.args.system.now in
    let s = g.S.Semiring.operations p.semiring in
    let law = g.S.Semiring.laws p.semiring in
    let valid = c.semiring-semiring.ensures.valid in
    let old = c.args.tables.now in
    let at = c.args.at in
    let k = c.args.k in
    let mid = c.hold_call.new.tables in
    let rule = stands p.rules k c.requires.rule in
    let fits : (w : g.row.S-W.Denot) → Fits s w → Fits s (call_worth s rule.0 w) = λ w fw. fits_inside valid law k rule.0 rule.1 at.symbol c.args.below (c.requires.right rule.0 rule.1) w fw in
    let onward = hand_onward valid law None (call_worth s) k rule.0 rule.1 fits old mid c.requires.search at.number at.from at.symbol at.to c.requires.at c.in_ok-hold_call.ensures in
    let now = c.row.tables in
    let was = c.row.invariant.0 in
    let walk = c.row.invariant.2 in
    let t = c.in-Some.second in
    let P : ℕ → Type 0 = IsSecondMet s p k at.from at.symbol at.to c.args.below now.base in
    let f = walk_at (is_from at.to (Symbol c.args.below)) now.base c.row.next P walk t c.in-Some.is in
    let new = c.meet_second.new.tables in
    let done = c.in_ok-meet_second.ensures in
    let next = done.onward.places t f.item f.there in
    let place : next.0.place ≡ f.item.place = next.2 in
    let goes = row_goes_on at.to c.args.below new.base t next.0 (passes_kept at.to c.args.below next.0 f.item place f.passes) c.next_from-next.result (c.next_from-next.ensures.row next.0 next.1) in (
      onward_then valid law None mid now new onward.search was done.onward,
      hand_stays valid law None (call_worth s) k at.from at.symbol at.to now new done.onward c.row.invariant.1 done.hand,
      walk_grows (is_from at.to (Symbol c.args.below)) now.base new.base (row_stays at.to c.args.below now.base new.base done.onward.places) c.row.next P
          (IsSecondMet s p k at.from at.symbol at.to c.args.below new.base) walk t c.next_from-next.result c.in-Some.is
          (λ j low met. second_later valid law now.base new.base was.search.tables.base done.onward.search.tables.base done.onward.further done.onward.places k at.from at.symbol at.to c.args.below j low met)
          (second_met s p k at.from at.symbol at.to c.args.below t now.base new.base done.onward.places f.item f.there done.given)
          (λ j other. second_skips valid law k at.from at.symbol at.to c.args.below new.base j other)
          goes,
    )

pub row-smaller : goal.row-smaller
row-smaller g c =
    let p = c.args.system.now in
    let s = g.S.Semiring.operations p.semiring in
    let law = g.S.Semiring.laws p.semiring in
    let valid = c.semiring-semiring.ensures.valid in
    let old = c.args.tables.now in
    let at = c.args.at in
    let k = c.args.k in
    let now = c.row.tables in
    let was = c.row.invariant.0 in
    let walk = c.row.invariant.2 in
    let t = c.in-Some.second in
    let P : ℕ → Type 0 = IsSecondMet s p k at.from at.symbol at.to c.args.below now.base in
    let f = walk_at (is_from at.to (Symbol c.args.below)) now.base c.row.next P walk t c.in-Some.is in
    let new = c.meet_second.new.tables in
    let done = c.in_ok-meet_second.ensures in
    let next = done.onward.places t f.item f.there in
    let place : next.0.place ≡ f.item.place = next.2 in
    let goes = row_goes_on at.to c.args.below new.base t next.0 (passes_kept at.to c.args.below next.0 f.item place f.passes) c.next_from-next.result (c.next_from-next.ensures.row next.0 next.1) in
    let few = done.onward.search.tables.base.few in
    let Q : Option ℕ → Type 0 = λ o. to_go (2 ^ 32) c.next_from-next.result < to_go (2 ^ 32) o in
    subst Q (sym c.in-Some.is) (fewer_ahead (is_from at.to (Symbol c.args.below)) new.base t c.next_from-next.result (slice_get_within new.base t next.0 next.1) few goes)

pub returns-clause-onward : goal.returns-clause-onward
returns-clause-onward g c =
    let p = c.args.system.now in
    let s = g.S.Semiring.operations p.semiring in
    let law = g.S.Semiring.laws p.semiring in
    let valid = c.semiring-semiring.ensures.valid in
    let old = c.args.tables.now in
    let at = c.args.at in
    let k = c.args.k in
    let mid = c.hold_call.new.tables in
    let rule = stands p.rules k c.requires.rule in
    let fits : (w : g.row.S-W.Denot) → Fits s w → Fits s (call_worth s rule.0 w) = λ w fw. fits_inside valid law k rule.0 rule.1 at.symbol c.args.below (c.requires.right rule.0 rule.1) w fw in
    let onward = hand_onward valid law None (call_worth s) k rule.0 rule.1 fits old mid c.requires.search at.number at.from at.symbol at.to c.requires.at c.in_ok-hold_call.ensures in
    onward_then valid law None old mid c.row.tables c.requires.search onward c.row.invariant.0

pub returns-clause-met : goal.returns-clause-met
returns-clause-met g c = λ r there.
    let p = c.args.system.now in
    let s = g.S.Semiring.operations p.semiring in
    let law = g.S.Semiring.laws p.semiring in
    let valid = c.semiring-semiring.ensures.valid in
    let old = c.args.tables.now in
    let at = c.args.at in
    let k = c.args.k in
    let now = c.row.tables in
    all_seconds valid law k at.from at.symbol at.to c.args.below now.base c.row.invariant.0.search.tables.base
    (walk_ends (is_from at.to (Symbol c.args.below)) now.base c.row.next (IsSecondMet s p k at.from at.symbol at.to c.args.below now.base) c.row.invariant.2 c.in_default.is
    (λ j other. second_skips valid law k at.from at.symbol at.to c.args.below now.base j other))
    r there (c.requires.right r there) (c.requires.from r there)

pub returns-then-is_none-clause-onward : goal.returns-then-is_none-clause-onward
returns-then-is_none-clause-onward g c =
    let p = c.args.system.now in
    let s = g.S.Semiring.operations p.semiring in
    let law = g.S.Semiring.laws p.semiring in
    let valid = c.semiring-semiring.ensures.valid in
    let old = c.args.tables.now in
    let at = c.args.at in
    let k = c.args.k in
    onward_itself valid law None old c.requires.search

pub returns-then-is_none-clause-met : goal.returns-then-is_none-clause-met
returns-then-is_none-clause-met g c = λ r there.
    let p = c.args.system.now in
    let s = g.S.Semiring.operations p.semiring in
    let law = g.S.Semiring.laws p.semiring in
    let valid = c.semiring-semiring.ensures.valid in
    let old = c.args.tables.now in
    let at = c.args.at in
    let k = c.args.k in
    let P : ℕ → Type 0 = IsSecondMet s p k at.from at.symbol at.to c.args.below old.base in
    let none = none_is c.first_from-first.result (c.is_none.ensures ∙ ap not c.if-is_none.true) in
    all_seconds valid law k at.from at.symbol at.to c.args.below old.base c.requires.search.tables.base
    (walk_ends (is_from at.to (Symbol c.args.below)) old.base c.first_from-first.result P (walk_starts (is_from at.to (Symbol c.args.below)) old.base c.first_from-first.result P c.first_from-first.ensures.number) none
    (λ j other. second_skips valid law k at.from at.symbol at.to c.args.below old.base j other))
    r there (c.requires.right r there) (c.requires.from r there)
