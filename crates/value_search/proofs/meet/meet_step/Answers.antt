use Rattle.std.proofs.Common.{◌≡◌}
use Rattle.std.specs.Prelude.{Some, option_map, slice_get}
use Rattle.std.proofs.lemmas.Option.{slice_get_within}
use Rattle.pushdown_rules.specs.declared.rule.Rule.{Rule}
use Rattle.value_laws.specs.Settled.{first_worth}
use Rattle.value_laws.proofs.CallerLemmas.{fits_first}
use Rattle.weight_tables.specs.Entries.{TableEntry}
use Rattle.weight_tables.specs.Tables.{with_hand}
use Rattle.value_search.specs.Views.{found}
use Rattle.value_search.proofs.GrowLemmas.{stands}
use Rattle.value_search.proofs.OnwardLemmas.{onward_then}
use Rattle.value_search.proofs.HandLemmas.{found_hold, hand_onward, hand_starts, held_first, held_steps, within_layer}
use Rattle.value_search.proofs.meet.meet_step.Goals as goal

pub hold_first-requires-clause-entry : goal.hold_first-requires-clause-entry
hold_first-requires-clause-entry g c =
    let target = option_map (λ t. t.now) c.args.target in
    let at = c.requires.at in
    within_layer target c.layer-list.result c.layer-list.ensures c.args.tables.now c.args.at.number (slice_get_within (found target c.args.tables.now) c.args.at.number at.0 at.1)

pub give-requires-clause-search : goal.give-requires-clause-search
give-requires-clause-search g c =
    let p = c.args.system.now in
    let s = g.S.Semiring.operations p.semiring in
    let law = g.S.Semiring.laws p.semiring in
    let valid = c.semiring-semiring.ensures.valid in
    let target = option_map (λ t. t.now) c.args.target in
    let old = c.args.tables.now in
    let at = c.args.at in
    let mid = c.hold_first.new.tables in
    let rule = stands p.rules c.args.k c.requires.rule in
    let made : (r : Rule g.row.S.Denot g.row.S-W.Denot g.row.S-Ret.Denot) → slice_get p.rules c.args.k ≡ Some r → (e : TableEntry g.row.S-W.Denot) → slice_get (found target old) at.number ≡ Some e → mid ≡ with_hand (first_worth s r e.weight) old =
    λ r there. found_hold target c.layer-list.result c.layer-list.ensures old at.number (λ e. mid ≡ with_hand (first_worth s r e.weight) old) (c.in_ok-hold_first.ensures.ok r there) in
    let onward = hand_onward valid law target (first_worth s) c.args.k rule.0 rule.1 (λ w fw. fits_first valid law c.args.k rule.0 rule.1 w fw) old mid c.requires.search at.number at.from at.symbol at.to c.requires.at made in
    let held = hand_starts valid law target (first_worth s) c.args.k rule.0 rule.1 (λ w fw. fits_first valid law c.args.k rule.0 rule.1 w fw) old mid c.requires.search at.number at.from at.symbol at.to c.requires.at made in
    onward.search

pub give-requires-clause-sums : goal.give-requires-clause-sums
give-requires-clause-sums g c = λ r there.
    let p = c.args.system.now in
    let s = g.S.Semiring.operations p.semiring in
    let law = g.S.Semiring.laws p.semiring in
    let valid = c.semiring-semiring.ensures.valid in
    let target = option_map (λ t. t.now) c.args.target in
    let old = c.args.tables.now in
    let at = c.args.at in
    let mid = c.hold_first.new.tables in
    let rule = stands p.rules c.args.k c.requires.rule in
    let made : (r : Rule g.row.S.Denot g.row.S-W.Denot g.row.S-Ret.Denot) → slice_get p.rules c.args.k ≡ Some r → (e : TableEntry g.row.S-W.Denot) → slice_get (found target old) at.number ≡ Some e → mid ≡ with_hand (first_worth s r e.weight) old =
    λ r there. found_hold target c.layer-list.result c.layer-list.ensures old at.number (λ e. mid ≡ with_hand (first_worth s r e.weight) old) (c.in_ok-hold_first.ensures.ok r there) in
    let onward = hand_onward valid law target (first_worth s) c.args.k rule.0 rule.1 (λ w fw. fits_first valid law c.args.k rule.0 rule.1 w fw) old mid c.requires.search at.number at.from at.symbol at.to c.requires.at made in
    let held = hand_starts valid law target (first_worth s) c.args.k rule.0 rule.1 (λ w fw. fits_first valid law c.args.k rule.0 rule.1 w fw) old mid c.requires.search at.number at.from at.symbol at.to c.requires.at made in
    held_steps valid law target c.args.k r there at.from at.symbol at.to (c.requires.from r there) mid held (c.requires.right r there)

pub returns-clause-onward : goal.returns-clause-onward
returns-clause-onward g c =
    let p = c.args.system.now in
    let s = g.S.Semiring.operations p.semiring in
    let law = g.S.Semiring.laws p.semiring in
    let valid = c.semiring-semiring.ensures.valid in
    let target = option_map (λ t. t.now) c.args.target in
    let old = c.args.tables.now in
    let at = c.args.at in
    let mid = c.hold_first.new.tables in
    let rule = stands p.rules c.args.k c.requires.rule in
    let made : (r : Rule g.row.S.Denot g.row.S-W.Denot g.row.S-Ret.Denot) → slice_get p.rules c.args.k ≡ Some r → (e : TableEntry g.row.S-W.Denot) → slice_get (found target old) at.number ≡ Some e → mid ≡ with_hand (first_worth s r e.weight) old =
    λ r there. found_hold target c.layer-list.result c.layer-list.ensures old at.number (λ e. mid ≡ with_hand (first_worth s r e.weight) old) (c.in_ok-hold_first.ensures.ok r there) in
    let onward = hand_onward valid law target (first_worth s) c.args.k rule.0 rule.1 (λ w fw. fits_first valid law c.args.k rule.0 rule.1 w fw) old mid c.requires.search at.number at.from at.symbol at.to c.requires.at made in
    let held = hand_starts valid law target (first_worth s) c.args.k rule.0 rule.1 (λ w fw. fits_first valid law c.args.k rule.0 rule.1 w fw) old mid c.requires.search at.number at.from at.symbol at.to c.requires.at made in
    onward_then valid law target old mid c.give.new.tables c.requires.search onward c.in_ok-give.ensures.onward

pub returns-clause-given : goal.returns-clause-given
returns-clause-given g c = λ r there.
    let p = c.args.system.now in
    let s = g.S.Semiring.operations p.semiring in
    let law = g.S.Semiring.laws p.semiring in
    let valid = c.semiring-semiring.ensures.valid in
    let target = option_map (λ t. t.now) c.args.target in
    let old = c.args.tables.now in
    let at = c.args.at in
    let mid = c.hold_first.new.tables in
    let rule = stands p.rules c.args.k c.requires.rule in
    let made : (r : Rule g.row.S.Denot g.row.S-W.Denot g.row.S-Ret.Denot) → slice_get p.rules c.args.k ≡ Some r → (e : TableEntry g.row.S-W.Denot) → slice_get (found target old) at.number ≡ Some e → mid ≡ with_hand (first_worth s r e.weight) old =
    λ r there. found_hold target c.layer-list.result c.layer-list.ensures old at.number (λ e. mid ≡ with_hand (first_worth s r e.weight) old) (c.in_ok-hold_first.ensures.ok r there) in
    let onward = hand_onward valid law target (first_worth s) c.args.k rule.0 rule.1 (λ w fw. fits_first valid law c.args.k rule.0 rule.1 w fw) old mid c.requires.search at.number at.from at.symbol at.to c.requires.at made in
    let held = hand_starts valid law target (first_worth s) c.args.k rule.0 rule.1 (λ w fw. fits_first valid law c.args.k rule.0 rule.1 w fw) old mid c.requires.search at.number at.from at.symbol at.to c.requires.at made in
    held_first valid law target c.args.k r there at.from at.symbol at.to (c.requires.from r there) mid held c.give.new.tables c.in_ok-give.ensures.onward at.to (c.in_ok-give.ensures.given r there)
