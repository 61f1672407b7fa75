use Rattle.std.proofs.Common.{ℕ, ◌<◌, length, sym, ◌∙◌, subst}
use Rattle.std.specs.Prelude.{Option, option_map}
use Rattle.pushdown_rules.specs.Rows.{pushes_over}
use Rattle.pushdown_rules.proofs.CallerLemmas.{over_goes_on}
use Rattle.weight_tables.proofs.CallerLemmas.{walk_starts, walk_at, walk_within, walk_goes_on, walk_ends, less_to_go, to_go}
use Rattle.value_search.specs.Views.{found, place_at}
use Rattle.value_search.specs.Met.{IsOverMet}
use Rattle.value_search.proofs.OnwardLemmas.{base_further, found_table, onward_itself, onward_then}
use Rattle.value_search.proofs.MeetLemmas.{over_later, over_skips}
use Rattle.value_search.proofs.TakeLemmas.{at_later}
use Rattle.value_search.proofs.take.meet_row_over.Goals as goal

pub row-init : goal.row-init
row-init g c =
    let p = c.args.system.now in
    let s = g.S.Semiring.operations p.semiring in
    let target = option_map (λ t. t.now) c.args.target in (
      onward_itself c.semiring-semiring.ensures.valid (g.S.Semiring.laws p.semiring) target c.args.tables.now c.requires.search,
      walk_starts (pushes_over c.args.at.symbol) p.rules c.first_over-next.result (λ k. IsOverMet s p target k c.args.at.from c.args.at.symbol c.args.at.to c.args.tables.now.base (found target c.args.tables.now)) c.first_over-next.ensures,
    )

pub meet_over-requires-clause-rule : goal.meet_over-requires-clause-rule
meet_over-requires-clause-rule g c =
    let p = c.args.system.now in
    let s = g.S.Semiring.operations p.semiring in
    let target = option_map (λ t. t.now) c.args.target in
    walk_within (pushes_over c.args.at.symbol) p.rules c.row.next (λ k. IsOverMet s p target k c.args.at.from c.args.at.symbol c.args.at.to c.row.tables.base (found target c.row.tables)) c.row.invariant.1 c.in-Some.k c.in-Some.is

pub meet_over-requires-clause-at : goal.meet_over-requires-clause-at
meet_over-requires-clause-at g c =
    let p = c.args.system.now in
    let s = g.S.Semiring.operations p.semiring in
    let target = option_map (λ t. t.now) c.args.target in
    at_later s p target c.args.tables.now c.row.tables c.row.invariant.0 c.args.at.number (place_at c.args.at.from c.args.at.symbol c.args.at.to) c.requires.at

pub row-preserved : goal.row-preserved
row-preserved g c =
    let p = c.args.system.now in
    let s = g.S.Semiring.operations p.semiring in
    let law = g.S.Semiring.laws p.semiring in
    let valid = c.semiring-semiring.ensures.valid in
    let target = option_map (λ t. t.now) c.args.target in
    let k = c.in-Some.k in
    let mid = c.row.tables in
    let new = c.meet_over.new.tables in
    let was = c.row.invariant.0 in
    let step = c.in_ok-meet_over.ensures.onward in
    let f = walk_at (pushes_over c.args.at.symbol) p.rules c.row.next (λ k. IsOverMet s p target k c.args.at.from c.args.at.symbol c.args.at.to mid.base (found target mid)) c.row.invariant.1 k c.in-Some.is in (
      onward_then valid law target c.args.tables.now mid new c.requires.search was step,
      walk_goes_on (pushes_over c.args.at.symbol) p.rules c.row.next (λ k. IsOverMet s p target k c.args.at.from c.args.at.symbol c.args.at.to mid.base (found target mid)) c.row.invariant.1 k c.next_over-next.result
          (λ k. IsOverMet s p target k c.args.at.from c.args.at.symbol c.args.at.to new.base (found target new)) c.in-Some.is
          (λ j met. over_later valid law (found target mid) (found target new) (found_table valid law target mid was.search.tables) (found_table valid law target new step.search.tables) step.further
          target mid.base new.base was.search.tables.base step.search.tables.base (base_further valid law target mid new was.search step) j c.args.at.from c.args.at.symbol c.args.at.to met)
          c.in_ok-meet_over.ensures.met
          (λ j other. over_skips valid law target j c.args.at.from c.args.at.symbol c.args.at.to new.base (found target new) other)
          (c.next_over-next.ensures ∙ over_goes_on p.rules k f.item f.there c.args.at.symbol f.passes),
    )

pub row-smaller : goal.row-smaller
row-smaller g c =
    let p = c.args.system.now in
    let s = g.S.Semiring.operations p.semiring in
    let target = option_map (λ t. t.now) c.args.target in
    let k = c.in-Some.k in
    let P : ℕ → Type 0 = λ k. IsOverMet s p target k c.args.at.from c.args.at.symbol c.args.at.to c.row.tables.base (found target c.row.tables) in
    let f = walk_at (pushes_over c.args.at.symbol) p.rules c.row.next P c.row.invariant.1 k c.in-Some.is in
    let Q : Option ℕ → Type 0 = λ o. to_go (length p.rules) c.next_over-next.result < to_go (length p.rules) o in
    subst Q (sym c.in-Some.is) (less_to_go (pushes_over c.args.at.symbol) p.rules k c.next_over-next.result (walk_within (pushes_over c.args.at.symbol) p.rules c.row.next P c.row.invariant.1 k c.in-Some.is)
    (c.next_over-next.ensures ∙ over_goes_on p.rules k f.item f.there c.args.at.symbol f.passes))

pub returns-clause-met : goal.returns-clause-met
returns-clause-met g c =
    let p = c.args.system.now in
    let s = g.S.Semiring.operations p.semiring in
    let law = g.S.Semiring.laws p.semiring in
    let valid = c.semiring-semiring.ensures.valid in
    let target = option_map (λ t. t.now) c.args.target in
    walk_ends (pushes_over c.args.at.symbol) p.rules c.row.next (λ k. IsOverMet s p target k c.args.at.from c.args.at.symbol c.args.at.to c.row.tables.base (found target c.row.tables)) c.row.invariant.1 c.in_default.is
    (λ j other. over_skips valid law target j c.args.at.from c.args.at.symbol c.args.at.to c.row.tables.base (found target c.row.tables) other)
