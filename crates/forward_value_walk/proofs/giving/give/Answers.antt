use Rattle.std.proofs.Common.{◌≡◌, ℕ, sym, ap, ◌∙◌, subst, arith}
use Rattle.std.specs.Prelude.{Option, None, IfNone}
use Rattle.walk_pairs.specs.declared.pairs.Stage.{Stage}
use Rattle.walk_pairs.specs.declared.pairs.Pair.{Pair}
use Rattle.walk_pairs.specs.declared.pairs.Stage.TheVariants.{Down, Across, Before, Above}
use Rattle.walk_pairs.specs.Pairs.{pair_place}
use Rattle.walk_pairs.proofs.CallerLemmas.{pair_parts, stages_apart}
use Rattle.forward_value_walk.specs.Walking.{IsPairMet, IsBeforeMet, IsAboveMet, is_stop}
use Rattle.forward_value_walk.proofs.GoingLemmas.{none_gone}
use Rattle.forward_value_walk.proofs.OpeningLemmas.{entry_at}
use Rattle.forward_value_walk.proofs.giving.give.Goals as goal

none_of : (o : Option Pair) (P : Type 0) → o ≡ None → IfNone o P → P
none_of o P none holds = let Q : Option Pair → Type 0 = λ x. IfNone x P in subst Q none holds

pub returns-in_default : goal.returns-in_default
returns-in_default g c = λ e there.
    let a = c.args in
    let here = c.place.ensures e there in
    let none : (stage : Stage) (i x : ℕ) → c.place.result ≡ pair_place stage i x → ⊥ = none_of c.pair_at.result ((stage : Stage) (i x : ℕ) → c.place.result ≡ pair_place stage i x → ⊥) c.in_default.is c.pair_at.ensures.none in
    record { gone = none_gone g.S.Semiring.operations (λ x. g.S.Semiring.laws x) a.first.now a.wanted.now a.tables.now; met = λ i m is. absurd (none Down i m (here ∙ is)); met_before = λ k l is. absurd (none Before k l (here ∙ is)); met_above = λ l m is. absurd (none Above l m (here ∙ is)) }

pub give_pair-requires-clause-entry : goal.give_pair-requires-clause-entry
give_pair-requires-clause-entry g c =
    let entry = entry_at c.args.tables.now.walk c.args.t c.requires.entry in
    let p = c.in-Some.pair in
    (entry.0, entry.1, sym (c.place.ensures entry.0 entry.1) ∙ c.in-Some.ensures.pair ∙ ap (λ st. pair_place st p.state p.to) c.in-Down.is)

pub returns-in_ok-give_pair-in-Down : goal.returns-in_ok-give_pair-in-Down
returns-in_ok-give_pair-in-Down g c = λ e there.
    let a = c.args in
    let v = a.tables.now in
    let s = g.S.Semiring.operations v.system.semiring in
    let p = c.in-Some.pair in
    let given = c.in_ok-give_pair-in-Down.ensures in
    let here : e.place ≡ pair_place Down p.state p.to = sym (c.place.ensures e there) ∙ c.in-Some.ensures.pair ∙ ap (λ st. pair_place st p.state p.to) c.in-Down.is in
    record {
      gone = given.gone;
      met = λ i m is.
          let parts = pair_parts Down p.state p.to i m (sym here ∙ is) in
          let P : ℕ → Type 0 = λ n. IsPairMet s v.system a.first.now a.wanted.now v.base c.give_pair.new.tables.walk (is_stop a.stop) v.target n p.to in
          let Q : ℕ → Type 0 = λ n. IsPairMet s v.system a.first.now a.wanted.now v.base c.give_pair.new.tables.walk (is_stop a.stop) v.target i n in
          subst Q parts.1 (subst P parts.0 given.met);
      met_before = λ k l is. absurd (stages_apart Down Before p.state p.to k l (λ e. omega (arith, e)) (sym here ∙ is));
      met_above = λ l m is. absurd (stages_apart Down Above p.state p.to l m (λ e. omega (arith, e)) (sym here ∙ is));
    }

pub give_items-requires-clause-entry : goal.give_items-requires-clause-entry
give_items-requires-clause-entry g c =
    let entry = entry_at c.args.tables.now.walk c.args.t c.requires.entry in
    let p = c.in-Some.pair in
    (entry.0, entry.1, sym (c.place.ensures entry.0 entry.1) ∙ c.in-Some.ensures.pair ∙ ap (λ st. pair_place st p.state p.to) c.in-Before.is)

pub returns-in_ok-give_items-in-Before : goal.returns-in_ok-give_items-in-Before
returns-in_ok-give_items-in-Before g c = λ e there.
    let a = c.args in
    let v = a.tables.now in
    let s = g.S.Semiring.operations v.system.semiring in
    let p = c.in-Some.pair in
    let given = c.in_ok-give_items-in-Before.ensures in
    let here : e.place ≡ pair_place Before p.state p.to = sym (c.place.ensures e there) ∙ c.in-Some.ensures.pair ∙ ap (λ st. pair_place st p.state p.to) c.in-Before.is in
    record {
      gone = given.gone;
      met = λ i m is. absurd (stages_apart Before Down p.state p.to i m (λ e. omega (arith, e)) (sym here ∙ is));
      met_before = λ k l is.
          let parts = pair_parts Before p.state p.to k l (sym here ∙ is) in
          let P : ℕ → Type 0 = λ n. IsBeforeMet s v.system a.first.now a.wanted.now v.base c.give_items.new.tables.walk n p.to in
          let Q : ℕ → Type 0 = λ n. IsBeforeMet s v.system a.first.now a.wanted.now v.base c.give_items.new.tables.walk k n in
          subst Q parts.1 (subst P parts.0 given.met);
      met_above = λ l m is. absurd (stages_apart Before Above p.state p.to l m (λ e. omega (arith, e)) (sym here ∙ is));
    }

pub give_above-requires-clause-entry : goal.give_above-requires-clause-entry
give_above-requires-clause-entry g c =
    let entry = entry_at c.args.tables.now.walk c.args.t c.requires.entry in
    let p = c.in-Some.pair in
    (entry.0, entry.1, sym (c.place.ensures entry.0 entry.1) ∙ c.in-Some.ensures.pair ∙ ap (λ st. pair_place st p.state p.to) c.in-Above.is)

pub returns-in_ok-give_above-in-Above : goal.returns-in_ok-give_above-in-Above
returns-in_ok-give_above-in-Above g c = λ e there.
    let a = c.args in
    let v = a.tables.now in
    let s = g.S.Semiring.operations v.system.semiring in
    let p = c.in-Some.pair in
    let given = c.in_ok-give_above-in-Above.ensures in
    let here : e.place ≡ pair_place Above p.state p.to = sym (c.place.ensures e there) ∙ c.in-Some.ensures.pair ∙ ap (λ st. pair_place st p.state p.to) c.in-Above.is in
    record {
      gone = given.gone;
      met = λ i m is. absurd (stages_apart Above Down p.state p.to i m (λ e. omega (arith, e)) (sym here ∙ is));
      met_before = λ k l is. absurd (stages_apart Above Before p.state p.to k l (λ e. omega (arith, e)) (sym here ∙ is));
      met_above = λ l m is.
          let parts = pair_parts Above p.state p.to l m (sym here ∙ is) in
          let P : ℕ → Type 0 = λ n. IsAboveMet s v.system a.first.now a.wanted.now v.base c.give_above.new.tables.walk n p.to in
          let Q : ℕ → Type 0 = λ n. IsAboveMet s v.system a.first.now a.wanted.now v.base c.give_above.new.tables.walk l n in
          subst Q parts.1 (subst P parts.0 given.met);
    }

pub returns-in-Across : goal.returns-in-Across
returns-in-Across g c = λ e there.
    let a = c.args in
    let p = c.in-Some.pair in
    let here : e.place ≡ pair_place Across p.state p.to = sym (c.place.ensures e there) ∙ c.in-Some.ensures.pair ∙ ap (λ st. pair_place st p.state p.to) c.in-Across.is in
    record {
      gone = none_gone g.S.Semiring.operations (λ x. g.S.Semiring.laws x) a.first.now a.wanted.now a.tables.now;
      met = λ i m is. absurd (stages_apart Across Down p.state p.to i m (λ e. omega (arith, e)) (sym here ∙ is));
      met_before = λ k l is. absurd (stages_apart Across Before p.state p.to k l (λ e. omega (arith, e)) (sym here ∙ is));
      met_above = λ l m is. absurd (stages_apart Across Above p.state p.to l m (λ e. omega (arith, e)) (sym here ∙ is));
    }
