use Rattle.std.proofs.Common.{◌≡◌, ℕ, refl, sym, ap, ◌∙◌, subst, arith}
use Rattle.std.specs.Prelude.{Option, None, IfNone}
use Rattle.walk_pairs.specs.declared.pairs.Stage.{Stage}
use Rattle.walk_pairs.specs.declared.pairs.Pair.{Pair}
use Rattle.walk_pairs.specs.declared.pairs.Stage.TheVariants.{Down, Across, Before, Above}
use Rattle.walk_pairs.specs.Pairs.{pair_place}
use Rattle.walk_pairs.specs.Reading.{IsPairGiven, IsBeforeGiven}
use Rattle.walk_pairs.proofs.CallerLemmas.{pair_parts, stages_apart}
use Rattle.value_walk.specs.private.Walking.{IsDownGiven, IsAboveGiven}
use Rattle.value_walk.proofs.giving.give.Goals as goal

none_of : (o : Option Pair) (P : Type 0) → o ≡ None → IfNone o P → P
none_of o P none holds = let Q : Option Pair → Type 0 = λ x. IfNone x P in subst Q none holds

pub returns-in_default : goal.returns-in_default
returns-in_default g c =
    let none : (stage : Stage) (i x : ℕ) → c.args.place ≡ pair_place stage i x → ⊥ = none_of c.pair_at.result ((stage : Stage) (i x : ℕ) → c.args.place ≡ pair_place stage i x → ⊥) c.in_default.is c.pair_at.ensures.none in
    record { down = λ i x is. absurd (none Down i x is); across = λ i x is. absurd (none Across i x is); above = λ i x is. absurd (none Above i x is); before = λ i x is. absurd (none Before i x is); others = λ _. refl }

pub returns-in_ok-give_down-in-Down : goal.returns-in_ok-give_down-in-Down
returns-in_ok-give_down-in-Down g c =
    let a = c.args in
    let v = a.tables.now in
    let s = g.S.Semiring.operations v.system.semiring in
    let p = c.in-Some.pair in
    let here : a.place ≡ pair_place Down p.state p.to = c.in-Some.ensures.pair ∙ ap (λ st. pair_place st p.state p.to) c.in-Down.is in
    record {
      down = λ i x is.
          let parts = pair_parts Down p.state p.to i x (sym here ∙ is) in
          let P : ℕ → Type 0 = λ n. IsDownGiven s a.from.now a.to.now n p.to v c.give_down.new.tables in
          let Q : ℕ → Type 0 = λ n. IsDownGiven s a.from.now a.to.now i n v c.give_down.new.tables in
          subst Q parts.1 (subst P parts.0 c.in_ok-give_down-in-Down.ensures);
      across = λ i x is. absurd (stages_apart Down Across p.state p.to i x (λ e. omega (arith, e)) (sym here ∙ is));
      above = λ i x is. absurd (stages_apart Down Above p.state p.to i x (λ e. omega (arith, e)) (sym here ∙ is));
      before = λ i x is. absurd (stages_apart Down Before p.state p.to i x (λ e. omega (arith, e)) (sym here ∙ is));
      others = λ none. absurd (none Down p.state p.to here);
    }

pub returns-in_ok-read_on-in-Across : goal.returns-in_ok-read_on-in-Across
returns-in_ok-read_on-in-Across g c =
    let a = c.args in
    let v = a.tables.now in
    let s = g.S.Semiring.operations v.system.semiring in
    let p = c.in-Some.pair in
    let new = c.read_on.new.tables in
    let here : a.place ≡ pair_place Across p.state p.to = c.in-Some.ensures.pair ∙ ap (λ st. pair_place st p.state p.to) c.in-Across.is in
    record {
      down = λ i x is. absurd (stages_apart Across Down p.state p.to i x (λ e. omega (arith, e)) (sym here ∙ is));
      across = λ i x is.
          let parts = pair_parts Across p.state p.to i x (sym here ∙ is) in
          let P : ℕ → Type 0 = λ n. IsPairGiven s v a.from.now.items a.to.now.items n p.to new in
          let Q : ℕ → Type 0 = λ n. IsPairGiven s v a.from.now.items a.to.now.items i n new in
          subst Q parts.1 (subst P parts.0 c.in_ok-read_on-in-Across.ensures);
      above = λ i x is. absurd (stages_apart Across Above p.state p.to i x (λ e. omega (arith, e)) (sym here ∙ is));
      before = λ i x is. absurd (stages_apart Across Before p.state p.to i x (λ e. omega (arith, e)) (sym here ∙ is));
      others = λ none. absurd (none Across p.state p.to here);
    }

pub returns-in_ok-read_items-in-Before : goal.returns-in_ok-read_items-in-Before
returns-in_ok-read_items-in-Before g c =
    let a = c.args in
    let v = a.tables.now in
    let s = g.S.Semiring.operations v.system.semiring in
    let p = c.in-Some.pair in
    let new = c.read_items.new.tables in
    let here : a.place ≡ pair_place Before p.state p.to = c.in-Some.ensures.pair ∙ ap (λ st. pair_place st p.state p.to) c.in-Before.is in
    record {
      down = λ i x is. absurd (stages_apart Before Down p.state p.to i x (λ e. omega (arith, e)) (sym here ∙ is));
      across = λ i x is. absurd (stages_apart Before Across p.state p.to i x (λ e. omega (arith, e)) (sym here ∙ is));
      above = λ i x is. absurd (stages_apart Before Above p.state p.to i x (λ e. omega (arith, e)) (sym here ∙ is));
      before = λ i x is.
          let parts = pair_parts Before p.state p.to i x (sym here ∙ is) in
          let P : ℕ → Type 0 = λ n. IsBeforeGiven s v a.from.now.items a.to.now.items Across n p.to new in
          let Q : ℕ → Type 0 = λ n. IsBeforeGiven s v a.from.now.items a.to.now.items Across i n new in
          subst Q parts.1 (subst P parts.0 c.in_ok-read_items-in-Before.ensures);
      others = λ none. absurd (none Before p.state p.to here);
    }

pub returns-in_ok-give_above-in-Above : goal.returns-in_ok-give_above-in-Above
returns-in_ok-give_above-in-Above g c =
    let a = c.args in
    let v = a.tables.now in
    let s = g.S.Semiring.operations v.system.semiring in
    let p = c.in-Some.pair in
    let new = c.give_above.new.tables in
    let here : a.place ≡ pair_place Above p.state p.to = c.in-Some.ensures.pair ∙ ap (λ st. pair_place st p.state p.to) c.in-Above.is in
    record {
      down = λ i x is. absurd (stages_apart Above Down p.state p.to i x (λ e. omega (arith, e)) (sym here ∙ is));
      across = λ i x is. absurd (stages_apart Above Across p.state p.to i x (λ e. omega (arith, e)) (sym here ∙ is));
      above = λ i x is.
          let parts = pair_parts Above p.state p.to i x (sym here ∙ is) in
          let P : ℕ → Type 0 = λ n. IsAboveGiven s a.from.now a.to.now n p.to v new in
          let Q : ℕ → Type 0 = λ n. IsAboveGiven s a.from.now a.to.now i n v new in
          subst Q parts.1 (subst P parts.0 c.in_ok-give_above-in-Above.ensures);
      before = λ i x is. absurd (stages_apart Above Before p.state p.to i x (λ e. omega (arith, e)) (sym here ∙ is));
      others = λ none. absurd (none Above p.state p.to here);
    }
