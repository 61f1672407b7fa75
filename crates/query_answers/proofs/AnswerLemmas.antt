-- The answer of a sum over a book that workers have saturated.
use Rattle.std.proofs.Common.{◌≡◌, ◌↔◌, ℕ, ◌<◌, List, IsTrue, refl, sym, subst}
use Rattle.std.specs.Prelude.{nat_eq, Result, Ok, Err, IfOk, IfSome}
use Rattle.std.proofs.lemmas.Bool.{and_parts, eqb-true}
use Rattle.semiring_laws.specs.Semiring.{Operations}
use Rattle.pushdown_rules.specs.Configuration.{Configuration}
use Rattle.pushdown_rules.specs.Pushdown.{Pushdown}
use Rattle.config_patterns.specs.Membership.{PatternValue, has_member, items_match}
use Rattle.pattern_openings.specs.PatternOpenings.{opening_of}
use Rattle.saturation_laws.specs.declared.opening.Opening.{Opening}
use Rattle.saturation_laws.specs.Books.{BookValue}
use Rattle.saturation_laws.specs.Paths.{IsOpened}
use Rattle.prestar.specs.declared.pre.Pre.{Pre}
use Rattle.poststar.specs.declared.post.Post.{Post}
use Rattle.pushdown_rules.specs.Answers.{Answers}
use Rattle.saturation_laws.specs.Ways.{Way}
use Rattle.witness_graph.specs.declared.node.Side.{Side}
use Rattle.witness_graph.specs.declared.node.Side.TheVariants.{Pre as Backward, Post as Forward}
use Rattle.path_sum.specs.Answers.{AnswersOpening, IsGrownAnswer, IsValueOf, first_of, last_of, listed_runs}
use Rattle.path_sum.specs.Sums.{ways_of}
use Rattle.query_answers.specs.declared.saturation.Saturation.TheVariants.{Backward as BackwardOf, Forward as ForwardOf}
use Rattle.path_sum.specs.declared.answer.Answer.{Answer}
use Rattle.path_sum.specs.Results.{IsSumOver, IsSumOf}
use Rattle.prestar_laws.specs.Ways.{pre_way}
use Rattle.walk_pairs.specs.Answering.{IsAnswered}
use Rattle.query_answers.specs.Answering.{opened_of, summed_of, forward_way, backward_from, forward_from, ShowsAnswer, IsGrownFromBook, IsSaturatedFrom, IsSaturated, IsAnswer}

-- what the law on openings says
abbrev pub OpeningsReadMembers : Type 0
OpeningsReadMembers = (pattern : PatternValue) (controls : ℕ) → pattern.control < controls → (d : Configuration) → d.control < controls
    → IsOpened (opening_of controls pattern) d ↔ IsTrue (has_member pattern d)

pub members_are_opened : OpeningsReadMembers → (pattern : PatternValue) (controls : ℕ) → pattern.control < controls → (d : Configuration)
    → IsTrue (has_member pattern d) ↔ (IsOpened (opening_of controls pattern) d × (d.control < controls))
members_are_opened law pattern controls below d = (there, back)
  where
    there : IsTrue (has_member pattern d) → IsOpened (opening_of controls pattern) d × (d.control < controls)
    there e =
        let same = eqb-true d.control pattern.control (and_parts (nat_eq d.control pattern.control) (items_match pattern.items d.stack) e).0 in
        let within = subst (λ k. k < controls) (sym same) below in
        ((law pattern controls below d within).1 e, within)

    back : (IsOpened (opening_of controls pattern) d × (d.control < controls)) → IsTrue (has_member pattern d)
    back both = (law pattern controls below d both.1).0 both.0

-- a sum over a finished saturation by a side shows the answer, and is grown that way
module _ {S W Map D : Type 0} (operations : S → Operations W Map) (way : Way S W Map D) (direction_from : PatternValue → D) where
  record IsShown (p : Pushdown S W Map) (side : Side) (workers : ℕ) (from to : PatternValue) (a : Answer S W Map) : Type 0 where
    shows : ShowsAnswer operations p from to side a
    grown : IsGrownFromBook operations way direction_from p side workers from to a

  -- the answers between two patterns, by the side
  between : (s : Operations W Map) (p : Pushdown S W Map) (side : Side) (from to : PatternValue) (v : W) (runs : List (List ℕ))
      → Answers s p (first_of side (has_member (summed_of side from to)) (has_member (opened_of side from to))) (last_of side (has_member (summed_of side from to)) (has_member (opened_of side from to))) v runs
      → Answers s p (has_member from) (has_member to) v runs
  between s p Backward from to v runs answers = answers
  between s p Forward from to v runs answers = answers

  shown : OpeningsReadMembers → (p : Pushdown S W Map) (side : Side) (workers : ℕ) (from to : PatternValue) → (opened_of side from to).control < p.controls → (b : BookValue S W Map D) (a : Answer S W Map)
      → (way.tables b.direction p).side ≡ side → IsSaturatedFrom operations way direction_from p workers (opened_of side from to) b → IsSumOf operations way b (summed_of side from to) a → IsShown p side workers from to a
  shown law p side workers from to below b a goes saturated summed =
      let near = summed_of side from to in
      let opened = opened_of side from to in
      let P : Pushdown S W Map → Type 0 = λ q. IsSumOver operations way q b.direction b.opening b.state.transitions b.state.nodes near a in
      let Q : Opening → Type 0 = λ o. IsSumOver operations way p b.direction o b.state.transitions b.state.nodes near a in
      let there : P p = subst P saturated.system summed in
      let here : Q (opening_of p.controls opened) = subst Q saturated.opening there in
      let s = operations p.semiring in
      let answers = subst (λ g. AnswersOpening s g p (opening_of p.controls opened) (has_member near) a.value (listed_runs a.listing)) goes here.answers in
      record {
        shows = record {
          answers = between s p side from to a.value (listed_runs a.listing) (answers (has_member opened) (members_are_opened law opened p.controls below));
          unlisted = here.unlisted;
          side = subst (λ g. IfSome a.listing (λ l. l.side ≡ g)) goes here.side;
          tight = here.tight;
        };
        grown = record {
          book = b;
          goes = goes;
          saturated = saturated;
          grown = subst (λ g. IsGrownAnswer s g b.opening b.state.transitions b.state.nodes (ways_of near) a) goes there.grown;
        };
      }

module _ {S W Map : Type 0} (operations : S → Operations W Map) (law : OpeningsReadMembers) (p : Pushdown S W Map) where
  pub backward_is : (b : BookValue S W Map Pre) (a : Answer S W Map) (summed : PatternValue) (side : Side) (workers : ℕ) (from to : PatternValue)
      → IsSumOf operations (pre_way operations) b summed a → (opened_of side from to).control < p.controls → summed_of side from to ≡ summed
      → IsSaturated operations p side workers (opened_of side from to) (BackwardOf b) → IsAnswer operations p side workers from to a
  backward_is b a summed Forward workers from to sums below same saturated = absurd saturated
  backward_is b a summed Backward workers from to sums below same saturated =
      let x = shown operations (pre_way operations) backward_from law p Backward workers from to below b a refl saturated (subst (λ q. IsSumOf operations (pre_way operations) b q a) (sym same) sums) in
      record { shows = x.shows; grown = x.grown }

  pub forward_is : (b : BookValue S W Map Post) (a : Answer S W Map) (summed : PatternValue) (side : Side) (workers : ℕ) (from to : PatternValue)
      → IsSumOf operations (forward_way operations) b summed a → (opened_of side from to).control < p.controls → summed_of side from to ≡ summed
      → IsSaturated operations p side workers (opened_of side from to) (ForwardOf b) → IsAnswer operations p side workers from to a
  forward_is b a summed Backward workers from to sums below same saturated = absurd saturated
  forward_is b a summed Forward workers from to sums below same saturated =
      let x = shown operations (forward_way operations) forward_from law p Forward workers from to below b a refl saturated (subst (λ q. IsSumOf operations (forward_way operations) b q a) (sym same) sums) in
      record { shows = x.shows; grown = x.grown }

  pub backward_answers : {E : Type 0} (b : BookValue S W Map Pre) (r : Result (Answer S W Map) E) (summed : PatternValue) (side : Side) (workers : ℕ) (from to : PatternValue)
      → IfOk r (IsSumOf operations (pre_way operations) b summed) → (opened_of side from to).control < p.controls → summed_of side from to ≡ summed
      → IsSaturated operations p side workers (opened_of side from to) (BackwardOf b) → IfOk r (IsAnswer operations p side workers from to)
  backward_answers b (Err e) summed side workers from to sums below same saturated = tt
  backward_answers b (Ok a) summed side workers from to sums below same saturated = backward_is b a summed side workers from to sums below same saturated

  pub forward_answers : {E : Type 0} (b : BookValue S W Map Post) (r : Result (Answer S W Map) E) (summed : PatternValue) (side : Side) (workers : ℕ) (from to : PatternValue)
      → IfOk r (IsSumOf operations (forward_way operations) b summed) → (opened_of side from to).control < p.controls → summed_of side from to ≡ summed
      → IsSaturated operations p side workers (opened_of side from to) (ForwardOf b) → IfOk r (IsAnswer operations p side workers from to)
  forward_answers b (Err e) summed side workers from to sums below same saturated = tt
  forward_answers b (Ok a) summed side workers from to sums below same saturated = forward_is b a summed side workers from to sums below same saturated

  -- the value of a sum over a book forwards, which lists nothing, answers
  pub forward_answered : (b : BookValue S W Map Post) (v : W) (workers : ℕ) (from to : PatternValue) → IsValueOf (IsSumOf operations (forward_way operations) b to) v → from.control < p.controls
      → IsSaturatedFrom operations (forward_way operations) forward_from p workers from b → IsAnswered (operations p.semiring) p from to v
  forward_answered b v workers from to (a, sums, value) below saturated =
      let is = forward_is b a to Forward workers from to sums below refl saturated in
      let runs = listed_runs a.listing in
      (runs, subst (λ w. Answers (operations p.semiring) p (has_member from) (has_member to) w runs) (sym value) is.shows.answers)
