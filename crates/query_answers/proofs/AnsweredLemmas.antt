-- Values that answer queries are the values of answers: values are unique, and each query has an answer.
use Rattle.std.proofs.Common.{◌≡◌, Bool, ℕ, zero, suc, ◌+◌, ◌<◌, ◌≤◌, List, [], ◌∷◌, ◌++◌, IsTrue, length, take, refl, sym, ap, ◌∙◌, subst, arith}
use Rattle.std.specs.Prelude.{All, IfOk, Result, Some, slice_get}
use Rattle.std.specs.Iterator.{Drains}
use Rattle.std.specs.List.{AllByRecursion}
use Rattle.std.specs.Vec.Iter.{into_iter_items, into_iter_len, into_iter_steps}
use Rattle.std.proofs.lemmas.Iterator.{items_from_drains}
use Rattle.std.proofs.lemmas.Iterator.Adapters.{YieldsList-from_vec}
use Rattle.std.proofs.lemmas.Result.{IfOk-weaker}
use Rattle.std.proofs.Math.ListN.{get_or}
use Rattle.std.proofs.lemmas.List.{map-id, take_more}
use Rattle.std.proofs.lemmas.List.Elements.{recursion_from_All}
use Rattle.std.proofs.lemmas.Option.{same_Some}
use Rattle.wpds_base.specs.Limits.{most_items}
use Rattle.semiring_laws.specs.Semiring.{Operations}
use Rattle.pushdown_rules.specs.Configuration.{Configuration}
use Rattle.pushdown_rules.specs.InSystem.{AnswersIn}
use Rattle.pushdown_rules.specs.Pushdown.{Pushdown, IsSystem}
use Rattle.config_patterns.specs.Membership.{PatternValue, has_member}
use Rattle.pattern_openings.specs.PatternOpenings.{IsOver, opening_of}
use Rattle.path_sum.specs.Answers.{IsValueOf, listed_runs}
use Rattle.path_sum.specs.Results.{IsSumOf}
use Rattle.path_sum.specs.declared.answer.Answer.{Answer}
use Rattle.poststar.proofs.CallerLemmas.{pattern_fits as post_fits}
use Rattle.poststar.specs.declared.post.Post.{Post}
use Rattle.prestar.proofs.CallerLemmas.{pattern_fits as pre_fits}
use Rattle.prestar.specs.declared.pre.Pre.{Pre}
use Rattle.prestar_laws.specs.Ways.{pre_way}
use Rattle.saturation_laws.specs.Books.{BookValue, IsBook, IsClosed}
use Rattle.saturation_laws.specs.declared.opening.Opening.{Opening}
use Rattle.saturation_laws.specs.Ways.{Way}
use Rattle.walk_pairs.specs.Answering.{IsAnswered}
use Rattle.witness_graph.specs.declared.node.Side.{Side}
use Rattle.witness_graph.specs.declared.node.Side.TheVariants.{Pre as Backward, Post as Forward}
use Rattle.worker_pool.specs.Closing.{IsClosedAlone, just_opened}
use Rattle.worker_pool.specs.Workers.{IsWorkerCount}
use Rattle.query_answers.specs.Answering.{forward_way, IsAnswer, AreValues}
use Rattle.query_answers.specs.Values.{ValuesOf}
use Rattle.query_answers.specs.private.Answered.{AreAnswered}
use Rattle.query_answers.proofs.AnswerLemmas.{OpeningsReadMembers, backward_is, forward_is}

-- ---- lists of values that answer

module _ {S W Map : Type 0} (operations : S → Operations W Map) (p : Pushdown S W Map) (from : PatternValue) where
  abbrev Are : List PatternValue → List W → Type 0
  Are = AreAnswered operations p from

  -- as many, and each at its place
  pub as_many : (tos : List PatternValue) (vs : List W) → Are tos vs → length vs ≡ length tos
  as_many [] [] are = refl
  as_many [] (v ∷ vs) are = absurd are
  as_many (to ∷ tos) [] are = absurd are
  as_many (to ∷ tos) (v ∷ vs) are = ap suc (as_many tos vs are.1)

  pub each_answered : (tos : List PatternValue) (vs : List W) → Are tos vs → (k : ℕ) (to : PatternValue) (v : W) → slice_get tos k ≡ Some to → slice_get vs k ≡ Some v
      → IsAnswered (operations p.semiring) p from to v
  each_answered [] vs are k to v there value = cc
  each_answered (x ∷ tos) [] are k to v there value = absurd are
  each_answered (x ∷ tos) (w ∷ vs) are zero to v there value =
      subst (λ y. IsAnswered (operations p.semiring) p from y v) (same_Some x to there) (subst (IsAnswered (operations p.semiring) p from x) (same_Some w v value) are.0)
  each_answered (x ∷ tos) (w ∷ vs) are (suc k) to v there value = each_answered tos vs are.1 k to v there value

  -- and the other way round
  pub all_answered : (tos : List PatternValue) (vs : List W) → length vs ≡ length tos
      → ((k : ℕ) (to : PatternValue) (v : W) → slice_get tos k ≡ Some to → slice_get vs k ≡ Some v → IsAnswered (operations p.semiring) p from to v) → Are tos vs
  all_answered [] [] same each = tt
  all_answered [] (v ∷ vs) same each = absurd (omega (arith, same))
  all_answered (to ∷ tos) [] same each = absurd (omega (arith, same))
  all_answered (to ∷ tos) (v ∷ vs) same each = (each 0 to v refl refl, all_answered tos vs (omega (arith, same)) (λ k. each (suc k)))

  -- queries, and others
  pub both_answered : (xs ys : List PatternValue) (vs ws : List W) → Are xs vs → Are ys ws → Are (xs ++ ys) (vs ++ ws)
  both_answered [] ys [] ws one other = other
  both_answered [] ys (v ∷ vs) ws one other = absurd one
  both_answered (x ∷ xs) ys [] ws one other = absurd one
  both_answered (x ∷ xs) ys (v ∷ vs) ws one other = (one.0, both_answered xs ys vs ws one.1 other)

  -- one query more
  pub next_answered : (tos : List PatternValue) (i : ℕ) (d : PatternValue) (vs : List W) (v : W) → i < length tos → Are (take i tos) vs
      → IsAnswered (operations p.semiring) p from (get_or tos i d) v → Are (take (i + 1) tos) (vs ++ v ∷ [])
  next_answered tos i d vs v within are one =
      subst (λ xs. Are xs (vs ++ v ∷ [])) (sym (take_more tos i d within)) (both_answered (take i tos) (get_or tos i d ∷ []) vs (v ∷ []) are (one, tt))

-- what an iterator over a list gives
pub all_given : {A Z : Type 0} → (it : _) (xs ys : List A) → into_iter_items {X = A} {Z = Z} it ≡ ys → into_iter_len {X = A} {Z = Z} it ≡ length ys
    → Drains (into_iter_steps {X = A} {Z = Z}) it xs → xs ≡ ys
all_given it xs ys items count given = sym (map-id xs) ∙ items_from_drains xs (given.1.0, given.1.1, λ _. (given.0, given.1.2)) (YieldsList-from_vec ys items count)

-- ---- the laws that are called

module _ {S W Map D : Type 0} (operations : S → Operations W Map) (way : Way S W Map D) where
  abbrev pub Closes : Type 0
  Closes = (b : BookValue S W Map D) → IsBook operations way b → b.journal ≡ [] → (c : BookValue S W Map D) × IsClosedAlone operations way b c

  abbrev pub Opens : Type 0
  Opens = (p : Pushdown S W Map) (d : D) (o : Opening) → IsSystem operations p → IsTrue (way.fits_opening d p o) → IsBook operations way (just_opened operations way p d o)

  abbrev pub HasSums : Type 0
  HasSums = (b : BookValue S W Map D) (pattern : PatternValue) → IsBook operations way b → IsClosed b → pattern.control < b.system.controls
      → (a : Answer S W Map) × IsSumOf operations way b pattern a

abbrev pub Agree : {S W Map : Type 0} → (S → Operations W Map) → Type 0
Agree operations = (p : Pushdown _ _ _) (from to : Configuration → Bool) (v w : _) (xs ys : List (List ℕ)) → IsSystem operations p
    → AnswersIn operations p from to v xs → AnswersIn operations p from to w ys → v ≡ w

-- ---- there is an answer to each query

over_at : (controls symbols : ℕ) (tos : List PatternValue) → AllByRecursion (IsOver controls symbols) tos → (k : ℕ) (to : PatternValue) → slice_get tos k ≡ Some to → IsOver controls symbols to
over_at controls symbols [] over k to e = cc
over_at controls symbols (d ∷ tos) over zero to e = subst (IsOver controls symbols) (same_Some d to e) over.0
over_at controls symbols (d ∷ tos) over (suc k) to e = over_at controls symbols tos over.1 k to e

module _ {S W Map : Type 0} (operations : S → Operations W Map) (law : OpeningsReadMembers)
    (pre_closes : Closes operations (pre_way {D = Pre} operations)) (pre_opens : Opens operations (pre_way {D = Pre} operations)) (pre_sums : HasSums operations (pre_way {D = Pre} operations))
    (post_closes : Closes operations (forward_way operations)) (post_opens : Opens operations (forward_way operations)) (post_sums : HasSums operations (forward_way operations))
    (agree : Agree operations) (p : Pushdown S W Map) (valid : IsSystem operations p) (workers : ℕ) (some : IsWorkerCount workers)
    (from : PatternValue) (few : length from.items ≤ most_items) (over : IsOver p.controls p.symbols from) where
  answer_exists : (side : Side) (to : PatternValue) → IsOver p.controls p.symbols to → (a : Answer S W Map) × IsAnswer operations p side workers from to a
  answer_exists Backward to over_to =
      let o = opening_of p.controls to in
      let opened = just_opened operations (pre_way {D = Pre} operations) p (record {}) o in
      let c = pre_closes opened (pre_opens p (record {}) o valid (pre_fits p to)) refl in
      let a = pre_sums c.0 from c.1.book c.1.closed (subst (λ (q : Pushdown S W Map). from.control < q.controls) (sym c.1.base.system) over.control) in (
        a.0,
        backward_is operations law p c.0 a.0 from Backward workers from to a.1 over_to.control refl
            (record { system = c.1.base.system; direction = c.1.base.direction; opening = c.1.base.opening; book = c.1.book; closed = c.1.closed; seats = c.1.seats workers some; alone = λ _. c.1.alone }),
      )
  answer_exists Forward to over_to =
      let o = opening_of p.controls from in
      let d : Post = record { items = length from.items } in
      let opened = just_opened operations (forward_way operations) p d o in
      let c = post_closes opened (post_opens p d o valid (post_fits p from over few)) refl in
      let a = post_sums c.0 to c.1.book c.1.closed (subst (λ (q : Pushdown S W Map). to.control < q.controls) (sym c.1.base.system) over_to.control) in (
        a.0,
        forward_is operations law p c.0 a.0 to Forward workers from to a.1 over.control refl
            (record { system = c.1.base.system; direction = c.1.base.direction; opening = c.1.base.opening; book = c.1.book; closed = c.1.closed; seats = c.1.seats workers some; alone = λ _. c.1.alone }),
      )

  -- what answers the query is its value
  value_is : (side : Side) (to : PatternValue) → IsOver p.controls p.symbols to → (v : W) → IsAnswered (operations p.semiring) p from to v → IsValueOf (IsAnswer operations p side workers from to) v
  value_is side to over_to v is =
      let a = answer_exists side to over_to in
      (a.0, a.1, agree p (has_member from) (has_member to) v a.0.value is.0 (listed_runs a.0.listing) valid is.1 a.1.shows.answers)

  pub values_are : (side : Side) (tos : List PatternValue) (vs : List W) → All (IsOver p.controls p.symbols) tos → AreAnswered operations p from tos vs → AreValues operations p side workers from tos vs
  values_are side tos vs overs are = record {
    count = as_many operations p from tos vs are;
    each = λ k to v there value.
        value_is side to (over_at p.controls p.symbols tos (recursion_from_All (IsOver p.controls p.symbols) tos overs) k to there) v (each_answered operations p from tos vs are k to v there value);
  }

-- ---- by the law

module _ {S W Map : Type 0} (operations : S → Operations W Map) where
  -- what the law on answers and values says
  abbrev pub AnswersAreValues : Type 0
  AnswersAreValues = (p : Pushdown S W Map) (side : Side) (workers : ℕ) (from : PatternValue) (tos : List PatternValue) (vs : List W) → IsSystem operations p → IsWorkerCount workers
      → length from.items ≤ most_items → IsOver p.controls p.symbols from → All (IsOver p.controls p.symbols) tos → AreAnswered operations p from tos vs → AreValues operations p side workers from tos vs

  module _ (law : AnswersAreValues) (inside v : ValuesOf S W Map) (same : inside ≡ v) (valid : IsSystem operations inside.system) (some : IsWorkerCount inside.workers) (from : PatternValue)
      (few : length from.items ≤ most_items) (over : IsOver v.system.controls v.system.symbols from) (tos : List PatternValue) (overs : All (IsOver v.system.controls v.system.symbols) tos) where
    -- what was answered has the values that are asked for
    pub values_told : {V E : Type 0} (items : V → List W) (r : Result V E) → IfOk r (λ vs. AreAnswered operations inside.system from tos (items vs))
        → IfOk r (λ vs. AreValues operations v.system v.side v.workers from tos (items vs))
    values_told {V} items r answered =
        let P : ValuesOf S W Map → Type 0 = λ w. IfOk r (λ vs. AreValues operations w.system w.side w.workers from tos (items vs)) in
        let O : ValuesOf S W Map → Type 0 = λ w. IsOver w.system.controls w.system.symbols from in
        let T : ValuesOf S W Map → Type 0 = λ w. All (IsOver w.system.controls w.system.symbols) tos in
        subst P same (IfOk-weaker r _ _ (λ vs are. law inside.system inside.side inside.workers from tos (items vs) valid some few (subst O (sym same) over) (subst T (sym same) overs) are) answered)
