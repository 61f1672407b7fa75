-- Journals of one worker.
use Rattle.std.proofs.Common.{◌≡◌, length, true, List, [], ◌∷◌, refl, sym, ap, ap₂, subst, ◌∙◌}
use Rattle.std.specs.Prelude.{ℕ, ◌&&◌, nat_lt, Option, Some, None, option_and_then, is_none}
use Rattle.std.proofs.lemmas.Bool.{and_parts}
use Rattle.std.proofs.lemmas.Option.{same_Some}
use Rattle.semiring_laws.specs.Semiring.{Operations}
use Rattle.weighted_automata.specs.declared.place.Place.{Place}
use Rattle.weighted_automata.proofs.CallerLemmas.{same_place_is}
use Rattle.pushdown_rules.specs.Pushdown.{Pushdown}
use Rattle.saturation_laws.specs.declared.event.Event.{Event}
use Rattle.saturation_laws.specs.declared.event.Event.TheVariants.{Take, Settle}
use Rattle.saturation_laws.specs.declared.opening.Opening.{Opening}
use Rattle.saturation_laws.specs.Jobs.{Tables}
use Rattle.saturation_laws.specs.States.{CoreState, step, replay, is_front, take, hand_at}
use Rattle.saturation_laws.specs.Books.{BookValue, opened_by, replayed}
use Rattle.saturation_core.proofs.CallerLemmas.{took}
use Rattle.worker_pool.specs.Alone.{HasBase, IsAlone, turns_of}
use Rattle.saturation_laws.specs.Ways.{Way}

-- what comes first, and what comes of it
pub then_parts : {A B : Type 0} (f : A → Option B) (o : Option A) (y : B) → option_and_then f o ≡ Some y → (x : A) × (o ≡ Some x) × (f x ≡ Some y)
then_parts f None y e = cc
then_parts f (Some x) y e = (x, refl, e)

module _ {S W Map : Type 0} (s : Operations W Map) (d : Tables S W Map) where
  front_taken : (seat : ℕ) (x : Place) (st mid : CoreState S W Map) → step s d st (Take seat x) ≡ Some mid → is_front s d x st.queue ≡ true
  front_taken seat x st mid legal =
      (and_parts (nat_lt seat (length st.hands) && is_none (hand_at seat st.hands)) (is_front s d x st.queue) (took s d seat x st mid legal).0).1

  -- a queue has one front, and an empty one has none
  one_front : (x y : Place) (q : List Place) → is_front s d x q ≡ true → is_front s d y q ≡ true → x ≡ y
  one_front x y [] is _ = cc
  one_front x y (z ∷ q) is is' = sym (same_place_is z x is) ∙ same_place_is z y is'

  no_front : (x : Place) (q : List Place) → q ≡ [] → is_front s d x q ≡ true → ⊥
  no_front x [] e is = cc
  no_front x (y ∷ q) e is = cc

  -- the state after a turn
  turned : Place → CoreState S W Map → Option (CoreState S W Map)
  turned x st = option_and_then (λ m. step s d m (Settle 0)) (step s d st (Take 0 x))

  -- the first turn, and the rest
  record IsTurn (x : Place) (xs : List Place) (st new : CoreState S W Map) : Type 0 where
    front : is_front s d x st.queue ≡ true
    mid : CoreState S W Map
    turn : turned x st ≡ Some mid
    rest : replay s d mid (turns_of xs) ≡ Some new

  turn_parts : (x : Place) (xs : List Place) (st new : CoreState S W Map) → replay s d st (turns_of (x ∷ xs)) ≡ Some new → IsTurn x xs st new
  unfolding turned
  turn_parts x xs st new legal =
      let one = then_parts (λ m. replay s d m (Settle 0 ∷ turns_of xs)) (step s d st (Take 0 x)) new legal in
      let two = then_parts (λ m. replay s d m (turns_of xs)) (step s d one.0 (Settle 0)) new one.2 in
      record {
        front = front_taken 0 x st one.0 one.1;
        mid = two.0;
        turn = ap (option_and_then (λ m. step s d m (Settle 0))) one.1 ∙ two.1;
        rest = two.2;
      }

  -- Turns that begin with one state and end with nothing to take are the same turns.
  same_turns : (xs ys : List Place) (st a b : CoreState S W Map) → replay s d st (turns_of xs) ≡ Some a → replay s d st (turns_of ys) ≡ Some b → a.queue ≡ [] → b.queue ≡ []
      → (xs ≡ ys) × (a ≡ b)
  same_turns [] [] st a b to_a to_b end_a end_b = (refl, sym (same_Some st a to_a) ∙ same_Some st b to_b)
  same_turns [] (y ∷ ys) st a b to_a to_b end_a end_b =
      absurd (no_front y st.queue (ap (λ (m : CoreState S W Map). m.queue) (same_Some st a to_a) ∙ end_a) (turn_parts y ys st b to_b).front)
  same_turns (x ∷ xs) [] st a b to_a to_b end_a end_b =
      absurd (no_front x st.queue (ap (λ (m : CoreState S W Map). m.queue) (same_Some st b to_b) ∙ end_b) (turn_parts x xs st a to_a).front)
  same_turns (x ∷ xs) (y ∷ ys) st a b to_a to_b end_a end_b =
      let one = turn_parts x xs st a to_a in
      let other = turn_parts y ys st b to_b in
      let first : x ≡ y = one_front x y st.queue one.front other.front in
      let mid : other.mid ≡ one.mid = same_Some other.mid one.mid (sym other.turn ∙ ap (λ z. turned z st) (sym first) ∙ one.turn) in
      let rest = same_turns xs ys one.mid a b one.rest (ap (λ m. replay s d m (turns_of ys)) (sym mid) ∙ other.rest) end_a end_b in
      (ap₂ (λ z zs. z ∷ zs) first rest.0, rest.1)

module _ {S W Map D : Type 0} (operations : S → Operations W Map) (way : Way S W Map D) where
  -- a book of this base with that state and journal
  rebased : BookValue S W Map D → BookValue S W Map D → BookValue S W Map D
  rebased a b = record a { state = b.state; journal = b.journal }

  is_rebased : (a b : BookValue S W Map D) → HasBase a b → b ≡ rebased a b
  unfolding rebased
  is_rebased a b base =
      let book : Pushdown S W Map → D → Opening → BookValue S W Map D = λ p e o. record { system = p; direction = e; opening = o; state = b.state; journal = b.journal } in
      ap (λ p. book p b.direction b.opening) base.system ∙ ap (λ e. book a.system e b.opening) base.direction ∙ ap (book a.system a.direction) base.opening

  -- Books of one base that one worker has closed are equal.
  pub one_end : (a b : BookValue S W Map D) → replayed operations way a ≡ Some a.state → replayed operations way b ≡ Some b.state → HasBase a b
      → a.state.queue ≡ [] → b.state.queue ≡ [] → IsAlone a.journal → IsAlone b.journal → a ≡ b
  unfolding rebased
  one_end a b is_a is_b base end_a end_b alone_a alone_b =
      let s = operations a.system.semiring in
      let d = way.tables a.direction a.system in
      let st = opened_by operations way a in
      let P : BookValue S W Map D → Type 0 = λ c. replayed operations way c ≡ Some c.state in
      let is_b' : replay s d st b.journal ≡ Some b.state = subst P (is_rebased a b base) is_b in
      let same = same_turns s d alone_a.0 alone_b.0 st a.state b.state (ap (replay s d st) (sym alone_a.1) ∙ is_a) (ap (replay s d st) (sym alone_b.1) ∙ is_b') end_a end_b in
      let journals : a.journal ≡ b.journal = alone_a.1 ∙ ap turns_of same.0 ∙ sym alone_b.1 in
      let book : CoreState S W Map → List Event → BookValue S W Map D = λ m es. record a { state = m; journal = es } in
      ap (λ m. book m a.journal) same.1 ∙ ap (book b.state) journals ∙ sym (is_rebased a b base)
