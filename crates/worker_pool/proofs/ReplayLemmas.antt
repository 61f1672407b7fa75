-- What events of other seats leave as it is, and what a seat's own events make of its hand.
use Rattle.std.proofs.Common.{◌≡◌, ◌≢◌, ℕ, eq-eqb, ne_eqb, Bool, true, cond, inl, inr, List, [], ◌∷◌, set, refl, sym, ap, ◌∙◌, subst}
use Rattle.std.specs.Prelude.{Option, Some, None, is_none, option_map, option_and_then}
use Rattle.std.specs.List.{AllByRecursion}
use Rattle.std.proofs.lemmas.Bool.{cases_eq}
use Rattle.std.proofs.lemmas.List.Elements.{All-from_recursion}
use Rattle.std.proofs.lemmas.Option.{same_Some}
use Rattle.semiring_laws.specs.Semiring.{Operations}
use Rattle.saturation_laws.specs.declared.event.Event.{Event}
use Rattle.saturation_laws.specs.declared.event.Event.TheVariants.{Take, Settle, GiveBack}
use Rattle.saturation_laws.specs.declared.holding.Holding.{Holding}
use Rattle.saturation_laws.specs.Jobs.{Tables}
use Rattle.saturation_laws.specs.States.{CoreState, AreOfOthers, seat_of, hand_at, give_back, step, replay}
use Rattle.seat_lock.specs.Queue.{of_pass}
use Rattle.worker_pool.specs.Events.{free_after, is_ended}
use Rattle.saturation_laws.proofs.CallerLemmas.{step_leaves}
use Rattle.saturation_core.proofs.CallerLemmas.{hand_taken}
use Rattle.worker_pool.proofs.TurnLemmas.{set_none, settled_hands}

-- the first event is of the seat, or it is not
pub of_pass_case : (F : List Event → Type 0) (n : ℕ) (e : Event) (es : List Event) → (seat_of e ≡ n → F (e ∷ of_pass seat_of n es)) → (seat_of e ≢ n → F (of_pass seat_of n es)) → F (of_pass seat_of n (e ∷ es))
of_pass_case F n e es hit miss = elim (cases_eq (seat_of e) n) [
  | inl same ↦ subst (λ b. F (cond b (e ∷ of_pass seat_of n es) (of_pass seat_of n es))) (sym (eq-eqb (seat_of e) n same)) (hit same)
  | inr other ↦ subst (λ b. F (cond b (e ∷ of_pass seat_of n es) (of_pass seat_of n es))) (sym (ne_eqb (seat_of e) n other)) (miss other)
]

-- none of the events is the seat's
none_own : (n : ℕ) (es : List Event) → of_pass seat_of n es ≡ [] → AllByRecursion (λ e. n ≢ seat_of e) es
none_own n [] none = tt
none_own n (e ∷ es) none =
    of_pass_case (λ fs. fs ≡ [] → (n ≢ seat_of e) × AllByRecursion (λ x. n ≢ seat_of x) es) n e es
    (λ same none. absurd cc)
    (λ other none. ((λ at. other (sym at)), none_own n es none)) none

pub are_of_others : (n : ℕ) (es : List Event) → of_pass seat_of n es ≡ [] → AreOfOthers n es
are_of_others n es none = All-from_recursion (λ e. n ≢ seat_of e) es (none_own n es none)

module _ {S W Map : Type 0} (s : Operations W Map) (d : Tables S W Map) where
  given_hands : (seat : ℕ) (st new : CoreState S W Map) (o : Option (Holding S W Map)) → option_map (λ h. give_back s d seat h st) o ≡ Some new → new.hands ≡ set st.hands seat None
  given_hands seat st new None e = cc
  given_hands seat st new (Some h) e = ap (λ (m : CoreState S W Map). m.hands) (sym (same_Some (give_back s d seat h st) new e))

  -- an event of a seat decides whether it has a hand
  own_decides : (e : Event) (st new : CoreState S W Map) (b : Bool) (es : List Event) → step s d st e ≡ Some new → free_after b (e ∷ es) ≡ free_after (is_none (hand_at (seat_of e) new.hands)) es
  own_decides (Take seat x) st new b es legal = ap (λ o. free_after (is_none o) es) (sym (hand_taken s d seat x st new legal))
  own_decides (Settle seat) st new b es legal = ap (λ o. free_after (is_none o) es) (sym (ap (hand_at seat) (settled_hands s d seat st new (hand_at seat st.hands) legal) ∙ set_none st.hands seat))
  own_decides (GiveBack seat) st new b es legal = ap (λ o. free_after (is_none o) es) (sym (ap (hand_at seat) (given_hands seat st new (hand_at seat st.hands) legal) ∙ set_none st.hands seat))

  -- a seat's own events say whether it has a hand
  pub tracks : (n : ℕ) (es : List Event) (st new : CoreState S W Map) → replay s d st es ≡ Some new → is_none (hand_at n new.hands) ≡ free_after (is_none (hand_at n st.hands)) (of_pass seat_of n es)
  tracks n [] st new h = ap (λ (m : CoreState S W Map). is_none (hand_at n m.hands)) (sym (same_Some st new h))
  tracks n (e ∷ es) st new h =
      elim (step s d st e) as (λ o. step s d st e ≡ o → option_and_then (λ m. replay s d m es) o ≡ Some new → is_none (hand_at n new.hands) ≡ free_after (is_none (hand_at n st.hands)) (of_pass seat_of n (e ∷ es))) [
        | None ↦ λ at h. cc
        | Some m ↦ λ at h.
            let F : List Event → Type 0 = λ fs. is_none (hand_at n new.hands) ≡ free_after (is_none (hand_at n st.hands)) fs in
            let rest = tracks n es m new h in
            of_pass_case F n e es
            (λ same. rest ∙ ap (λ k. free_after (is_none (hand_at k m.hands)) (of_pass seat_of n es)) (sym same) ∙ sym (own_decides e st m (is_none (hand_at n st.hands)) (of_pass seat_of n es) at))
            (λ other. rest ∙ ap (λ o. free_after (is_none o) (of_pass seat_of n es)) (step_leaves s d e st m at n (λ is. other (sym is))))
      ] refl h

none_from : {X : Type 0} (o : Option X) → is_none o ≡ true → o ≡ None
none_from None h = refl
none_from (Some x) h = cc

module _ {S W Map : Type 0} (s : Operations W Map) (d : Tables S W Map) where
  -- a seat that has ended each turn has no hand
  pub ended_free : (n : ℕ) (es : List Event) (st new : CoreState S W Map) → hand_at n st.hands ≡ None → replay s d st es ≡ Some new → is_ended (of_pass seat_of n es) ≡ true → hand_at n new.hands ≡ None
  ended_free n es st new free h ended =
      none_from (hand_at n new.hands) (tracks s d n es st new h ∙ ap (λ o. free_after (is_none o) (of_pass seat_of n es)) free ∙ ended)
