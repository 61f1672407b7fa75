-- That one worker closes a book.
use Rattle.std.proofs.Common.{◌≡◌, ℕ, suc, zero, ◌<◌, List, [], ◌∷◌, ◌++◌, length, set, refl, sym, ap, subst, arith}
use Rattle.std.specs.Prelude.{IsTrue, Option, Some, None, option_map}
use Rattle.std.proofs.lemmas.List.{get_or-set_same}
use Rattle.wpds_base.specs.Limits.{most_seats}
use Rattle.semiring_laws.specs.Semiring.{Operations, IsSemiring}
use Rattle.weighted_automata.specs.declared.place.Place.{Place}
use Rattle.pushdown_rules.specs.Pushdown.{Pushdown, IsSystem}
use Rattle.saturation_laws.specs.declared.event.Event.TheVariants.{Take, Settle}
use Rattle.saturation_laws.specs.declared.holding.Holding.{Holding}
use Rattle.saturation_laws.specs.declared.opening.Opening.{Opening}
use Rattle.saturation_laws.specs.States.{CoreState, hand_at, settle}
use Rattle.saturation_laws.specs.Books.{BookValue, IsClosed, IsBook}
use Rattle.saturation_laws.specs.Ways.{Way, IsLawful}
use Rattle.saturation_laws.proofs.CallerLemmas.{after, taken, book_from}
use Rattle.saturation_core.specs.Calls.{TakesAndSettles}
use Rattle.worker_pool.specs.Closing.{IsClosedAlone, just_opened}
use Rattle.saturation_core.proofs.CallerLemmas.{hand_for}
use Rattle.worker_pool.proofs.TurnLemmas.{IsUnderWay, turns_left, under_way, turn_keeps, turn_falls}
use Rattle.worker_pool.proofs.ErrandLemmas.{alone_seats}

some_seats : (n : ℕ) → n ≡ most_seats → 0 < n
some_seats n is = subst (λ m. 0 < m) (sym is) (omega arith)

falls_below : (m n k : ℕ) → m < n → n < suc k → m < k
falls_below m n k less within = omega arith

module _ {S W Map D : Type 0} (operations : S → Operations W Map) (way : Way S W Map D) where
  -- seat 0 can take what waits first, and settle what it gives
  can_turn : (b : BookValue S W Map D) (x : Place) (queue : List Place) → 0 < length b.state.hands → hand_at 0 b.state.hands ≡ None → b.state.queue ≡ x ∷ queue
      → (new : BookValue S W Map D) × TakesAndSettles operations way 0 b new
  can_turn b x queue within none front =
      let s = operations b.system.semiring in
      let d = way.tables b.direction b.system in
      let h : Holding S W Map = hand_for s d x b.state in
      let hands : List (Option (Holding S W Map)) = set b.state.hands 0 (Some h) in
      let mid : BookValue S W Map D = after b queue hands (b.journal ++ Take 0 x ∷ []) in
      let st : CoreState S W Map = settle s d 0 h mid.state in
      let out : hand_at 0 hands ≡ Some h = get_or-set_same b.state.hands 0 (Some h) None within in
      let new : BookValue S W Map D = record mid { state = st; journal = mid.journal ++ Settle 0 ∷ [] } in
      let took = taken operations way b 0 x queue hands (b.journal ++ Take 0 x ∷ []) within none front h.jobs refl refl refl in
      (new, (x, mid, took, (st, ap (option_map (λ g. settle s d 0 g mid.state)) out, refl)))

module _ {S W Map D : Type 0} (operations : S → Operations W Map) (laws : (x : S) → IsSemiring (operations x)) (way : Way S W Map D)
    (direction : IsLawful operations way) where
  -- where fewer turns than this are left, they lead to a closed book
  turns_end : (entry : BookValue S W Map D) (fuel : ℕ) (b : BookValue S W Map D) → IsUnderWay operations way entry b → turns_left operations way b < fuel
      → (c : BookValue S W Map D) × IsUnderWay operations way entry c × IsClosed c
  turns_end entry zero b under few = absurd (omega (arith, few))
  turns_end entry (suc fuel) b under few =
      elim b.state.queue as (λ q. b.state.queue ≡ q → (c : BookValue S W Map D) × IsUnderWay operations way entry c × IsClosed c) [
        | [] ↦ λ empty. (b, under, (empty, under.free))
        | x ∷ queue ↦ λ front.
            let turn = can_turn operations way b x queue (some_seats (length b.state.hands) under.book.lock.shape.seats) (under.free 0) front in
            let falls = turn_falls operations way laws direction entry b turn.0 under turn.1 in
            turns_end entry fuel turn.0 (turn_keeps operations way laws direction entry b turn.0 under turn.1)
            (falls_below (turns_left operations way turn.0) (turns_left operations way b) fuel falls few)
      ] refl

  pub closes : (b : BookValue S W Map D) → IsBook operations way b → b.journal ≡ [] → (c : BookValue S W Map D) × IsClosedAlone operations way b c
  closes b is none =
      let end = turns_end b (suc (turns_left operations way b)) b (under_way operations way b is none) (omega arith) in (
        end.0,
        record {
          base = end.1.base;
          book = end.1.book;
          closed = end.2;
          alone = end.1.alone;
          seats = λ workers count. alone_seats workers end.0.journal count.0 end.1.alone;
        },
      )

  pub opens : (p : Pushdown S W Map) (d : D) (o : Opening) → IsSystem operations p → IsTrue (way.fits_opening d p o) → IsBook operations way (just_opened operations way p d o)
  opens p d o system fits = book_from operations laws way direction (just_opened operations way p d o) system fits refl
