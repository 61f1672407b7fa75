-- Turns of a worker, by what it does at the book.
use Rattle.std.proofs.Common.{◌≡◌, ℕ, ◌<◌, Bool, true, false, [], ◌∷◌, ◌++◌, length, refl, sym, ap, ◌∙◌, subst}
use Rattle.std.specs.Prelude.{Some, MatchBool}
use Rattle.std.proofs.lemmas.List.{append-nil}
use Rattle.semiring_laws.specs.Semiring.{Operations}
use Rattle.saturation_laws.specs.declared.event.Event.{Event}
use Rattle.saturation_laws.specs.declared.event.Event.TheVariants.{Take, Settle, GiveBack}
use Rattle.saturation_laws.specs.Books.{BookValue, Makes, IsClosed, replayed}
use Rattle.seat_lock.specs.declared.view.View.{View}
use Rattle.seat_lock.specs.declared.view.Stage.TheVariants.{Turn}
use Rattle.seat_lock.specs.Queue.{FitsView, at_stage}
use Rattle.seat_lock.specs.Passes.{own_number, Grown, Gave}
use Rattle.worker_pool.specs.declared.shared.Origin.{Origin}
use Rattle.worker_pool.specs.declared.asked.Asked.{Asked}
use Rattle.worker_pool.specs.declared.asked.Asked.TheVariants.{Idle, Closed, Memory}
use Rattle.worker_pool.specs.declared.asked.Asked.TheVariants.{Hand as InHand}
use Rattle.saturation_laws.specs.States.{seat_of}
use Rattle.worker_pool.specs.Origins.{origin_of}
use Rattle.worker_pool.specs.Steps.{BookAsked}
use Rattle.worker_pool.specs.Turns.{Keeps, HasMore, HasAsked, HasSettled}
use Rattle.worker_pool.proofs.PassLemmas.{over_base, grown, has_more, keeps, holds_hand, closed_after}
use Rattle.saturation_laws.specs.Ways.{Way}

module _ {S W Map D : Type 0} (operations : S → Operations W Map) (way : Way S W Map D) (b0 b1 : BookValue S W Map D) where
  made_base : (e : Event) → Makes operations way b0 e b1 → origin_of b1 ≡ origin_of b0
  made_base e made = ap origin_of made.2

  made_journal : (e : Event) → Makes operations way b0 e b1 → b1.journal ≡ b0.journal ++ e ∷ []
  made_journal e made = ap (λ (b : BookValue S W Map D). b.journal) made.2

  same_base : b1 ≡ b0 → origin_of b1 ≡ origin_of b0
  same_base same = ap origin_of same

  same_journal : b1 ≡ b0 → b1.journal ≡ b0.journal ++ []
  same_journal same = ap (λ (b : BookValue S W Map D). b.journal) same ∙ sym (append-nil b0.journal)

  module _ (v h : View (Origin S D W Map) Event) (t : ℕ) (some : 0 < length v.claims) (fits : FitsView seat_of v (origin_of b0) b0.journal) (turn : h ≡ at_stage (Turn t b0.journal) v) where
    -- a turn with one event
    pub event_grown : (e : Event) → seat_of e ≡ own_number v.claims → Makes operations way b0 e b1 → Grown seat_of h b1.journal
    event_grown e own made = grown v h t b0 b1 (e ∷ []) some fits turn (made_base e made) (made_journal e made) (own, tt)

    same_grown : b1 ≡ b0 → Grown seat_of h b1.journal
    same_grown same = grown v h t b0 b1 [] some fits turn (same_base same) (same_journal same) tt

    pub ask_grown : (a : Asked S D W Map) → BookAsked operations way b0 (own_number v.claims) a b1 → Grown seat_of h b1.journal
    ask_grown (InHand hand system direction) k = event_grown (Take (own_number v.claims) k.0.0) refl k.0.1
    ask_grown Idle k = same_grown k
    ask_grown Closed k = same_grown k.0
    ask_grown Memory k = same_grown k

    pub settle_grown : (b : Bool) → MatchBool b (Makes operations way b0 (Settle (own_number v.claims)) b1) (Makes operations way b0 (GiveBack (own_number v.claims)) b1) → Grown seat_of h b1.journal
    settle_grown true made = event_grown (Settle (own_number v.claims)) refl made
    settle_grown false made = event_grown (GiveBack (own_number v.claims)) refl made

    module _ (w : View (Origin S D W Map) Event) (gave : Gave h b1.journal w) where
      pub event_more : (e : Event) → seat_of e ≡ own_number v.claims → Makes operations way b0 e b1 → HasMore (e ∷ []) v w
      event_more e own made = has_more v h t b0 b1 (e ∷ []) some fits turn (made_base e made) (made_journal e made) (own, tt) w gave

      same_more : b1 ≡ b0 → HasMore [] v w
      same_more same = has_more v h t b0 b1 [] some fits turn (same_base same) (same_journal same) tt w gave

      pub event_keeps : (e : Event) → seat_of e ≡ own_number v.claims → Makes operations way b0 e b1 → Keeps v w
      event_keeps e own made = keeps v h t b0 b1 (e ∷ []) some fits turn (made_base e made) (made_journal e made) (own, tt) w gave

      same_keeps : b1 ≡ b0 → Keeps v w
      same_keeps same = keeps v h t b0 b1 [] some fits turn (same_base same) (same_journal same) tt w gave

      pub has_asked : replayed operations way b1 ≡ Some b1.state → (a : Asked S D W Map) → BookAsked operations way b0 (own_number v.claims) a b1 → HasAsked operations way a v w
      has_asked replays (InHand hand system direction) k =
          let e : Event = Take (own_number v.claims) k.0.0 in (
            (k.0.0, event_more e refl k.0.1),
            k.1,
            holds_hand v h t b0 b1 (e ∷ []) some fits turn (made_base e k.0.1) (made_journal e k.0.1) (refl, tt) w gave operations way hand.jobs hand.goals k.2,
            k.3,
            over_base v b0 some fits system.now direction k.4,
          )
      has_asked replays Idle k = same_more k
      has_asked replays Closed k = (
        same_more k.0,
        closed_after v h t b0 b1 [] some fits turn (same_base k.0) (same_journal k.0) tt w gave operations way replays (subst IsClosed (sym k.0) k.1),
      )
      has_asked replays Memory k = same_more k

      pub ask_keeps : (a : Asked S D W Map) → BookAsked operations way b0 (own_number v.claims) a b1 → Keeps v w
      ask_keeps (InHand hand system direction) k = event_keeps (Take (own_number v.claims) k.0.0) refl k.0.1
      ask_keeps Idle k = same_keeps k
      ask_keeps Closed k = same_keeps k.0
      ask_keeps Memory k = same_keeps k

      pub has_settled : (b : Bool) → MatchBool b (Makes operations way b0 (Settle (own_number v.claims)) b1) (Makes operations way b0 (GiveBack (own_number v.claims)) b1) → HasSettled b v w
      has_settled true made = event_more (Settle (own_number v.claims)) refl made
      has_settled false made = event_more (GiveBack (own_number v.claims)) refl made

      pub settle_keeps : (b : Bool) → MatchBool b (Makes operations way b0 (Settle (own_number v.claims)) b1) (Makes operations way b0 (GiveBack (own_number v.claims)) b1) → Keeps v w
      settle_keeps true made = event_keeps (Settle (own_number v.claims)) refl made
      settle_keeps false made = event_keeps (GiveBack (own_number v.claims)) refl made
