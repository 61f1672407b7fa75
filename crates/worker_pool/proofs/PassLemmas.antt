-- What a pass knows after a turn at a shared book.
use Rattle.std.proofs.Common.{◌≡◌, ℕ, ◌<◌, List, [], ◌++◌, length, sym, ap, ap₂, ◌∙◌, subst}
use Rattle.std.specs.Prelude.{Option, Some}
use Rattle.weighted_automata.specs.declared.transitions.Entry.{Entry}
use Rattle.std.proofs.lemmas.Option.{same_Some}
use Rattle.std.proofs.lemmas.List.{append-nil, append_cancel_left}
use Rattle.std.proofs.lemmas.List.Elements.{filter-append}
use Rattle.std.specs.Prelude.{eqb}
use Rattle.semiring_laws.specs.Semiring.{Operations}
use Rattle.pushdown_rules.specs.Pushdown.{Pushdown}
use Rattle.saturation_laws.specs.declared.event.Event.{Event}
use Rattle.saturation_laws.specs.declared.job.Job.{Job}
use Rattle.saturation_laws.specs.States.{AreOfOthers, seat_of}
use Rattle.saturation_laws.specs.Books.{BookValue, IsClosed, replayed}
use Rattle.saturation_core.specs.HandsOut.{HasOut, IsLater}
use Rattle.seat_lock.specs.declared.view.View.{View}
use Rattle.seat_lock.specs.declared.view.Stage.TheVariants.{Turn}
use Rattle.seat_lock.specs.Queue.{Each, of_pass, FitsView, opened_by, at_stage}
use Rattle.seat_lock.specs.Passes.{own_number, own_entries, joined_in, Grown, Gave}
use Rattle.seat_lock.proofs.CallerLemmas.{own-after, gave-new, each-own, grown-by, seen-grows}
use Rattle.worker_pool.specs.declared.shared.Origin.{Origin}
use Rattle.worker_pool.specs.Origins.{origin_of, state_after, IsClosedAfter}
use Rattle.worker_pool.specs.Steps.{IsOverBook}
use Rattle.worker_pool.proofs.ReplayLemmas.{are_of_others}
use Rattle.worker_pool.specs.Turns.{Keeps, HasMore, HoldsHand, IsOver}
use Rattle.saturation_laws.specs.Ways.{Way}

nothing_more : {X : Type 0} (xs ys : List X) → xs ++ ys ≡ xs → ys ≡ []
nothing_more xs ys h = append_cancel_left xs ys [] (h ∙ sym (append-nil xs))

module _ {S W Map D : Type 0} (v : View (Origin S D W Map) Event) (b : BookValue S W Map D) (some : 0 < length v.claims) (fits : FitsView seat_of v (origin_of b) b.journal) where
  -- the journal has just the events of the pass that it made
  pub own_of : of_pass seat_of (own_number v.claims) b.journal ≡ own_entries v.claims
  own_of = each-own (λ c. of_pass seat_of c.0 b.journal ≡ c.1) v.claims some fits.2

  pub over_base : (p : Pushdown S W Map) (d : D) → IsOverBook b p d → IsOver v p d
  over_base p d over o is =
      let same : origin_of b ≡ o = same_Some (origin_of b) o (sym fits.0 ∙ is) in
      (over.0 ∙ ap (λ (z : Origin S D W Map). z.system) same, over.1 ∙ ap (λ (z : Origin S D W Map). z.direction) same)

  pub over_book : (p : Pushdown S W Map) (d : D) → IsOver v p d → IsOverBook b p d
  over_book p d over = over (origin_of b) fits.0

module _ {S W Map D : Type 0} (operations : S → Operations W Map) (way : Way S W Map D)
    (v : View (Origin S D W Map) Event) (b : BookValue S W Map D) (some : 0 < length v.claims) (fits : FitsView seat_of v (origin_of b) b.journal) where
  -- the next turn of a pass finds a later book, by events of others alone
  pub finds : (jobs : List (Job S W Map)) (goals : List (Option (Entry S W Map))) (k : HoldsHand operations way v jobs goals) → IsLater k.book fits.1.0 b × AreOfOthers (own_number v.claims) fits.1.0
  finds jobs goals k =
      let n = own_number v.claims in
      let rest = fits.1.0 in
      let book : Origin S D W Map → List Event → BookValue S W Map D = λ o es. record { system = o.system; direction = o.direction; opening = o.opening; state = b.state; journal = es } in
      let same : origin_of b ≡ origin_of k.book = same_Some (origin_of b) (origin_of k.book) (sym fits.0 ∙ k.based) in (
        ap (λ o. book o b.journal) same ∙ ap (book (origin_of k.book)) (sym fits.1.1 ∙ ap (λ es. es ++ rest) k.seen),
        are_of_others n rest
            (nothing_more (own_entries v.claims) (of_pass seat_of n rest)
            (ap (λ es. es ++ of_pass seat_of n rest) (sym k.own) ∙ sym (filter-append (λ e. eqb (seat_of e) n) v.seen rest) ∙ ap (of_pass seat_of n) fits.1.1 ∙ own_of v b some fits)),
      )

-- A turn of a pass, in which the book gets these events.
module _ {S W Map D : Type 0} (v h : View (Origin S D W Map) Event) (t : ℕ) (b0 b1 : BookValue S W Map D) (es : List Event)
    (some : 0 < length v.claims) (fits : FitsView seat_of v (origin_of b0) b0.journal) (turn : h ≡ at_stage (Turn t b0.journal) v)
    (base : origin_of b1 ≡ origin_of b0) (more : b1.journal ≡ b0.journal ++ es) (own : Each (λ e. seat_of e ≡ own_number v.claims) es) where
  pub based : h.base ≡ Some (origin_of b1)
  based = ap (λ (z : View (Origin S D W Map) Event). z.base) turn ∙ fits.0 ∙ ap Some (sym base)

  numbered : own_number h.claims ≡ own_number v.claims
  numbered = ap (λ (z : View (Origin S D W Map) Event). own_number z.claims) turn

  opened : opened_by h.stage ≡ b0.journal
  opened = ap (λ (z : View (Origin S D W Map) Event). opened_by z.stage) turn

  pub grown : Grown seat_of h b1.journal
  grown = let P : ℕ → Type 0 = λ n. Each (λ e. seat_of e ≡ n) es in grown-by seat_of h b0.journal b1.journal es opened more (subst P (sym numbered) own)

  module _ (w : View (Origin S D W Map) Event) (gave : Gave h b1.journal w) where
    pub has_more : HasMore es v w
    has_more =
        gave-new h w b1.journal es gave (more ∙ ap (λ z. z ++ es) (sym opened))
        ∙ ap (λ (z : View (Origin S D W Map) Event). own_entries z.claims ++ es) turn

    pub number_kept : own_number w.claims ≡ own_number v.claims
    number_kept = gave.3 ∙ numbered

    pub keeps : Keeps v w
    keeps = record {
      base = gave.0 ∙ ap (λ (z : View (Origin S D W Map) Event). z.base) turn;
      seen = seen-grows seat_of h v b0.journal b1.journal w fits.1 opened gave;
      number = number_kept;
      joined = gave.2 ∙ ap (λ (z : View (Origin S D W Map) Event). joined_in z.claims) turn;
    }

    pub own_is : of_pass seat_of (own_number w.claims) w.seen ≡ own_entries w.claims
    own_is =
        ap₂ (of_pass seat_of) number_kept (gave.1 ∙ more)
        ∙ own-after seat_of (own_number v.claims) b0.journal es own
        ∙ ap (λ z. z ++ es) (own_of v b0 some fits) ∙ sym has_more

    -- the hand that is out is the pass's
    pub holds_hand : (operations : S → Operations W Map) (way : Way S W Map D) (jobs : List (Job S W Map)) (goals : List (Option (Entry S W Map))) → HasOut operations way b1 (own_number v.claims) jobs goals → HoldsHand operations way w jobs goals
    holds_hand operations way jobs goals out = record {
      book = b1;
      based = gave.0 ∙ based;
      seen = gave.1;
      own = own_is;
      out = subst (λ n. HasOut operations way b1 n jobs goals) (sym number_kept) out;
    }

    module _ (operations : S → Operations W Map) (way : Way S W Map D) (replays : replayed operations way b1 ≡ Some b1.state) where
      replays_seen : state_after operations way (origin_of b1) w.seen ≡ Some b1.state
      replays_seen = ap (state_after operations way (origin_of b1)) gave.1 ∙ replays

      -- what was seen leads to a closed book
      pub closed_after : IsClosed b1 → (o : Origin S D W Map) → v.base ≡ Some o → IsClosedAfter operations way o w.seen
      closed_after closed o is =
          let same : origin_of b1 ≡ o = base ∙ same_Some (origin_of b0) o (sym fits.0 ∙ is) in
          (b1.state, ap (λ z. state_after operations way z w.seen) (sym same) ∙ replays_seen, closed.0, closed.1)
