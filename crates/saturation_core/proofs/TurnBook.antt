-- What a book is after a seat has taken a transition and settled it in place.
use Rattle.std.proofs.Common.{◌≡◌, ℕ, ◌+◌, ◌<◌, ◌≤◌, List, [], ◌∷◌, ◌++◌, length, map, get_or, drop, set, suc, zero, refl, sym, ap, ◌∙◌, arith}
use Rattle.std.specs.Prelude.{All, Option, None, Some, option_map, slice_set}
use Rattle.std.specs.List.{AllByRecursion}
use Rattle.std.proofs.lemmas.List.{at_drop_more, get_or-set_same}
use Rattle.std.proofs.lemmas.List.Elements.{All-from_recursion}
use Rattle.semiring_laws.specs.Semiring.{Operations, IsSemiring}
use Rattle.weighted_automata.specs.declared.place.Place.{Place}
use Rattle.saturation_laws.specs.declared.job.Job.{Job}
use Rattle.saturation_laws.specs.declared.holding.Holding.{Holding}
use Rattle.saturation_laws.specs.Jobs.{Tables}
use Rattle.saturation_laws.specs.States.{CoreState, Change, hand_at, jobs_at, apply, apply_all, change_of, apply_jobs, free, settle}
use Rattle.saturation_laws.specs.declared.event.Event.{Event}
use Rattle.saturation_laws.specs.declared.event.Event.TheVariants.{Take, Settle}
use Rattle.saturation_laws.specs.Books.{BookValue, Makes, IsBook}
use Rattle.saturation_laws.specs.Ways.{Way, IsLawful}
use Rattle.weighted_automata.specs.Entries.{entry_at}
use Rattle.saturation_laws.proofs.CallerLemmas.{after, taken, event_keeps}
use Rattle.saturation_core.specs.declared.found.Found.{Found}
use Rattle.saturation_core.specs.Seats.{hands_out}
use Rattle.saturation_core.specs.private.Plans.{changes_with}
use Rattle.saturation_core.specs.private.Steps.{IsFitChange, with_hands}
use Rattle.saturation_core.proofs.PutPlan.{earlier_more}
use Rattle.saturation_core.proofs.SettleBook.{changes_fit}

module _ {S W Map : Type 0} (s : Operations W Map) where
  -- one change more
  pub change_more : (cs : List (Change W)) (i : ℕ) (c : Change W) (now new all : CoreState S W Map) → i < length cs → c ≡ get_or cs i c
      → apply_all s (drop i cs) now ≡ all → new ≡ apply s c now → apply_all s (drop (i + 1) cs) new ≡ all
  change_more cs i c now new all within read was made =
      ap (apply_all s (drop (i + 1) cs)) (made ∙ ap (λ e. apply s e now) read)
      ∙ sym (at_drop_more (λ es. apply_all s es now) cs i c within) ∙ was

  -- the changes of jobs, one after another
  pub apply_listed : (d : Tables S W Map) (js : List (Job S W Map)) (st : CoreState S W Map) → apply_all s (map (change_of s d) js) st ≡ apply_jobs s d js st
  apply_listed d [] st = refl
  apply_listed d (j ∷ js) st = apply_listed d js (apply s (change_of s d j) st)

-- parts that are earlier nodes stay so
pub fit_more : {W Map : Type 0} (s : Operations W Map) (m n : ℕ) (c : Change W) → m ≤ n → IsFitChange s m c → IsFitChange s n c
fit_more s m n c le fit = record { weight = fit.weight; first = earlier_more m n le c.first fit.first; second = earlier_more m n le c.second fit.second; part = fit.part }

module _ {S W Map : Type 0} where
  all_changes : (s : Operations W Map) (d : Tables S W Map) (m : ℕ) (js : List (Job S W Map)) → AllByRecursion (IsFitChange s m) (changes_with js (map d.candidate js))
      → AllByRecursion (IsFitChange s m) (map (change_of s d) js)
  all_changes s d m [] fit = tt
  all_changes s d m (j ∷ js) fit = (fit.0, all_changes s d m js fit.1)

  -- a seat without a hand that gets one and gives it away
  pub set_back : (hs : List (Option (Holding S W Map))) (k : ℕ) (o : Option (Holding S W Map)) → hand_at k hs ≡ None → set (set hs k o) k None ≡ hs
  set_back [] k o e = refl
  set_back (g ∷ hs) zero o e = ap (λ z. z ∷ hs) (sym e)
  set_back (g ∷ hs) (suc k) o e = ap (λ zs. g ∷ zs) (set_back hs k o e)

  -- no seat has a hand
  pub nobody_out : (hs : List (Option (Holding S W Map))) → ((k : ℕ) → hand_at k hs ≡ None) → hands_out hs ≡ 0
  nobody_out [] none = refl
  nobody_out (None ∷ hs) none = omega (arith, nobody_out hs (λ k. none (suc k)))
  nobody_out (Some h ∷ hs) none = let e : Some h ≡ None = none 0 in cc

module _ {S W Map D : Type 0} (operations : S → Operations W Map) (way : Way S W Map D) (b : BookValue S W Map D) (seat : ℕ) (x : Place) (queue : List Place)
    (js : List (Job S W Map)) where
  -- the hand that the seat has meanwhile, and the book
  abbrev pub hand_meanwhile : Holding S W Map
  hand_meanwhile = record { place = x; jobs = js }

  abbrev pub hands_meanwhile : List (Option (Holding S W Map))
  hands_meanwhile = slice_set b.state.hands seat (Some hand_meanwhile)

  abbrev pub meanwhile : BookValue S W Map D
  meanwhile = after b queue hands_meanwhile (b.journal ++ Take seat x ∷ [])

  module _ (within : seat < length b.state.hands) (none : hand_at seat b.state.hands ≡ None) (front : b.state.queue ≡ x ∷ queue)
      (listed : js ≡ jobs_at (operations b.system.semiring) (way.tables b.direction b.system) (entry_at x b.state.transitions) b.state.transitions) where
    pub took : Makes operations way b (Take seat x) meanwhile
    took = taken operations way b seat x queue hands_meanwhile (b.journal ++ Take seat x ∷ []) within none front js listed refl refl

    hand_is : hand_at seat hands_meanwhile ≡ Some hand_meanwhile
    hand_is = get_or-set_same b.state.hands seat (Some hand_meanwhile) None within

    pub settled_in_place : (old new : Found S W Map) (journal : List Event) → with_hands old hands_meanwhile ≡ meanwhile.state
        → with_hands new hands_meanwhile ≡ apply_jobs (operations b.system.semiring) (way.tables b.direction b.system) js (with_hands old hands_meanwhile)
        → journal ≡ (b.journal ++ Take seat x ∷ []) ++ Settle seat ∷ []
        → Makes operations way meanwhile (Settle seat) (record b { state = with_hands new b.state.hands; journal = journal })
    settled_in_place old new journal same made es =
        let s = operations b.system.semiring in
        let d = way.tables b.direction b.system in
        let st : CoreState S W Map = with_hands new b.state.hands in
        let is : settle s d seat hand_meanwhile meanwhile.state ≡ st =
        ap (λ m. free s d seat (apply_jobs s d js m)) (sym same) ∙ ap (free s d seat) (sym made) ∙ ap (with_hands new) (set_back b.state.hands seat (Some hand_meanwhile) none) in
        (st, ap (option_map (λ h. settle s d seat h meanwhile.state)) hand_is ∙ ap Some is, ap (λ (es : List Event). record b { state = st; journal = es }) es)

    module _ (laws : (z : S) → IsSemiring (operations z)) (direction : IsLawful operations way) (is : IsBook operations way b) where
      pub book_meanwhile : IsBook operations way meanwhile
      book_meanwhile = event_keeps operations laws way direction b is (Take seat x) meanwhile took

      -- what the jobs change fits
      pub jobs_change : All (IsFitChange (operations b.system.semiring) (length b.state.nodes)) (map (change_of (operations b.system.semiring) (way.tables b.direction b.system)) js)
      jobs_change =
          let s = operations b.system.semiring in
          let d = way.tables b.direction b.system in
          let m = length b.state.nodes in
          All-from_recursion (IsFitChange s m) (map (change_of s d) js)
          (all_changes s d m js (changes_fit operations laws way direction meanwhile book_meanwhile seat hand_meanwhile hand_is js (λ j there. there)))
