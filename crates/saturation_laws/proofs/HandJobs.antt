-- A hand that is out can be worked on.
use Rattle.std.proofs.Common.{◌≡◌, inl, inr, ℕ, List, [], ◌∷◌, refl, sym, subst}
use Rattle.std.specs.Prelude.{Option, None, Some, IsTrue, IfSome, All}
use Rattle.std.specs.List.{AllByRecursion}
use Rattle.std.proofs.lemmas.List.Elements.{All-from_recursion}
use Rattle.semiring_laws.specs.Semiring.{Operations, IsSemiring, Fits}
use Rattle.weighted_automata.specs.declared.place.Place.{Place}
use Rattle.weighted_automata.specs.declared.transitions.Entry.{Entry}
use Rattle.saturation_laws.specs.declared.job.Job.{Job}
use Rattle.saturation_laws.specs.declared.holding.Holding.{Holding}
use Rattle.saturation_laws.specs.Jobs.{Tables, row_of, InputsFit}
use Rattle.wpds_base.specs.Lists.{IsIn}
use Rattle.saturation_laws.specs.States.{CoreState, hand_at}
use Rattle.saturation_laws.specs.Invariants.{LockInvariant}
use Rattle.saturation_laws.proofs.ValueLemmas.{worth_fits}
use Rattle.saturation_laws.proofs.ListMembers.{in_present}

pub all_of : {X : Type 0} (P : X → Type 0) (xs : List X) → ((x : X) → IsIn x xs → P x) → AllByRecursion P xs
all_of P [] each = tt
all_of P (x ∷ xs) each = (each x (inl refl), all_of P xs (λ y h. each y (inr h)))

module _ {S W Map : Type 0} {s : Operations W Map} (laws : IsSemiring s) (value : List ℕ → W) (fits_value : (run : List ℕ) → Fits s (value run))
    (runs : Place → List ℕ → Type 0) (d : Tables S W Map) (opening : List (Entry S W Map)) where
  if_fits : (i : Option (Entry S W Map)) → ((t : Entry S W Map) → i ≡ Some t → Fits s t.weight) → IfSome i (λ t. Fits s t.weight)
  if_fits None each = tt
  if_fits (Some t) each = each t refl

  -- the jobs of a hand are rows, and their inputs fit
  pub hand_works : (st : CoreState S W Map) → LockInvariant s value runs d opening st → (seat : ℕ) (h : Holding S W Map) → hand_at seat st.hands ≡ Some h
      → All (λ j. IsTrue (d.rows (row_of j))) h.jobs × All (InputsFit s) h.jobs
  hand_works st inv seat h out =
      let hand = inv.hands seat h out in
      let P : W → Type 0 = Fits s in
      let fits : (j : Job S W Map) → IsIn j h.jobs → InputsFit s j = λ j in'. record {
        first = if_fits j.first (λ t e. let sound = (hand.jobs j in').inputs t (inl e) in subst P (sym sound.are_runs.weight) (worth_fits laws value fits_value _));
        second = if_fits j.second (λ t e. let sound = (hand.jobs j in').inputs t (inr e) in subst P (sym sound.are_runs.weight) (worth_fits laws value fits_value _));
      } in (
        All-from_recursion (λ j. IsTrue (d.rows (row_of j))) h.jobs (all_of (λ j. IsTrue (d.rows (row_of j))) h.jobs (λ j in'. (hand.jobs j in').row)),
        All-from_recursion (InputsFit s) h.jobs (all_of (InputsFit s) h.jobs fits),
      )

  -- each weight of the list fits
  pub transitions_fit : (st : CoreState S W Map) → LockInvariant s value runs d opening st → All (λ t. Fits s t.weight) st.transitions
  transitions_fit st inv =
      let P : W → Type 0 = Fits s in
      All-from_recursion (λ t. Fits s t.weight) st.transitions (all_of (λ t. Fits s t.weight) st.transitions (λ t in'.
      subst P (sym (inv.sound t (in_present st.transitions t inv.shape.places in')).are_runs.weight) (worth_fits laws value fits_value _)))
