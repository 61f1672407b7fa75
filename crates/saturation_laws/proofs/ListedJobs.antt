-- The jobs of a transition can be worked out where the transitions' weights fit, whether or not a book has them.
use Rattle.std.proofs.Common.{◌≡◌, inl, inr, ℕ, ◌+◌, ◌<◌, List, [], ◌∷◌, ◌++◌, length, map, take, get_or, refl, sym, ap, ◌∙◌, subst, append_assoc}
use Rattle.std.specs.Prelude.{Option, None, Some, IsTrue, IfSome, All}
use Rattle.std.specs.List.{AllByRecursion}
use Rattle.std.proofs.lemmas.Bool.{cond_both}
use Rattle.std.proofs.lemmas.Option.{same_Some}
use Rattle.std.proofs.lemmas.List.{map_more}
use Rattle.std.proofs.lemmas.List.Elements.{All-from_recursion, recursion_from_All}
use Rattle.semiring_laws.specs.Semiring.{Operations, Fits}
use Rattle.weighted_automata.specs.declared.place.Place.{Place}
use Rattle.weighted_automata.specs.declared.transitions.Entry.{Entry}
use Rattle.weighted_automata.specs.Entries.{entry_at, Present, HasDistinctPlaces}
use Rattle.weighted_automata.specs.Places.{same_place}
use Rattle.pushdown_rules.specs.Pushdown.{Pushdown}
use Rattle.saturation_laws.specs.declared.opening.Opening.{Opening}
use Rattle.saturation_laws.specs.declared.job.Job.{Job}
use Rattle.saturation_laws.specs.declared.view.JobView.{JobView}
use Rattle.saturation_laws.specs.Views.{seen, change_worth}
use Rattle.saturation_laws.specs.States.{Change, change_of}
use Rattle.saturation_laws.specs.Directions.{IsDirection}
use Rattle.saturation_laws.specs.Jobs.{Tables, row_of, InputsFit}
use Rattle.saturation_laws.proofs.HandJobs.{all_of}

-- the transition at a place has what all have
all_at : {S W Map : Type 0} (P : Entry S W Map → Type 0) (ts : List (Entry S W Map)) (x : Place) (t : Entry S W Map) → AllByRecursion P ts → entry_at x ts ≡ Some t → P t
all_at P [] x t all = λ e. cc
all_at P (u ∷ ts) x t all =
    cond_both (same_place u.place x) (Some u) (entry_at x ts) (λ o. o ≡ Some t → P t)
    (λ _ e. subst P (same_Some u t e) all.0)
    (λ _ e. all_at P ts x t all.1 e)

if_each : {X : Type 0} (P : X → Type 0) (o : Option X) → ((x : X) → o ≡ Some x → P x) → IfSome o P
if_each P None each = tt
if_each P (Some x) each = each x refl

module _ {S W Map : Type 0} {s : Operations W Map} {p : Pushdown S W Map} {o : Opening} {d : Tables S W Map} {places : List Place} {runs : Place → List ℕ → Type 0}
    (direction : IsDirection s p o d places runs) (ts : List (Entry S W Map)) (distinct : HasDistinctPlaces ts) (t : Entry S W Map) (here : Present ts t)
    (js : List (Job S W Map)) (listed : js ≡ d.jobs ts t) where
  -- they are rows
  pub listed_rows : All (λ j. IsTrue (d.rows (row_of j))) js
  listed_rows =
      let P : List (Job S W Map) → Type 0 = All (λ j. IsTrue (d.rows (row_of j))) in
      subst P (sym listed) (All-from_recursion (λ j. IsTrue (d.rows (row_of j))) (d.jobs ts t)
      (all_of (λ j. IsTrue (d.rows (row_of j))) (d.jobs ts t) (λ j there. (direction.jobs_are ts t j distinct here there).0.row)))

  -- and their inputs fit
  pub listed_inputs : All (λ u. Fits s u.weight) ts → All (InputsFit s) js
  listed_inputs fit =
      let P : List (Job S W Map) → Type 0 = All (InputsFit s) in
      let Q : Entry S W Map → Type 0 = λ u. Fits s u.weight in
      let each = recursion_from_All Q ts fit in
      subst P (sym listed) (All-from_recursion (InputsFit s) (d.jobs ts t) (all_of (InputsFit s) (d.jobs ts t) (λ j there.
      let drawn = (direction.jobs_are ts t j distinct here there).0 in
      record {
        first = if_each Q j.first (λ u is. all_at Q ts u.place u each (drawn.inputs u (inl is)));
        second = if_each Q j.second (λ u is. all_at Q ts u.place u each (drawn.inputs u (inr is)));
      })))

-- one more that is made of a list's items
pub made_more : {X Y : Type 0} (f : X → Y) (first old new : List Y) (xs : List X) (i : ℕ) (x : X) (y : Y) → i < length xs → x ≡ get_or xs i x
    → old ≡ first ++ map f (take i xs) → new ≡ old ++ y ∷ [] → y ≡ f x → new ≡ first ++ map f (take (i + 1) xs)
made_more f first old new xs i x y within read was made is =
    made ∙ ap (λ ys. ys ++ y ∷ []) was ∙ append_assoc first (map f (take i xs)) (y ∷ [])
    ∙ ap (λ z. first ++ (map f (take i xs) ++ z ∷ [])) (is ∙ ap f read)
    ∙ ap (λ ys. first ++ ys) (sym (map_more f xs i x within))

-- what a view of a job makes of what the job is worth
pub change_is : {S W Map : Type 0} (s : Operations W Map) (d : Tables S W Map) (v : JobView S W Map) (j : Job S W Map) (w : W) (c : Change W) → seen v ≡ j → w ≡ d.candidate j
    → c ≡ change_worth (seen v) w → c ≡ change_of s d j
change_is s d v j w c same worth is = is ∙ ap (λ i. change_worth i w) same ∙ ap (change_worth j) worth
