-- What a walk makes of weights that combine runs combines runs.
use Rattle.std.proofs.Common.{◌≡◌, inl, inr, ℕ, zero, suc, ◌-◌, ◌≤◌, [], ◌∷◌, List, length, sym, ap, ◌∙◌, subst, arith}
use Rattle.std.specs.Prelude.{Option, None, Some}
use Rattle.std.proofs.lemmas.Option.{slice_get_within}
use Rattle.wpds_base.specs.Lists.{IsIn}
use Rattle.semiring_laws.specs.Semiring.{Operations, IsSemiring, Fits}
use Rattle.pushdown_rules.specs.Configuration.{at_stack}
use Rattle.pushdown_rules.specs.Pushdown.{Pushdown, IsSystem}
use Rattle.pushdown_rules.specs.Values.{value_of}
use Rattle.pushdown_rules.specs.Answers.{Leads}
use Rattle.pushdown_rules.proofs.CallerLemmas.{weight_fits, value_fits}
use Rattle.config_patterns.specs.Edges.{edges_of}
use Rattle.config_patterns.specs.Membership.{PatternValue, has_member}
use Rattle.weighted_automata.specs.declared.place.Label.{Label}
use Rattle.weighted_automata.specs.declared.place.Label.TheVariants.{Symbol, Empty}
use Rattle.weighted_automata.specs.declared.place.Place.{Place}
use Rattle.weight_tables.specs.Entries.{weight_in}
use Rattle.weight_tables.specs.Tables.{TablesValue}
use Rattle.weight_tables.proofs.CallerLemmas.{place_fits}
use Rattle.walk_pairs.specs.declared.pairs.Stage.TheVariants.{Down, Before, Above}
use Rattle.walk_pairs.specs.Pairs.{pair_place, place_over, answer_place}
use Rattle.walk_pairs.specs.Reading.{ComesBefore, IsStand, IsStep, IsStateStand, IsItemSkip}
use Rattle.walk_pairs.proofs.CallerLemmas.{AllFit, stands_comes, skip_comes, comes_edge, comes_final}
use Rattle.value_laws.specs.Runs.{Sums}
use Rattle.value_laws.proofs.CallerLemmas.{sums_none, sums_combine, sums_within}
use Rattle.forward_value_laws.specs.Model.{Source, item, callee, Comes, Walks, IsSound}
use Rattle.forward_value_laws.proofs.CallerLemmas.{tops_sum, uncovered_top_sum, opens_runs, walks_on, walks_lead}
use Rattle.forward_value_search.specs.Places.{arrow, place_by}
use Rattle.forward_value_search.proofs.CallerLemmas.{item_number, one_source}
use Rattle.forward_value_walk.specs.Walking.{number, found_in, Stands, Hangs, IsMade, IsMadeAt}
use Rattle.forward_value_walk.specs.private.Opening.{IsCall}

module _ {S W Map : Type 0} {operations : S → Operations W Map} {p : Pushdown S W Map} (system : IsSystem operations p) (laws : IsSemiring (operations p.semiring)) (first wanted : PatternValue) where
  abbrev ours : Operations W Map
  ours = operations p.semiring

  abbrev Pair : ℕ → Source → List ℕ → Type 0
  Pair j from = Walks first.control first.items wanted.control wanted.items p j from

  abbrev Lead : List ℕ → Type 0
  Lead = Leads ours p (has_member first) (has_member wanted)

  none_at : (f : ℕ) (l : Label) (n : ℕ) → IsMadeAt ours p first wanted f l n ours.zero
  none_at zero (Symbol j) n = λ from is. sums_none laws (value_of ours p) (value_fits system laws) (Pair j from)
  none_at (suc zero) (Symbol j) n = tt
  none_at (suc (suc zero)) (Symbol k) l = sums_none laws (value_of ours p) (value_fits system laws) (Stands ours p first wanted k l)
  none_at (suc (suc (suc m))) (Symbol k) n = λ from is. sums_none laws (value_of ours p) (value_fits system laws) (Hangs ours p first wanted k from)
  none_at zero Empty n = sums_none laws (value_of ours p) (value_fits system laws) Lead
  none_at (suc m) Empty n = sums_none laws (value_of ours p) (value_fits system laws) Lead

  pub made_none : (x : Place) → IsMade ours p first wanted x ours.zero
  made_none x = none_at x.from x.label x.to

  joins_at : (f : ℕ) (l : Label) (n : ℕ) (v w : W) → IsMadeAt ours p first wanted f l n v → IsMadeAt ours p first wanted f l n w → IsMadeAt ours p first wanted f l n (ours.combine v w)
  joins_at zero (Symbol j) n v w one two = λ from is. sums_combine laws (value_of ours p) (value_fits system laws) (Pair j from) v w (one from is) (two from is)
  joins_at (suc zero) (Symbol j) n v w one two = tt
  joins_at (suc (suc zero)) (Symbol k) l v w one two = sums_combine laws (value_of ours p) (value_fits system laws) (Stands ours p first wanted k l) v w one two
  joins_at (suc (suc (suc m))) (Symbol k) n v w one two = λ from is. sums_combine laws (value_of ours p) (value_fits system laws) (Hangs ours p first wanted k from) v w (one from is) (two from is)
  joins_at zero Empty n v w one two = sums_combine laws (value_of ours p) (value_fits system laws) Lead v w one two
  joins_at (suc m) Empty n v w one two = sums_combine laws (value_of ours p) (value_fits system laws) Lead v w one two

  pub made_joins : (x : Place) (v w : W) → Fits ours v → Fits ours w → IsMade ours p first wanted x v → IsMade ours p first wanted x w → IsMade ours p first wanted x (ours.combine v w)
  made_joins x v w _ _ one two = joins_at x.from x.label x.to v w one two

  -- what runs of one kind are made of, where all of it is of another kind
  within : (Is Or : List ℕ → Type 0) → ((run : List ℕ) → Is run → Or run) → (w : W) → Sums ours (value_of ours p) Is w → Sums ours (value_of ours p) Or w
  within Is Or wider w sums = sums_within laws (value_of ours p) (value_fits system laws) Is Or wider w sums

  at_place : (x y : Place) (v w : W) → x ≡ y → w ≡ v → IsMade ours p first wanted y v → IsMade ours p first wanted x w
  at_place x y v w here is made = let P : Place → Type 0 = λ z. IsMade ours p first wanted z w in subst P (sym here) (subst (IsMade ours p first wanted y) (sym is) made)

  pub stand_made : (hand : W) (i a : ℕ) → IsMade ours p first wanted (pair_place Down i a) hand → (x : Place) (w : W) → IsStand hand wanted.items first.items i a x w → IsMade ours p first wanted x w
  stand_made hand i a made x w is =
      at_place x (pair_place Before is.item is.item_other) hand w is.place is.weight
      (within (Pair i (item a)) (Stands ours p first wanted is.item is.item_other)
      (λ run walks. record { state = i; state_first = a; comes = stands_comes wanted.items i is.item is.stands; comes_first = stands_comes first.items a is.item_other is.stands_other; walks = walks }) hand
      (made (item a) (item_number (length first.items) p a is.within_other)))

  pub state_made : (hand : W) (i m : ℕ) → IsMade ours p first wanted (pair_place Down i m) hand → (x : Place) (w : W) → IsStateStand hand wanted.items i m x w → IsMade ours p first wanted x w
  state_made hand i m made x w is =
      at_place x (pair_place Above is.item m) hand w is.place is.weight (λ from numbered.
      within (Pair i from) (Hangs ours p first wanted is.item from) (λ run walks. record { state = i; comes = stands_comes wanted.items i is.item is.stands; walks = walks }) hand (made from numbered))

  pub skip_made : (hand : W) (l m : ℕ) → IsMade ours p first wanted (pair_place Above l m) hand → (x : Place) (w : W) → IsItemSkip hand wanted.items l m x w → IsMade ours p first wanted x w
  skip_made hand l m made x w is =
      at_place x (pair_place Above (suc l) m) hand w is.place is.weight (λ from numbered.
      within (Hangs ours p first wanted l from) (Hangs ours p first wanted (suc l) from) (λ run h. record { state = h.state; comes = skip_comes wanted.items h.state l h.comes is.skipped; walks = h.walks }) hand (made from numbered))

  pub step_made : (hand : W) (k l : ℕ) → IsMade ours p first wanted (pair_place Before k l) hand → (x : Place) (w : W) → IsStep hand wanted.items first.items Down k l x w → IsMade ours p first wanted x w
  step_made hand k l made x w (weight, inl (skipped, place)) =
      at_place x (pair_place Before (suc k) l) hand w place weight
      (within (Stands ours p first wanted k l) (Stands ours p first wanted (suc k) l)
      (λ run is. record { state = is.state; state_first = is.state_first; comes = skip_comes wanted.items is.state k is.comes skipped; comes_first = is.comes_first; walks = is.walks }) hand made)
  step_made hand k l made x w (weight, inr (inl (skipped, place))) =
      at_place x (pair_place Before k (suc l)) hand w place weight
      (within (Stands ours p first wanted k l) (Stands ours p first wanted k (suc l))
      (λ run is. record { state = is.state; state_first = is.state_first; comes = is.comes; comes_first = skip_comes first.items is.state_first l is.comes_first skipped; walks = is.walks }) hand made)
  step_made hand k l made x w (weight, inr (inr (inl (g, takes, takes', place)))) =
      at_place x (pair_place Down (suc k) (suc l)) hand w place weight (λ from numbered.
      let low = slice_get_within first.items (suc l - 1) takes'.0 takes'.1 in
      let same : item (suc l) ≡ from = one_source (length first.items) p (item (suc l)) from (suc l) (item_number (length first.items) p (suc l) (omega (arith, low))) numbered in
      let T : Source → Type 0 = λ y. Sums ours (value_of ours p) (Pair (suc k) y) hand in
      subst T same (within (Stands ours p first wanted k l) (Pair (suc k) (item (suc l)))
      (λ run is. walks_on system laws first wanted g is.state (suc k) is.state_first (suc l) (comes_edge wanted.items is.state k g is.comes takes) (comes_edge first.items is.state_first l g is.comes_first takes') run is.walks) hand made))
  step_made hand k l made x w (weight, inr (inr (inr (e, e', place)))) =
      at_place x answer_place hand w place weight
      (within (Stands ours p first wanted k l) Lead
      (λ run is.
      let P : ℕ → Type 0 = ComesBefore wanted.items is.state in
      let Q : ℕ → Type 0 = ComesBefore first.items is.state_first in
      walks_lead system laws first wanted is.state is.state_first (comes_final wanted.items is.state (subst P e is.comes)) (comes_final first.items is.state_first (subst Q e' is.comes_first)) run is.walks) hand made)

module _ {S W Map : Type 0} {operations : S → Operations W Map} (v : TablesValue S W Map) (system : IsSystem operations v.system) (laws : IsSemiring (operations v.system.semiring)) (base_fits : AllFit (operations v.system.semiring) v.base)
    (first wanted : PatternValue) (sound : IsSound (operations v.system.semiring) v.system first.control (edges_of first.items) (found_in (operations v.system.semiring) v.system first wanted v.base v.walk)) where
  abbrev s : Operations W Map
  s = operations v.system.semiring

  -- what stands at a row combines runs to it
  row_sums : (control g n : ℕ) (from : Source) → number s v.system first wanted from ≡ Some n
      → Sums s (value_of s v.system) (Comes v.system first.control (edges_of first.items) (at_stack control (g ∷ [])) from) (weight_in s v.base (place_over control g n))
  row_sums control g n from numbered =
      let found : found_in s v.system first wanted v.base v.walk (at_stack control (g ∷ [])) from ≡ weight_in s v.base (place_over control g n) =
      ap (λ (o : Option ℕ). let u : W = elim (place_by control (Some (Symbol g)) o) [ None ↦ s.zero | Some z ↦ weight_in s v.base z ] in u) numbered in
      let T : W → Type 0 = Sums s (value_of s v.system) (Comes v.system first.control (edges_of first.items) (at_stack control (g ∷ [])) from) in
      subst T found (sound.sums (at_stack control (g ∷ [])) from (omega arith))

  bare_sums : (control n : ℕ) (from : Source) → number s v.system first wanted from ≡ Some n
      → Sums s (value_of s v.system) (Comes v.system first.control (edges_of first.items) (at_stack control []) from) (weight_in s v.base (arrow control Empty n))
  bare_sums control n from numbered =
      let found : found_in s v.system first wanted v.base v.walk (at_stack control []) from ≡ weight_in s v.base (arrow control Empty n) =
      ap (λ (o : Option ℕ). let u : W = elim (place_by control (Some Empty) o) [ None ↦ s.zero | Some z ↦ weight_in s v.base z ] in u) numbered in
      let T : W → Type 0 = Sums s (value_of s v.system) (Comes v.system first.control (edges_of first.items) (at_stack control []) from) in
      subst T found (sound.sums (at_stack control []) from (omega arith))

  pub top_made : (g j n : ℕ) → IsIn (record { from = 0; symbol = g; to = j }) (edges_of wanted.items) → IsMade s v.system first wanted (pair_place Down j n) (weight_in s v.base (place_over wanted.control g n))
  top_made g j n edge from numbered =
      tops_sum system laws first wanted g j edge from (weight_in s v.base (place_over wanted.control g n)) (row_sums wanted.control g n from numbered)

  pub uncovered_made : (i : ℕ) → i ≤ length first.items → IsMade s v.system first wanted (pair_place Down 0 i) (weight_in s v.base (arrow wanted.control Empty i))
  uncovered_made i low from numbered =
      let is = item_number (length first.items) v.system i low in
      let same : item i ≡ from = one_source (length first.items) v.system (item i) from i is numbered in
      let T : Source → Type 0 = λ y. Sums s (value_of s v.system) (Walks first.control first.items wanted.control wanted.items v.system 0 y) (weight_in s v.base (arrow wanted.control Empty i)) in
      subst T same (uncovered_top_sum system laws first wanted i (weight_in s v.base (arrow wanted.control Empty i)) (bare_sums wanted.control i (item i) is))

  pub call_made : (l source k : ℕ) (x : Place) (w : W) → IsCall s first wanted l source k v x w → IsMade s v.system first wanted x w
  call_made l source k x w is =
      let r = is.rule in
      let head : Place = place_over r.control r.symbol is.from in
      let there : IsMade s v.system first wanted (pair_place Down (suc l) is.from) w = λ y numbered.
      let all = opens_runs system laws first wanted k r is.there is.top is.below is.right (Hangs s v.system first wanted l (callee r.to is.top)) (suc l)
      (λ run h. (h.state, comes_edge wanted.items h.state l is.below h.comes is.takes, h.walks)) y (weight_in s v.base head) is.worth (row_sums r.control r.symbol is.from y numbered) (is.made (callee r.to is.top) is.entered) in
      let U : W → Type 0 = Sums s (value_of s v.system) (Walks first.control first.items wanted.control wanted.items v.system (suc l) y) in
      subst U (laws.extend_assoc (weight_in s v.base head) r.weight is.worth (place_fits s head v.base laws.fits-zero base_fits) (weight_fits system laws k r is.there) is.fits ∙ sym is.weight) all in
      let P : Place → Type 0 = λ z. IsMade s v.system first wanted z w in
      subst P (sym is.place) there

  pub call_fits : (l source k : ℕ) (x : Place) (w : W) → IsCall s first wanted l source k v x w → Fits s w
  call_fits l source k x w is =
      let r = is.rule in
      let head : Place = place_over r.control r.symbol is.from in
      subst (Fits s) (sym is.weight)
      (laws.fits-extend (weight_in s v.base head) (s.extend r.weight is.worth) (place_fits s head v.base laws.fits-zero base_fits)
      (laws.fits-extend r.weight is.worth (weight_fits system laws k r is.there) is.fits))
