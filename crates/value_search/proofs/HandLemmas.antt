-- The weight in hand, and what it makes.
use Rattle.std.proofs.Common.{◌≡◌, ◌⊎◌, inl, inr, ℕ, ◌<◌, List, [], ◌∷◌, length, refl, sym, ap, ◌∙◌, subst}
use Rattle.std.specs.Prelude.{Option, None, Some, slice_get, unwrap_or}
use Rattle.std.proofs.lemmas.Option.{same_Some}
use Rattle.semiring_laws.specs.Semiring.{Operations, IsSemiring, Fits, Below}
use Rattle.pushdown_rules.specs.declared.rule.Rule.{Rule}
use Rattle.pushdown_rules.specs.Pushdown.{Pushdown, IsSystem}
use Rattle.pushdown_rules.specs.Values.{value_of}
use Rattle.config_patterns.specs.Membership.{PatternValue}
use Rattle.config_patterns.specs.Edges.{edges_of}
use Rattle.wpds_base.specs.Lists.{IsIn}
use Rattle.weighted_automata.specs.declared.place.Place.{Place}
use Rattle.value_laws.specs.Runs.{Pops, Sums}
use Rattle.value_laws.specs.Settled.{first_worth, returned_worth}
use Rattle.value_laws.proofs.CallerLemmas.{call_pops, call_enters, step_pops, step_enters, open_enters}
use Rattle.weight_tables.specs.Entries.{TableEntry, lowered_in}
use Rattle.weight_tables.specs.Tables.{TablesValue, AreTables, entries_of, with_entries, with_hand}
use Rattle.weight_tables.specs.declared.layer.Layer.{Layer}
use Rattle.weight_tables.specs.declared.layer.Layer.TheVariants.{Base, Target, Walk}
use Rattle.value_search.specs.Views.{place_at, layer_of, found, weights, counting, Leads}
use Rattle.value_search.specs.Finds.{IsAt, IsSearch, IsOnward}
use Rattle.value_search.specs.Met.{IsHeld, call_worth}
use Rattle.value_search.proofs.ViewLemmas.{counts_or_none, weight_at}
use Rattle.value_search.proofs.OnwardLemmas.{found_table, found_fits, held_onward, given_onward, given_below}
use Rattle.value_search.proofs.MeetLemmas.{both_count, one_counts}

-- of the rule of a number
pub at_rule : {S W Map : Type 0} (rules : List (Rule S W Map)) (k : ℕ) (r : Rule S W Map) → slice_get rules k ≡ Some r → (P : Rule S W Map → Type 0) → P r → (r' : Rule S W Map) → slice_get rules k ≡ Some r' → P r'
at_rule rules k r there P holds r' there' = subst P (same_Some r r' (sym there ∙ there')) holds

module _ {S W Map : Type 0} where
  held_found : (target : Option PatternValue) (w : W) (v : TablesValue S W Map) → found target (with_hand w v) ≡ found target v
  held_found None w v = refl
  held_found (Some goal) w v = refl

  -- the hand stays where a layer is written
  pub hand_kept : (layer : Layer) (es : List (TableEntry W)) (v : TablesValue S W Map) → with_entries layer es v ≡ with_hand v.hand (with_entries layer es v)
  hand_kept Base es v = refl
  hand_kept Target es v = refl
  hand_kept Walk es v = refl

  pub hand_of : (h : W) (v v' u : TablesValue S W Map) → v' ≡ with_hand h u → v'.hand ≡ h
  hand_of h v v' u made = ap (λ (x : TablesValue S W Map). x.hand) made

  system_kept : (target : Option PatternValue) (h : W) (es : List (TableEntry W)) (v : TablesValue S W Map) → (with_hand h (with_entries (layer_of target) es v)).system ≡ v.system
  system_kept None h es v = refl
  system_kept (Some goal) h es v = refl

  -- an entry of a layer that is that of a search
  pub within_layer : (target : Option PatternValue) (layer : Layer) → layer ≡ layer_of target → (v : TablesValue S W Map) (t : ℕ) → t < length (found target v) → t < length (entries_of layer v)
  within_layer target layer is v t low = let P : Layer → Type 0 = λ l. t < length (entries_of l v) in subst P (sym is) low

  pub found_hold : (target : Option PatternValue) (layer : Layer) → layer ≡ layer_of target → (v : TablesValue S W Map) (t : ℕ) (P : TableEntry W → Type 0)
      → ((e : TableEntry W) → slice_get (entries_of layer v) t ≡ Some e → P e) → (e : TableEntry W) → slice_get (found target v) t ≡ Some e → P e
  found_hold target layer is v t P holds e there = let Q : Layer → Type 0 = λ l. slice_get (entries_of l v) t ≡ Some e in holds e (subst Q (sym is) there)

  -- one after the other in hand
  pub call_hand : (old mid new : TablesValue S W Map) (w : W) (f : W → W) → mid ≡ with_hand w old → new ≡ with_hand (f mid.hand) mid → new ≡ with_hand (f w) old
  call_hand old mid new w f one two =
      two ∙ ap (λ x. with_hand (f x) mid) (ap (λ (u : TablesValue S W Map). u.hand) one) ∙ ap (with_hand (f w)) one

module _ {S W Map : Type 0} (operations : S → Operations W Map) (p q : Pushdown S W Map) (same : p ≡ q) (k : ℕ) (es : List (TableEntry W)) (t : ℕ) (old new : TablesValue S W Map) where
  -- what was taken in hand, over the system by its other name
  pub first_hand : ((r : Rule S W Map) → slice_get p.rules k ≡ Some r → (e : TableEntry W) → slice_get es t ≡ Some e → new ≡ with_hand ((operations p.semiring).extend r.weight e.weight) old)
      → (r : Rule S W Map) → slice_get q.rules k ≡ Some r → (e : TableEntry W) → slice_get es t ≡ Some e → new ≡ with_hand (first_worth (operations q.semiring) r e.weight) old
  first_hand holds =
      let P : Pushdown S W Map → Type 0 = λ x. (r : Rule S W Map) → slice_get x.rules k ≡ Some r → (e : TableEntry W) → slice_get es t ≡ Some e → new ≡ with_hand (first_worth (operations x.semiring) r e.weight) old in
      subst P same holds

pub return_hand : {S W Map : Type 0} (operations : S → Operations W Map) (p q : Pushdown S W Map) → p ≡ q → (k : ℕ) (old new : TablesValue S W Map)
    → ((r : Rule S W Map) → slice_get p.rules k ≡ Some r → new ≡ with_hand ((operations p.semiring).after (unwrap_or r.map (operations p.semiring).plain) old.hand) old)
    → (r : Rule S W Map) → slice_get q.rules k ≡ Some r → new ≡ with_hand ((operations q.semiring).after (unwrap_or r.map (operations q.semiring).plain) old.hand) old
return_hand {S} {W} {Map} operations p q same k old new holds =
    let P : Pushdown S W Map → Type 0 = λ x. (r : Rule S W Map) → slice_get x.rules k ≡ Some r → new ≡ with_hand ((operations x.semiring).after (unwrap_or r.map (operations x.semiring).plain) old.hand) old in
    subst P same holds

pub rule_hand : {S W Map : Type 0} (p q : Pushdown S W Map) → p ≡ q → (k : ℕ) (old new : TablesValue S W Map)
    → ((r : Rule S W Map) → slice_get p.rules k ≡ Some r → new ≡ with_hand r.weight old) → (r : Rule S W Map) → slice_get q.rules k ≡ Some r → new ≡ with_hand r.weight old
rule_hand {S} {W} {Map} p q same k old new holds =
    let P : Pushdown S W Map → Type 0 = λ x. (r : Rule S W Map) → slice_get x.rules k ≡ Some r → new ≡ with_hand r.weight old in
    subst P same holds

pub rule_within : {S W Map : Type 0} (p q : Pushdown S W Map) → p ≡ q → (k : ℕ) → k < length q.rules → k < length p.rules
rule_within {S} {W} {Map} p q same k low = let P : Pushdown S W Map → Type 0 = λ x. k < length x.rules in subst P (sym same) low

module _ {S W Map : Type 0} {operations : S → Operations W Map} {p : Pushdown S W Map} (valid : IsSystem operations p) (laws : IsSemiring (operations p.semiring)) where
  abbrev s : Operations W Map
  s = operations p.semiring

  -- A weight came to a place, by the calls' words.
  module _ (target : Option PatternValue) (old new : TablesValue S W Map) (search : IsSearch s p target old) (layer : Layer) (is_layer : layer ≡ layer_of target) (x : Place) (c g q : ℕ) (is_place : x ≡ place_at c g q)
      (h w : W) (sums : Sums s (value_of s p) (Leads p target c g q) w)
      (made : new ≡ with_hand h (with_entries layer (lowered_in (operations old.system.semiring) x w (entries_of layer old)) old)) where
    laid : new ≡ with_hand h (with_entries (layer_of target) (lowered_in s (place_at c g q) w (found target old)) old)
    laid =
        let A : Layer → Type 0 = λ l. new ≡ with_hand h (with_entries l (lowered_in (operations old.system.semiring) x w (entries_of l old)) old) in
        let B : Place → Type 0 = λ y. new ≡ with_hand h (with_entries (layer_of target) (lowered_in (operations old.system.semiring) y w (found target old)) old) in
        let C : Pushdown S W Map → Type 0 = λ y. new ≡ with_hand h (with_entries (layer_of target) (lowered_in (operations y.semiring) (place_at c g q) w (found target old)) old) in
        subst C search.same (subst B is_place (subst A is_layer made))

    pub given_there : AreTables (operations new.system.semiring) new → IsOnward s p target old new
    given_there tables =
        let same : new.system ≡ p = ap (λ (u : TablesValue S W Map). u.system) laid ∙ system_kept target h (lowered_in s (place_at c g q) w (found target old)) old ∙ search.same in
        let T : Pushdown S W Map → Type 0 = λ y. AreTables (operations y.semiring) new in
        given_onward valid laws target c g q w sums h old new search laid (subst T same tables)

    pub given_lies : Below s (weights s (found target new) c g q) w
    given_lies = given_below valid laws target c g q w sums h old new search laid

  -- what came to it was what is in hand, and then an entry
  pub then_made : (target : Option PatternValue) (layer : Layer) → layer ≡ layer_of target → (old new : TablesValue S W Map) → old.system ≡ p → (x : Place) (t : ℕ)
      → ((e : TableEntry W) → slice_get (entries_of layer old) t ≡ Some e
      → new ≡ with_entries layer (lowered_in (operations old.system.semiring) x ((operations old.system.semiring).extend old.hand e.weight) (entries_of layer old)) old)
      → (e : TableEntry W) → slice_get (found target old) t ≡ Some e
      → new ≡ with_hand old.hand (with_entries layer (lowered_in (operations old.system.semiring) x (s.extend old.hand e.weight) (entries_of layer old)) old)
  then_made target layer is old new same x t holds e there =
      let Q : Layer → Type 0 = λ l. slice_get (entries_of l old) t ≡ Some e in
      let A : Pushdown S W Map → Type 0 = λ y. new ≡ with_entries layer (lowered_in (operations old.system.semiring) x ((operations y.semiring).extend old.hand e.weight) (entries_of layer old)) old in
      subst A same (holds e (subst Q (sym is) there)) ∙ hand_kept layer (lowered_in (operations old.system.semiring) x (s.extend old.hand e.weight) (entries_of layer old)) old

  -- what a step rule makes of a transition's runs
  pub step_leads : (target : Option PatternValue) (k : ℕ) (r : Rule S W Map) → slice_get p.rules k ≡ Some r → (g : ℕ) → r.right ≡ g ∷ [] → (to : ℕ) (w : W)
      → Sums s (value_of s p) (Leads p target r.to g to) w → Sums s (value_of s p) (Leads p target r.control r.symbol to) (first_worth s r w)
  step_leads None k r there g right to w sums = step_pops valid laws k r there g right to w sums
  step_leads (Some goal) k r there g right to w sums = step_enters valid laws k r there g right goal.control (edges_of goal.items) to w sums

  -- what a call that returns makes of its callee's runs and of those that go on
  pub call_leads : (target : Option PatternValue) (k : ℕ) (r : Rule S W Map) → slice_get p.rules k ≡ Some r → (g h : ℕ) → r.right ≡ g ∷ h ∷ [] → (mid to : ℕ) (v w : W)
      → Sums s (value_of s p) (Pops p r.to g mid) v → Sums s (value_of s p) (Leads p target mid h to) w → Sums s (value_of s p) (Leads p target r.control r.symbol to) (returned_worth s r v w)
  call_leads None k r there g h right mid to v w one two = call_pops valid laws k r there g h right mid to v w one two
  call_leads (Some goal) k r there g h right mid to v w one two = call_enters valid laws k r there g h right goal.control (edges_of goal.items) mid to v w one two

  -- The worth of a transition is taken in hand,
  module _ (target : Option PatternValue) (makes : Rule S W Map → W → W) (k : ℕ) (r : Rule S W Map) (there : slice_get p.rules k ≡ Some r) (fits : (w : W) → Fits s w → Fits s (makes r w))
      (v v' : TablesValue S W Map) (search : IsSearch s p target v) (t c g q : ℕ) (at : IsAt (found target v) t (place_at c g q))
      (made : (r : Rule S W Map) → slice_get p.rules k ≡ Some r → (e : TableEntry W) → slice_get (found target v) t ≡ Some e → v' ≡ with_hand (makes r e.weight) v) where
    same_weight : weights s (found target v) c g q ≡ at.0.weight
    same_weight = weight_at s (found target v) (found_table valid laws target v search.tables) t c g q at at.0 at.1

    pub hand_onward : IsOnward s p target v v'
    hand_onward = held_onward valid laws target v v' (makes r at.0.weight) search (fits at.0.weight (subst (Fits s) same_weight (found_fits valid laws target v search c g q))) (made r there at.0 at.1)

    pub hand_starts : IsHeld s p target makes k c g q v'
    hand_starts =
        let is : found target v' ≡ found target v = ap (found target) (made r there at.0 at.1) ∙ held_found target (makes r at.0.weight) v in
        let P : List (TableEntry W) → Type 0 = λ es. (counting s es c g q ≡ weights s (found target v) c g q) ⊎ (counting s es c g q ≡ s.zero) in
        record {
          worth = weights s (found target v) c g q;
          fits = found_fits valid laws target v search c g q;
          sums = search.sound c g q;
          counts = subst P (sym is) (counts_or_none s (found target v) c g q);
          hand = λ r' there'. ap (λ (u : TablesValue S W Map). u.hand) (made r' there' at.0 at.1) ∙ ap (makes r') (sym same_weight);
        }

  -- and stays there.
  module _ (target : Option PatternValue) (makes : Rule S W Map → W → W) (k c g q : ℕ) (v v' : TablesValue S W Map) (onward : IsOnward s p target v v') (held : IsHeld s p target makes k c g q v) where
    pub worth_counts : (counting s (found target v') c g q ≡ held.worth) ⊎ (counting s (found target v') c g q ≡ s.zero)
    worth_counts = elim (onward.further.counts c g q) [
      | inr none ↦ inr none
      | inl is ↦ elim held.counts [ inl same ↦ inl (is ∙ same) | inr none ↦ inr (is ∙ none) ]
    ]

    pub hand_stays : v'.hand ≡ v.hand → IsHeld s p target makes k c g q v'
    hand_stays stays = record {
      worth = held.worth;
      fits = held.fits;
      sums = held.sums;
      counts = worth_counts;
      hand = λ r there. stays ∙ held.hand r there;
    }

  -- what is in hand, for a rule whose right side it is the top of
  module _ (target : Option PatternValue) (k : ℕ) (r : Rule S W Map) (there : slice_get p.rules k ≡ Some r) (c g q : ℕ) (is : r.to ≡ c) (v : TablesValue S W Map) (held : IsHeld s p target (first_worth s) k c g q v) where
    abbrev Made : W → Type 0
    Made w = Sums s (value_of s p) (Leads p target r.control r.symbol q) w

    callee_sums : Sums s (value_of s p) (Leads p target r.to g q) held.worth
    callee_sums = let Q : ℕ → Type 0 = λ i. Sums s (value_of s p) (Leads p target i g q) held.worth in subst Q (sym is) held.sums

    pub held_steps : r.right ≡ g ∷ [] → Sums s (value_of s p) (Leads p target r.control r.symbol q) v.hand
    held_steps right =
        let P : W → Type 0 = Sums s (value_of s p) (Leads p target r.control r.symbol q) in
        subst P (sym (held.hand r there)) (step_leads target k r there g right q held.worth callee_sums)

    -- what was met with the worth is met with what counts of it
    pub held_first : (v' : TablesValue S W Map) → IsOnward s p target v v' → (to : ℕ) → Below s (weights s (found target v') r.control r.symbol to) v.hand
        → Below s (weights s (found target v') r.control r.symbol to) (first_worth s r (counting s (found target v') c g q))
    held_first v' onward to below =
        let P : W → Type 0 = Below s (weights s (found target v') r.control r.symbol to) in
        one_counts valid laws k r there (weights s (found target v') r.control r.symbol to) held.worth (counting s (found target v') c g q) (found_fits valid laws target v' onward.search r.control r.symbol to) held.fits
        (worth_counts target (first_worth s) k c g q v v' onward held) (subst P (held.hand r there) below)

  -- over an edge, where the call stays open
  pub held_opens : (goal : PatternValue) (k : ℕ) (r : Rule S W Map) → slice_get p.rules k ≡ Some r → (c g h q to : ℕ) → r.right ≡ g ∷ h ∷ [] → r.to ≡ c → (v : TablesValue S W Map)
      → IsHeld s p (Some goal) (first_worth s) k c g q v → IsIn (record { from = q; symbol = h; to = to }) (edges_of goal.items) → Sums s (value_of s p) (Leads p (Some goal) r.control r.symbol to) v.hand
  held_opens goal k r there c g h q to right is v held edge =
      let P : W → Type 0 = Sums s (value_of s p) (Leads p (Some goal) r.control r.symbol to) in
      subst P (sym (held.hand r there)) (open_enters valid laws k r there g h right goal.control (edges_of goal.items) q to edge held.worth (callee_sums (Some goal) k r there c g q is v held))

  -- a call that returns, with the callee's worth in hand, and one that goes on
  module _ (k : ℕ) (r : Rule S W Map) (there : slice_get p.rules k ≡ Some r) (c g h q to : ℕ) (right : r.right ≡ g ∷ h ∷ []) (is : r.to ≡ c) (v : TablesValue S W Map)
      (held : IsHeld s p None (call_worth s) k c g q v) where
    held_both : (w : W) → s.extend v.hand w ≡ returned_worth s r held.worth w
    held_both w = ap (λ u. s.extend u w) (held.hand r there)

    pub held_returns : (target : Option PatternValue) (w : W) → Sums s (value_of s p) (Leads p target q h to) w → Sums s (value_of s p) (Leads p target r.control r.symbol to) (s.extend v.hand w)
    held_returns target w sums =
        let P : W → Type 0 = Sums s (value_of s p) (Leads p target r.control r.symbol to) in
        let Q : ℕ → Type 0 = λ i. Sums s (value_of s p) (Pops p i g q) held.worth in
        subst P (sym (held_both w)) (call_leads target k r there g h right q to held.worth w (subst Q (sym is) held.sums) sums)

    pub held_returned : (x w y z : W) → Fits s x → Fits s w → Fits s y → Fits s z → (y ≡ held.worth) ⊎ (y ≡ s.zero) → (z ≡ w) ⊎ (z ≡ s.zero) → Below s x (s.extend v.hand w) → Below s x (returned_worth s r y z)
    held_returned x w y z fx fw fy fz one two below =
        let P : W → Type 0 = Below s x in
        both_count valid laws k r there g h right x fx held.worth y w z held.fits fy fw fz one two (subst P (held_both w) below)
