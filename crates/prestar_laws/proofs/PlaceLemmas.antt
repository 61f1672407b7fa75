-- The places that the backward direction can reach.
use Rattle.std.proofs.Common.{◌≡◌, inl, inr, ℕ, suc, ◌*◌, ◌<◌, ◌≤◌, true, List, [], ◌∷◌, ◌++◌, map, length, refl, sym, ap, ◌∙◌, subst, arith}
use Rattle.std.specs.Prelude.{nat_le, if◌then◌else◌}
use Rattle.std.specs.List.{flat_map, list_all, range_with_len}
use Rattle.std.proofs.lemmas.Bool.{and_parts, leb-true, leb-false, cond_both}
use Rattle.std.proofs.lemmas.List.{length-map}
use Rattle.std.proofs.lemmas.List.FromFn.{length-range_with_len}
use Rattle.std.proofs.Math.Nat.{mul_assoc}
use Rattle.weighted_automata.specs.declared.place.Label.TheVariants.{Symbol}
use Rattle.weighted_automata.specs.declared.place.Place.{Place}
use Rattle.saturation_laws.specs.declared.opening.Opening.{Opening}
use Rattle.wpds_base.specs.Lists.{IsIn}
use Rattle.saturation_laws.proofs.CallerLemmas.{in_left, in_map, from_map, in_range, from_range, in_flat_map, from_flat_map, length-flat_map_of}
use Rattle.prestar_laws.specs.Fitting.{is_item_edge, above, state_count, arrows}
use Rattle.direction_parts.specs.Places.{arrow, LeadsToItems, reads_symbol}
use Rattle.direction_parts.proofs.CallerLemmas.{all_listed, symbol_of}

pub above_start : (n : ℕ) (qs : List ℕ) → n ≤ above n qs
above_start n [] = omega arith
above_start n (q ∷ qs) =
    let P : ℕ → Type 0 = λ m. n ≤ above m qs in
    cond_both (nat_le (suc q) n) n (suc q) P (λ _. above_start n qs)
    (λ e. let more : n < suc q = leb-false (suc q) n e in let rest = above_start (suc q) qs in omega (arith, more, rest))

pub above_each : (n : ℕ) (qs : List ℕ) (q : ℕ) → IsIn q qs → q < above n qs
above_each n [] q h = absurd h
above_each n (z ∷ qs) q (inr h) = above_each (if nat_le (suc z) n then n else suc z) qs q h
above_each n (z ∷ qs) q (inl same) =
    let P : ℕ → Type 0 = λ m. z < above m qs in
    let Q : ℕ → Type 0 = λ i. i < above n (z ∷ qs) in
    subst Q same (cond_both (nat_le (suc z) n) n (suc z) P
    (λ e. let low : suc z ≤ n = leb-true (suc z) n e in let rest = above_start n qs in omega (arith, low, rest))
    (λ e. let rest = above_start (suc z) qs in omega (arith, rest)))

-- the least number that is above all of these is no more than another that is
pub above_most : (n m : ℕ) (qs : List ℕ) → n ≤ m → ((q : ℕ) → IsIn q qs → q < m) → above n qs ≤ m
above_most n m [] low each = low
above_most n m (q ∷ qs) low each =
    let P : ℕ → Type 0 = λ i. above i qs ≤ m in
    let rest : (i : ℕ) → i ≤ m → above i qs ≤ m = λ i h. above_most i m qs h (λ z g. each z (inr g)) in
    let here : q < m = each q (inl refl) in
    cond_both (nat_le (suc q) n) n (suc q) P (λ _. rest n low) (λ _. rest (suc q) (omega (arith, here)))

module _ (controls : ℕ) (o : Opening) where
  pub control_is_state : (c : ℕ) → c < controls → c < state_count controls o
  control_is_state c low = let all = above_start controls (map (λ (x : Place). x.to) o.edges ++ o.finals) in omega (arith, low, all)

  pub edge_to_state : (x : Place) → IsIn x o.edges → x.to < state_count controls o
  edge_to_state x edge = above_each controls (map (λ (x : Place). x.to) o.edges ++ o.finals) x.to
      (in_left x.to (map (λ (x : Place). x.to) o.edges) o.finals (in_map (λ (x : Place). x.to) x o.edges edge))

module _ (controls symbols states : ℕ) where
  abbrev to_each : ℕ → ℕ → List Place
  to_each c g = map (arrow c g) (range_with_len 0 states)

  abbrev with_each : ℕ → List Place
  with_each c = flat_map (to_each c) (range_with_len 0 symbols)

  pub in_arrows : (c g q : ℕ) → c < controls → g < symbols → q < states → IsIn (arrow c g q) (arrows controls symbols states)
  in_arrows c g q lc lg lq =
      in_flat_map with_each (arrow c g q) c (range_with_len 0 controls) (in_range 0 controls c (omega arith) (omega (arith, lc)))
      (in_flat_map (to_each c) (arrow c g q) g (range_with_len 0 symbols) (in_range 0 symbols g (omega arith) (omega (arith, lg)))
      (in_map (arrow c g) q (range_with_len 0 states) (in_range 0 states q (omega arith) (omega (arith, lq)))))

  pub arrow_to : (x : Place) → IsIn x (arrows controls symbols states) → x.to < states
  arrow_to x h =
      let one = from_flat_map with_each x (range_with_len 0 controls) h in
      let two = from_flat_map (to_each one.before) x (range_with_len 0 symbols) one.is in
      let three = from_map (arrow one.before two.before) x (range_with_len 0 states) two.is in
      let within = from_range 0 states three.before three.there in
      let to : three.before ≡ x.to = ap (λ (y : Place). y.to) three.is in
      omega (arith, within.1, to)

  pub length-arrows : length (arrows controls symbols states) ≡ controls * symbols * states
  length-arrows =
      let to : (c g : ℕ) → length (to_each c g) ≡ states = λ c g. length-map (range_with_len 0 states) (arrow c g) ∙ length-range_with_len 0 states in
      let with : (c : ℕ) → length (with_each c) ≡ symbols * states = λ c. length-flat_map_of (to_each c) states (to c) (range_with_len 0 symbols) ∙ ap (λ n. n * states) (length-range_with_len 0 symbols) in
      length-flat_map_of with_each (symbols * states) with (range_with_len 0 controls) ∙ ap (λ n. n * (symbols * states)) (length-range_with_len 0 controls) ∙ sym (mul_assoc controls symbols states)

pub leads_to_items : (controls : ℕ) (edges : List Place) → list_all (is_item_edge controls) edges ≡ true → LeadsToItems controls edges
leads_to_items controls edges all x edge =
    let parts = and_parts (reads_symbol x.label) (nat_le controls x.to) (all_listed (is_item_edge controls) edges all x edge) in leb-true controls x.to parts.1

pub reads_one : (controls : ℕ) (edges : List Place) → list_all (is_item_edge controls) edges ≡ true → (x : Place) → IsIn x edges → (g : ℕ) × (x.label ≡ Symbol g)
reads_one controls edges all x edge =
    let parts = and_parts (reads_symbol x.label) (nat_le controls x.to) (all_listed (is_item_edge controls) edges all x edge) in symbol_of x.label parts.0
