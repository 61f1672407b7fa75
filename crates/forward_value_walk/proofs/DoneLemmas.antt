-- Pairs that have all given what they give are what the laws ask for.
use Rattle.std.proofs.Common.{◌≡◌, inl, inr, ℕ, suc, ◌<◌, Bool, List, [], ◌∷◌, length, drop, sym, ap, ◌∙◌, subst, arith}
use Rattle.std.specs.Prelude.{IsTrue, IsFalse, Option, None, Some, slice_get, nat_le, if◌then◌else◌}
use Rattle.std.specs.List.{AllByRecursion, list_all}
use Rattle.std.proofs.lemmas.Bool.{and_parts, cases_Bool, leb-true}
use Rattle.wpds_base.specs.Lists.{IsIn}
use Rattle.semiring_laws.specs.Semiring.{Operations, IsSemiring, Fits, Below}
use Rattle.semiring_laws.proofs.CallerLemmas.{below_itself, below_trans, below_zero, extend_left_keeps_below}
use Rattle.pushdown_rules.specs.declared.rule.Rule.{Rule}
use Rattle.pushdown_rules.specs.Configuration.{Configuration, at_stack}
use Rattle.pushdown_rules.specs.Pushdown.{Pushdown, IsSystem}
use Rattle.pushdown_rules.proofs.CallerLemmas.{weight_fits}
use Rattle.config_patterns.specs.Edges.{edges_of, is_final_of, is_starred}
use Rattle.config_patterns.specs.Membership.{PatternValue}
use Rattle.weighted_automata.specs.declared.place.Label.{Label}
use Rattle.weighted_automata.specs.declared.place.Label.TheVariants.{Symbol, Empty}
use Rattle.weighted_automata.specs.declared.place.Place.{Place}
use Rattle.weight_tables.specs.Entries.{TableEntry, NoneWaits, weight_in, settled_in}
use Rattle.weight_tables.proofs.CallerLemmas.{place_fits, all_settled}
use Rattle.walk_pairs.specs.declared.pairs.Stage.TheVariants.{Down, Before, Above}
use Rattle.walk_pairs.specs.Pairs.{pair_place, answer_place}
use Rattle.walk_pairs.specs.Reading.{IsStateRead, IsItemSkipped, IsPairRead, IsBeforeRead, AreReadingsSettled}
use Rattle.walk_pairs.specs.Ways.{TakesAt}
use Rattle.walk_pairs.proofs.CallerLemmas.{edge_from, edge_to, edge_above, readings_read, readings_end}
use Rattle.forward_value_laws.specs.Model.{Source, item, callee, head_of}
use Rattle.forward_value_laws.specs.Tails.{IsWalkedTo}
use Rattle.value_tails.specs.Tailing.{tail_in}
use Rattle.forward_value_search.specs.Places.{arrow, place_by}
use Rattle.forward_value_search.proofs.CallerLemmas.{item_number, callee_number, callee_is}
use Rattle.forward_value_walk.specs.Walking.{number, found_in, pair_in, before_in, above_in, answer_in, pairs_of, tails_of, IsSettled}
use Rattle.forward_value_walk.proofs.SettleLemmas.{going_fits}

module _ {S W Map : Type 0} {operations : S → Operations W Map} {p : Pushdown S W Map} (system : IsSystem operations p) (laws : IsSemiring (operations p.semiring)) (first wanted : PatternValue)
    (base walk : List (TableEntry W)) (base_fits : AllByRecursion (λ e. Fits (operations p.semiring) e.weight) base) (walk_fits : AllByRecursion (λ e. Fits (operations p.semiring) e.weight) walk)
    (none : NoneWaits walk) (stops : ℕ → Bool) (tails : List (TableEntry W)) (tails_fit : AllByRecursion (λ e. Fits (operations p.semiring) e.weight) tails)
    (settled : IsSettled (operations p.semiring) p first wanted base walk stops tails) where
  abbrev s : Operations W Map
  s = operations p.semiring

  abbrev Found : Configuration → Source → W
  Found = found_in s p first wanted base walk

  abbrev pairs : ℕ → Source → W
  pairs = pairs_of s p first wanted base walk

  abbrev pair_at : ℕ → Option ℕ → W
  pair_at j o = elim o [ None ↦ s.zero | Some m ↦ pair_in s p first wanted base walk j m ]

  abbrev row_at : ℕ → Label → Option ℕ → W
  row_at control label o = elim (place_by control (Some label) o) [ None ↦ s.zero | Some x ↦ weight_in s base x ]

  fits_base : (x : Place) → Fits s (weight_in s base x)
  fits_base x = place_fits s x base laws.fits-zero base_fits

  fits_walk : (x : Place) → Fits s (weight_in s walk x)
  fits_walk x = place_fits s x walk laws.fits-zero walk_fits

  -- the pair of a source that has a number
  pair_is : (j : ℕ) (from : Source) (n : ℕ) → number s p first wanted from ≡ Some n → pairs j from ≡ pair_in s p first wanted base walk j n
  pair_is j from n is = ap (λ (o : Option ℕ). elim o [ None ↦ s.zero | Some m ↦ pair_in s p first wanted base walk j m ]) is

  settles : (j n : ℕ) → settled_in s walk (pair_place Down j n) ≡ pair_in s p first wanted base walk j n
  settles j n = all_settled s (pair_place Down j n) walk none

  pair_fits : (j : ℕ) (from : Source) → Fits s (pairs j from)
  pair_fits j from = elim (number s p first wanted from) as (λ o. Fits s (pair_at j o)) [
    | None ↦ laws.fits-zero
    | Some n ↦ fits_walk (pair_place Down j n)
  ]

  zero_below : Below s s.zero s.zero
  zero_below = below_itself laws s.zero laws.fits-zero

  tops : (g j : ℕ) → IsIn (record { from = 0; symbol = g; to = j }) (edges_of wanted.items) → (from : Source) → Below s (pairs j from) (Found (at_stack wanted.control (g ∷ [])) from)
  tops g j edge from = elim (number s p first wanted from) as (λ o. Below s (pair_at j o) (row_at wanted.control (Symbol g) o)) [
    | None ↦ zero_below
    | Some n ↦ settled.tops g j edge n
  ]

  uncovered : (i : ℕ) → Below s (pairs 0 (item i)) (Found (at_stack wanted.control []) (item i))
  uncovered i = elim (cases_Bool (nat_le i (length first.items))) [
    | inl low ↦
        let is = item_number (length first.items) p i (leb-true i (length first.items) low) in
        let P : Option ℕ → Type 0 = λ o. Below s (pair_at 0 o) (row_at wanted.control Empty o) in
        subst P (sym is) (settled.uncovered i (leb-true i (length first.items) low))
    | inr high ↦
        let P : Bool → Type 0 = λ b. Below s (pair_at 0 (if b then Some i else None)) (row_at wanted.control Empty (if b then Some i else None)) in
        subst P (sym high) zero_below
  ]

  -- pairs of items: what both patterns read, and where both end
  abbrev Pair : ℕ → ℕ → W
  Pair = pair_in s p first wanted base walk

  abbrev At : ℕ → ℕ → W
  At = before_in s p first wanted base walk

  abbrev Answer : W
  Answer = answer_in s p first wanted base walk

  abbrev On : ℕ → ℕ → W
  On i a = if stops i then s.zero else Pair i a

  closed : AreReadingsSettled s wanted.items first.items Pair On At At Answer
  closed =
      let P : (i a : ℕ) → W → Type 0 = λ i a w. IsPairRead s wanted.items first.items i a (if stops i then s.zero else w) At in
      let B : (k l : ℕ) → W → Type 0 = λ k l w. IsBeforeRead s wanted.items first.items k l w Pair At Answer in
      record {
        pairs = λ i a. subst (P i a) (settles i a) (settled.readings.pairs i a);
        befores = λ k l. subst (B k l) (all_settled s (pair_place Before k l) walk none) (settled.readings.befores k l);
      }

  fits_pair : (i a : ℕ) → Fits s (Pair i a)
  fits_pair i a = fits_walk (pair_place Down i a)

  fits_on : (i a : ℕ) → Fits s (On i a)
  fits_on i a = going_fits system laws first wanted base base_fits (stops i) (Pair i a) (fits_pair i a)

  -- above a callee the second pattern reads on alone, along all of its edges
  abbrev Over : ℕ → ℕ → W
  Over = above_in s p first wanted base walk

  fits_over : (l m : ℕ) → Fits s (Over l m)
  fits_over l m = fits_walk (pair_place Above l m)

  settles_over : (l m : ℕ) → settled_in s walk (pair_place Above l m) ≡ Over l m
  settles_over l m = all_settled s (pair_place Above l m) walk none

  module _ (m : ℕ) (deep : length first.items < m) where
    alone : (i c : ℕ) → IsStateRead s wanted.items i c (On i m) (λ l _. Over l m)
    alone i c = record {
      stands = λ low l stands.
          let P : W → Type 0 = λ w. Below s (Over l m) (if stops i then s.zero else w) in
          subst P (settles i m) ((settled.states i m deep).stands low l stands);
    }

    past : (l c : ℕ) → IsItemSkipped s wanted.items l c (Over l m) (λ l' _. Over l' m)
    past l c skipped = let P : W → Type 0 = Below s (Over (suc l) m) in subst P (settles_over l m) ((settled.aboves l m).skips skipped)

    over_edge : (h i j : ℕ) → IsIn (record { from = i; symbol = h; to = j }) (edges_of wanted.items) → (l : ℕ) × (j ≡ suc l) × TakesAt wanted.items (suc l) h × Below s (Over l m) (On i m)
    over_edge h i j edge = edge_above laws wanted.items (λ x _. On x m) (λ l _. Over l m) (λ x _. fits_on x m) (λ l _. fits_over l m) alone past h i j 0 edge

  opened : (k : ℕ) (r : Rule S W Map) → slice_get p.rules k ≡ Some r → (g h : ℕ) → r.right ≡ g ∷ h ∷ [] → (i j : ℕ) → IsFalse (stops i) → IsIn (record { from = i; symbol = h; to = j }) (edges_of wanted.items)
      → (m : ℕ) → number s p first wanted (callee r.to g) ≡ Some m → (n : ℕ) → Below s (Pair j n) (s.extend (weight_in s base (arrow r.control (Symbol r.symbol) n)) (s.extend r.weight (Pair i m)))
  opened k r there g h right i j going edge m entered n =
      let is = (callee_is (length first.items) p r.to g m entered).number in
      let (l, to, takes, below) = over_edge m (omega (arith, is)) h i j edge in
      let G : Bool → Type 0 = λ c. Below s (Over l m) (if c then s.zero else Pair i m) in
      let fr = weight_fits system laws k r there in
      let head : W = weight_in s base (arrow r.control (Symbol r.symbol) n) in
      let fh = fits_base (arrow r.control (Symbol r.symbol) n) in
      let at : W → W = λ w. s.extend head (s.extend r.weight w) in
      let fits_at = λ (w : W) (fw : Fits s w). laws.fits-extend head (s.extend r.weight w) fh (laws.fits-extend r.weight w fr fw) in
      let O : W → Type 0 = λ w. Below s (Pair (suc l) n) (at w) in
      let J : ℕ → Type 0 = λ x. Below s (Pair x n) (at (Pair i m)) in
      subst J (sym to)
      (below_trans laws (Pair (suc l) n) (at (Over l m)) (at (Pair i m)) (fits_pair (suc l) n) (fits_at (Over l m) (fits_over l m)) (fits_at (Pair i m) (fits_pair i m))
      (subst O (settles_over l m) ((settled.aboves l m).opens k r there g h right takes entered n))
      (extend_left_keeps_below laws head (s.extend r.weight (Over l m)) (s.extend r.weight (Pair i m)) fh (laws.fits-extend r.weight (Over l m) fr (fits_over l m)) (laws.fits-extend r.weight (Pair i m) fr (fits_pair i m))
      (extend_left_keeps_below laws r.weight (Over l m) (Pair i m) fr (fits_over l m) (fits_pair i m) (subst G going below))))

  opens : (k : ℕ) (r : Rule S W Map) → slice_get p.rules k ≡ Some r → (g h : ℕ) → r.right ≡ g ∷ h ∷ [] → (i j : ℕ) → IsFalse (stops i) → IsIn (record { from = i; symbol = h; to = j }) (edges_of wanted.items) → (from : Source)
      → Below s (pairs j from) (s.extend (s.extend (Found (head_of r) from) r.weight) (pairs i (callee r.to g)))
  opens k r there g h right i j going edge from =
      let fr = weight_fits system laws k r there in
      let has = callee_number (length first.items) p k r there g (h ∷ []) right in
      let inner : pairs i (callee r.to g) ≡ pair_in s p first wanted base walk i has.0 = pair_is i (callee r.to g) has.0 has.1 in
      let fi = fits_walk (pair_place Down i has.0) in
      let T : W → Type 0 = λ u. Below s (pairs j from) (s.extend (s.extend (Found (head_of r) from) r.weight) u) in
      let nothing : s.zero ≡ s.extend (s.extend s.zero r.weight) (pair_in s p first wanted base walk i has.0) =
      sym (ap (λ u. s.extend u (pair_in s p first wanted base walk i has.0)) (laws.extend-zero_left r.weight fr) ∙ laws.extend-zero_left (pair_in s p first wanted base walk i has.0) fi) in
      let Z : W → Type 0 = Below s s.zero in
      subst T (sym inner) (elim (number s p first wanted from) as (λ o. Below s (pair_at j o) (s.extend (s.extend (row_at r.control (Symbol r.symbol) o) r.weight) (pair_in s p first wanted base walk i has.0))) [
        | None ↦ subst Z nothing zero_below
        | Some n ↦
            let head : W = weight_in s base (arrow r.control (Symbol r.symbol) n) in
            let B : W → Type 0 = Below s (pair_in s p first wanted base walk j n) in
            subst B (sym (laws.extend_assoc head r.weight (pair_in s p first wanted base walk i has.0) (fits_base (arrow r.control (Symbol r.symbol) n)) fr fi))
            (opened k r there g h right i j going edge has.0 has.1 n)
      ])

  reads : (h i j a b : ℕ) → IsFalse (stops i) → IsIn (record { from = i; symbol = h; to = j }) (edges_of wanted.items) → IsIn (record { from = a; symbol = h; to = b }) (edges_of first.items)
      → Below s (pairs j (item b)) (pairs i (item a))
  reads h i j a b going edge edge' =
      let left = pair_is j (item b) b (item_number (length first.items) p b (edge_to first.items a h b edge')) in
      let right = pair_is i (item a) a (item_number (length first.items) p a (edge_from first.items a h b edge')) in
      let P : W → Type 0 = λ u. Below s u (pairs i (item a)) in
      let Q : W → Type 0 = Below s (pair_in s p first wanted base walk j b) in
      let G : Bool → Type 0 = λ c. Below s (Pair j b) (if c then s.zero else Pair i a) in
      subst P (sym left)
      (subst Q (sym right)
      (subst G going (readings_read laws wanted.items first.items Pair On At Answer fits_pair fits_on (λ x y. fits_walk (pair_place Before x y)) (fits_walk answer_place) closed h i j a b edge edge')))

  ends : (j a : ℕ) → IsFalse (stops j) → IsTrue (is_final_of wanted.items j) → IsTrue (is_final_of first.items a) → Below s (weight_in s walk answer_place) (pairs j (item a))
  ends j a going final final' =
      let low = and_parts (nat_le a (length first.items)) (list_all is_starred (drop a first.items)) final' in
      let right = pair_is j (item a) a (item_number (length first.items) p a (leb-true a (length first.items) low.0)) in
      let Q : W → Type 0 = Below s (weight_in s walk answer_place) in
      let G : Bool → Type 0 = λ c. Below s Answer (if c then s.zero else Pair j a) in
      subst Q (sym right)
      (subst G going (readings_end laws wanted.items first.items Pair On At Answer fits_pair fits_on (λ x y. fits_walk (pair_place Before x y)) (fits_walk answer_place) closed j a final final'))

  abbrev Tail : Source → W
  Tail = tails_of s p first wanted base walk tails

  rests : (j : ℕ) → IsTrue (stops j) → (from : Source) → Below s (weight_in s walk answer_place) (s.extend (Tail from) (pairs j from))
  rests j stop from =
      let A : W → Type 0 = Below s (weight_in s walk answer_place) in
      elim (number s p first wanted from) as (λ (o : Option ℕ). let t : W = elim o [ None ↦ s.zero | Some n ↦ tail_in s tails n ] in Below s (weight_in s walk answer_place) (s.extend t (pair_at j o))) [
        | None ↦ subst A (sym (laws.extend-zero_left s.zero laws.fits-zero)) (below_zero laws (weight_in s walk answer_place) (fits_walk answer_place))
        | Some n ↦ let P : W → Type 0 = λ u. Below s (weight_in s walk answer_place) (s.extend (tail_in s tails n) u) in subst P (settles j n) (settled.rests j stop n)
      ]

  pub pairs_walked : IsWalkedTo s p first.items Found wanted.control wanted.items stops Tail pairs (weight_in s walk answer_place)
  pairs_walked = record { fits = pair_fits; fits_answer = fits_walk answer_place; tops = tops; uncovered = uncovered; opens = opens; reads = reads; ends = ends; tails = rests }
