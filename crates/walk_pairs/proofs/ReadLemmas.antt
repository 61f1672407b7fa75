-- Two patterns that read one stack: what is lowered, and that settled pairs go along all edges of both.
use Rattle.std.proofs.Common.{◌≡◌, ◌⊎◌, inl, inr, ℕ, zero, suc, ◌<◌, ◌≤◌, ◌+◌, ◌-◌, Bool, true, false, List, [], ◌∷◌, length, drop, refl, sym, ap, ◌∙◌, subst, arith}
use Rattle.std.specs.Prelude.{◌↔◌, IsTrue, Some, slice_get, nat_le}
use Rattle.std.specs.List.{list_all}
use Rattle.std.proofs.lemmas.Bool.{false≢true, and_parts, and_from, cases_lt, leb-true, le-leb}
use Rattle.std.proofs.lemmas.Option.{same_Some, slice_get_within}
use Rattle.wpds_base.specs.Lists.{IsIn}
use Rattle.semiring_laws.specs.Semiring.{Operations, IsSemiring, Fits, Below}
use Rattle.semiring_laws.proofs.CallerLemmas.{below_itself, below_trans, below_zero}
use Rattle.config_patterns.specs.declared.item.Item.{Item}
use Rattle.config_patterns.specs.Membership.{has_symbol}
use Rattle.config_patterns.specs.Edges.{edges_of, is_final_of, is_starred}
use Rattle.config_patterns.specs.Paths.{IsEdge}
use Rattle.config_patterns.proofs.CallerLemmas.{edges_are}
use Rattle.weighted_automata.specs.declared.place.Place.{Place}
use Rattle.weight_tables.specs.Entries.{lowered_in, weight_in}
use Rattle.weight_tables.specs.Tables.{TablesValue, AreTables, with_entries}
use Rattle.weight_tables.specs.declared.layer.Layer.TheVariants.{Walk}
use Rattle.walk_pairs.specs.declared.pairs.Stage.{Stage}
use Rattle.walk_pairs.specs.declared.pairs.Stage.TheVariants.{Before, Above}
use Rattle.walk_pairs.specs.Lowerings.{ArePairsLowered}
use Rattle.walk_pairs.specs.Pairs.{pair_place, answer_place}
use Rattle.walk_pairs.specs.Reading.{IsSkipped, StandsBefore, ComesBefore, IsStateRead, IsItemSkipped, IsStateStand, IsItemSkip, IsStateGiven, IsSkipGiven, IsPairRead, IsBeforeRead, AreReadingsSettled, IsStand, IsStep, IsPairGiven, IsBeforeGiven}
use Rattle.walk_pairs.specs.Ways.{StaysAt, TakesAt}
use Rattle.walk_pairs.specs.private.Steps.{IsLoweredWhere}
use Rattle.walk_pairs.proofs.LoweringLemmas.{one_below}
use Rattle.walk_pairs.proofs.PairLemmas.{none_pairs, pairs_then, pairs_wider, pairs_fit, below_later}
use Rattle.walk_pairs.proofs.WayLemmas.{drop_get, leads_take, leads_starred, leads_made, stays_take, stays_made}

-- a place that was lowered by the weight in hand is below it
pub hand_below : {S W Map : Type 0} {s : Operations W Map} (laws : IsSemiring s) (v v1 : TablesValue S W Map) → AreTables s v → (x : Place) → v1 ≡ with_entries Walk (lowered_in s x v.hand v.walk) v → Below s (weight_in s v1.walk x) v.hand
hand_below {S} {W} {Map} {s} laws v v1 valid x made = one_below laws x v.hand valid.hand v.walk v1.walk valid.walk.fits (ap (λ (u : TablesValue S W Map). u.walk) made)

-- ---- four places, one after the other
module _ {S W Map : Type 0} {s : Operations W Map} (laws : IsSemiring s) (v v1 v2 v3 v4 : TablesValue S W Map) (valid : AreTables s v) (b1 b2 b3 b4 : Bool) (x1 x2 x3 x4 : Place)
    (one : IsLoweredWhere s b1 x1 v v1) (two : IsLoweredWhere s b2 x2 v1 v2) (three : IsLoweredWhere s b3 x3 v2 v3) (four : IsLoweredWhere s b4 x4 v3 v4) where
  abbrev pub IsOneOf : Place → W → Type 0
  IsOneOf x w = (w ≡ v.hand) × (((b1 ≡ true) × (x ≡ x1)) ⊎ (((b2 ≡ true) × (x ≡ x2)) ⊎ (((b3 ≡ true) × (x ≡ x3)) ⊎ ((b4 ≡ true) × (x ≡ x4)))))

  one_fits : (x : Place) (w : W) → IsOneOf x w → Fits s w
  one_fits x w is = subst (Fits s) (sym is.0) valid.hand

  -- what is lowered by the hand of tables with other pairs is lowered by that of the first
  abbrev At : Bool → Place → Place → W → Type 0
  At b x0 x w = (b ≡ true) × (x ≡ x0) × (w ≡ v.hand)

  moved : (u u' : TablesValue S W Map) (b : Bool) (x0 : Place) → u ≡ with_entries Walk u.walk v → IsLoweredWhere s b x0 u u' → IsLoweredWhere s b x0 (with_entries Walk u.walk v) u'
  moved u u' b x0 others given = let P : TablesValue S W Map → Type 0 = λ t. IsLoweredWhere s b x0 t u' in subst P others given

  first : ArePairsLowered s IsOneOf v v1
  first = pairs_wider s (At b1 x1) IsOneOf (λ x w is. (is.2, inl (is.0, is.1))) v v1 one.lowered

  two' : IsLoweredWhere s b2 x2 (with_entries Walk v1.walk v) v2
  two' = moved v1 v2 b2 x2 first.others two

  step2 : ArePairsLowered s IsOneOf (with_entries Walk v1.walk v) v2
  step2 = pairs_wider s (At b2 x2) IsOneOf (λ x w is. (is.2, inr (inl (is.0, is.1)))) (with_entries Walk v1.walk v) v2 two'.lowered

  second : ArePairsLowered s IsOneOf v v2
  second = pairs_then s IsOneOf v v1 v2 first step2

  three' : IsLoweredWhere s b3 x3 (with_entries Walk v2.walk v) v3
  three' = moved v2 v3 b3 x3 second.others three

  step3 : ArePairsLowered s IsOneOf (with_entries Walk v2.walk v) v3
  step3 = pairs_wider s (At b3 x3) IsOneOf (λ x w is. (is.2, inr (inr (inl (is.0, is.1))))) (with_entries Walk v2.walk v) v3 three'.lowered

  third : ArePairsLowered s IsOneOf v v3
  third = pairs_then s IsOneOf v v2 v3 second step3

  four' : IsLoweredWhere s b4 x4 (with_entries Walk v3.walk v) v4
  four' = moved v3 v4 b4 x4 third.others four

  step4 : ArePairsLowered s IsOneOf (with_entries Walk v3.walk v) v4
  step4 = pairs_wider s (At b4 x4) IsOneOf (λ x w is. (is.2, inr (inr (inr (is.0, is.1))))) (with_entries Walk v3.walk v) v4 four'.lowered

  pub four_lowered : ArePairsLowered s IsOneOf v v4
  four_lowered = pairs_then s IsOneOf v v3 v4 third step4

  later2 : (x : Place) → Below s (weight_in s v1.walk x) v.hand → Below s (weight_in s v2.walk x) v.hand
  later2 x below = below_later laws IsOneOf one_fits (with_entries Walk v1.walk v) (pairs_fit laws IsOneOf one_fits v valid.walk.fits v1 first) v2 step2 x v.hand valid.hand below

  later3 : (x : Place) → Below s (weight_in s v2.walk x) v.hand → Below s (weight_in s v3.walk x) v.hand
  later3 x below = below_later laws IsOneOf one_fits (with_entries Walk v2.walk v) (pairs_fit laws IsOneOf one_fits v valid.walk.fits v2 second) v3 step3 x v.hand valid.hand below

  later4 : (x : Place) → Below s (weight_in s v3.walk x) v.hand → Below s (weight_in s v4.walk x) v.hand
  later4 x below = below_later laws IsOneOf one_fits (with_entries Walk v3.walk v) (pairs_fit laws IsOneOf one_fits v valid.walk.fits v3 third) v4 step4 x v.hand valid.hand below

  pub met1 : b1 ≡ true → Below s (weight_in s v4.walk x1) v.hand
  met1 is = later4 x1 (later3 x1 (later2 x1 (one.met is)))

  pub met2 : b2 ≡ true → Below s (weight_in s v4.walk x2) v.hand
  met2 is = later4 x2 (later3 x2 (two'.met is))

  pub met3 : b3 ≡ true → Below s (weight_in s v4.walk x3) v.hand
  met3 is = later4 x3 (three'.met is)

  pub met4 : b4 ≡ true → Below s (weight_in s v4.walk x4) v.hand
  met4 is = four'.met is

-- ---- from a state before an item
item_below : {X : Type 0} (xs : List X) (n : ℕ) (x : X) → slice_get xs n ≡ Some x → (m : ℕ) → m < n → (y : X) × (slice_get xs m ≡ Some y)
item_below [] n x at m less = cc
item_below (z ∷ zs) n x at zero less = (z, refl)
item_below (z ∷ zs) zero x at (suc m) less = absurd (omega (arith, less))
item_below (z ∷ zs) (suc n) x at (suc m) less = item_below zs n x at m (omega (arith, less))

item_at : {X : Type 0} (xs : List X) (k : ℕ) → k < length xs → (x : X) × (slice_get xs k ≡ Some x)
item_at [] k low = absurd (omega (arith, low))
item_at (x ∷ xs) zero low = (x, refl)
item_at (x ∷ xs) (suc k) low = item_at xs k (omega (arith, low))

all_starred : (xs : List Item) → IsTrue (list_all is_starred xs) → (i : ℕ) (x : Item) → slice_get xs i ≡ Some x → IsTrue x.star
all_starred [] all i x there = cc
all_starred (y ∷ ys) all zero x there = let P : Item → Type 0 = λ z. IsTrue z.star in subst P (same_Some y x there) (and_parts y.star (list_all is_starred ys) all).0
all_starred (y ∷ ys) all (suc i) x there = all_starred ys (and_parts y.star (list_all is_starred ys) all).1 i x there

starred_all : (xs : List Item) → ((i : ℕ) (x : Item) → slice_get xs i ≡ Some x → IsTrue x.star) → IsTrue (list_all is_starred xs)
starred_all [] each = refl
starred_all (y ∷ ys) each = and_from y.star (list_all is_starred ys) (each zero y refl) (starred_all ys (λ i x there. each (suc i) x there))

module _ (items : List Item) where
  pub stands_comes : (state k : ℕ) → StandsBefore items state k → ComesBefore items state k
  stands_comes state k stands = record { begins = k; stands = stands; above = omega arith; skips = λ i low high. absurd (omega (arith, low, high)) }

  pub skip_comes : (state k : ℕ) → ComesBefore items state k → IsSkipped items k → ComesBefore items state (suc k)
  skip_comes state k comes skipped = record {
    begins = comes.begins;
    stands = comes.stands;
    above = let above = comes.above in omega (arith, above);
    skips = λ i low high. elim (cases_lt i k) [
      | inl less ↦ comes.skips i low less
      | inr more ↦ let e : k ≡ i = omega (arith, more, high) in subst (IsSkipped items) e skipped
    ];
  }

  -- all items from one on, up to before another, have stars
  starred_from : (m k : ℕ) → ((i : ℕ) → m ≤ i → i < k → IsSkipped items i) → (i : ℕ) → i + m < k → (x : Item) → slice_get (drop m items) i ≡ Some x → IsTrue x.star
  starred_from m k skips i low x there =
      let is = skips (i + m) (omega arith) low in
      let P : Item → Type 0 = λ z. IsTrue z.star in
      subst P (same_Some is.0 x (sym is.1 ∙ sym (drop_get items m i) ∙ there)) is.2

  leads_on : (m k g : ℕ) → m ≤ k → ((i : ℕ) → m ≤ i → i < k → IsSkipped items i) → TakesAt items (suc k) g → IsEdge items (record { from = m; symbol = g; to = suc k })
  leads_on m k g low skips (x, there, has) =
      let n : ℕ = k - m in
      let e : n + m ≡ k = omega (arith, low) in
      let e' : suc k - 1 ≡ k = omega arith in
      inl (
        n,
        omega (arith, low),
        leads_made (drop m items) n g (λ i less y at. starred_from m k skips i (omega (arith, less, e)) y at) x (drop_get items m n ∙ ap (slice_get items) e ∙ ap (slice_get items) (sym e') ∙ there) has,
      )

  comes_is : (state k g : ℕ) → ComesBefore items state k → TakesAt items (suc k) g → IsEdge items (record { from = state; symbol = g; to = suc k })
  comes_is state k g comes takes = elim comes.stands [
    | inl same ↦ leads_on state k g (let above = comes.above in omega (arith, above, same)) (λ i low high. comes.skips i (omega (arith, low, same)) high) takes
    | inr (next, skipped) ↦
        let above = comes.above in
        elim (cases_lt comes.begins k) [
          | inl less ↦ leads_on state k g (omega (arith, less, next)) (λ i low high. comes.skips i (omega (arith, low, next)) high) takes
          | inr more ↦
              let e : comes.begins ≡ k = omega (arith, more, above) in
              let e' : suc k - 1 ≡ k = omega arith in
              let there : slice_get items k ≡ Some skipped.0 = ap (slice_get items) (sym e) ∙ skipped.1 in
              let item : takes.0 ≡ skipped.0 = same_Some takes.0 skipped.0 (sym takes.1 ∙ ap (slice_get items) e' ∙ there) in
              let P : Item → Type 0 = λ z. IsTrue (has_symbol g z.set) in
              inr (k, omega (arith, next, e), refl, stays_made items k g skipped.0 there skipped.2 (subst P item takes.2))
        ]
  ]

  pub comes_edge : (state k g : ℕ) → ComesBefore items state k → TakesAt items (suc k) g → IsIn (record { from = state; symbol = g; to = suc k }) (edges_of items)
  comes_edge state k g comes takes = (edges_are items (record { from = state; symbol = g; to = suc k })).1 (comes_is state k g comes takes)

  -- where an edge leads, and that its state comes before that item
  pub edge_comes : (state g j : ℕ) → IsIn (record { from = state; symbol = g; to = j }) (edges_of items) → (k : ℕ) × (j ≡ suc k) × ComesBefore items state k × TakesAt items (suc k) g
  edge_comes state g j edge = elim ((edges_are items (record { from = state; symbol = g; to = j })).0 edge) [
    | inl (n, to, leads) ↦
        let at = leads_take (drop state items) n g leads in
        let e : n + state ≡ state + n = omega arith in
        let e' : suc (state + n) - 1 ≡ n + state = omega arith in (
          state + n,
          to,
          record {
            begins = state;
            stands = inl refl;
            above = omega arith;
            skips = λ i low high.
                let m : ℕ = i - state in
                let back : m + state ≡ i = omega (arith, low) in
                let less : m < n = omega (arith, low, high) in
                let y = item_below (drop state items) n at.0 at.1 m less in
                (y.0, sym (ap (slice_get items) back) ∙ sym (drop_get items state m) ∙ y.1, leads_starred (drop state items) n g leads m less y.0 y.1);
          },
          (at.0, ap (slice_get items) e' ∙ sym (drop_get items state n) ∙ at.1, at.2),
        )
    | inr (k, from, to, stay) ↦
        let at = stays_take items k g stay in
        let e' : suc k - 1 ≡ k = omega arith in (
          k,
          to,
          stands_comes state k (inr (sym from, (at.0, at.1, at.2))),
          (at.0, ap (slice_get items) e' ∙ at.1, at.3),
        )
  ]

  -- a final state comes behind all items, and only such a one does
  pub final_comes : (state : ℕ) → IsTrue (is_final_of items state) → (state ≤ length items) × ComesBefore items state (length items)
  final_comes state final =
      let parts = and_parts (nat_le state (length items)) (list_all is_starred (drop state items)) final in
      let low = leb-true state (length items) parts.0 in (
        low,
        record {
          begins = state;
          stands = inl refl;
          above = low;
          skips = λ i from high.
              let m : ℕ = i - state in
              let back : m + state ≡ i = omega (arith, from) in
              let x = item_at items i high in
              (x.0, x.1, all_starred (drop state items) parts.1 m x.0 (drop_get items state m ∙ ap (slice_get items) back ∙ x.1));
        },
      )

  skipped_within : (k : ℕ) → IsSkipped items k → k < length items
  skipped_within k skipped = slice_get_within items k skipped.0 skipped.1

  pub comes_within : (state k : ℕ) → ComesBefore items state k → k ≤ length items → state ≤ length items
  comes_within state k comes within = elim comes.stands [
    | inl same ↦ let above = comes.above in omega (arith, same, above, within)
    | inr (next, skipped) ↦ let low = skipped_within comes.begins skipped in omega (arith, next, low)
  ]

  pub comes_final : (state : ℕ) → ComesBefore items state (length items) → IsTrue (is_final_of items state)
  comes_final state comes =
      let low : state ≤ length items = comes_within state (length items) comes (omega arith) in
      let begins : comes.begins ≤ state = elim comes.stands [ inl same ↦ omega (arith, same) | inr (next, _) ↦ omega (arith, next) ] in
      and_from (nat_le state (length items)) (list_all is_starred (drop state items)) (le-leb state (length items) low)
      (starred_all (drop state items) (λ i x there.
      let at : slice_get items (i + state) ≡ Some x = sym (drop_get items state i) ∙ there in
      let is = comes.skips (i + state) (omega (arith, begins)) (slice_get_within items (i + state) x at) in
      let P : Item → Type 0 = λ z. IsTrue z.star in
      subst P (same_Some is.0 x (sym is.1 ∙ at)) is.2))

-- ---- settled pairs go along all edges
module _ {W Map : Type 0} {s : Operations W Map} (laws : IsSemiring s) (one other : List Item) (pair counts before : ℕ → ℕ → W) (answer : W) (fp : (i a : ℕ) → Fits s (pair i a)) (fc : (i a : ℕ) → Fits s (counts i a)) (fb : (k l : ℕ) → Fits s (before k l)) (fa : Fits s answer)
    (settled : AreReadingsSettled s one other pair counts before before answer) where
  along : (n k l : ℕ) → l ≤ length other → ((i : ℕ) → k ≤ i → i < n + k → IsSkipped one i) → Below s (before (n + k) l) (before k l)
  along zero k l within skips = let e : 0 + k ≡ k = omega arith in let P : ℕ → Type 0 = λ q. Below s (before q l) (before k l) in subst P (sym e) (below_itself laws (before k l) (fb k l))
  along (suc n) k l within skips =
      let e : suc n + k ≡ suc (n + k) = omega arith in
      let P : ℕ → Type 0 = λ q. Below s (before q l) (before k l) in
      subst P (sym e) (below_trans laws (before (suc (n + k)) l) (before (n + k) l) (before k l) (fb (suc (n + k)) l) (fb (n + k) l) (fb k l)
      ((settled.befores (n + k) l).skips within (skips (n + k) (omega arith) (omega arith))) (along n k l within (λ i low high. skips i low (omega (arith, high)))))

  along_other : (n k l : ℕ) → k ≤ length one → ((i : ℕ) → l ≤ i → i < n + l → IsSkipped other i) → Below s (before k (n + l)) (before k l)
  along_other zero k l within skips = let e : 0 + l ≡ l = omega arith in let P : ℕ → Type 0 = λ q. Below s (before k q) (before k l) in subst P (sym e) (below_itself laws (before k l) (fb k l))
  along_other (suc n) k l within skips =
      let e : suc n + l ≡ suc (n + l) = omega arith in
      let P : ℕ → Type 0 = λ q. Below s (before k q) (before k l) in
      subst P (sym e) (below_trans laws (before k (suc (n + l))) (before k (n + l)) (before k l) (fb k (suc (n + l))) (fb k (n + l)) (fb k l)
      ((settled.befores k (n + l)).skips_other within (skips (n + l) (omega arith) (omega arith))) (along_other n k l within (λ i low high. skips i low (omega (arith, high)))))

  come : (i a k l : ℕ) → i ≤ length one → a ≤ length other → k ≤ length one → l ≤ length other → ComesBefore one i k → ComesBefore other a l → Below s (before k l) (counts i a)
  come i a k l low low' high high' comes comes' =
      let m : ℕ = comes.begins in
      let m' : ℕ = comes'.begins in
      let n : ℕ = k - m in
      let n' : ℕ = l - m' in
      let e : n + m ≡ k = let above = comes.above in omega (arith, above) in
      let e' : n' + m' ≡ l = let above = comes'.above in omega (arith, above) in
      let first : Below s (before m m') (counts i a) = (settled.pairs i a).stands low low' m m' comes.stands comes'.stands in
      let P : ℕ → Type 0 = λ q. Below s (before q m') (before m m') in
      let Q : ℕ → Type 0 = λ q. Below s (before k q) (before k m') in
      let second : Below s (before k m') (before m m') = subst P e (along n m m' (let above = comes'.above in omega (arith, above, high')) (λ j from high. comes.skips j from (omega (arith, high, e)))) in
      let third : Below s (before k l) (before k m') = subst Q e' (along_other n' k m' high (λ j from high. comes'.skips j from (omega (arith, high, e')))) in
      below_trans laws (before k l) (before k m') (counts i a) (fb k l) (fb k m') (fc i a) third (below_trans laws (before k m') (before m m') (counts i a) (fb k m') (fb m m') (fc i a) second first)

  taken_within : (items : List Item) (k g : ℕ) → TakesAt items (suc k) g → k < length items
  taken_within items k g takes = let low = slice_get_within items (suc k - 1) takes.0 takes.1 in omega (arith, low)

  pub readings_read : (g i j a b : ℕ) → IsIn (record { from = i; symbol = g; to = j }) (edges_of one) → IsIn (record { from = a; symbol = g; to = b }) (edges_of other) → Below s (pair j b) (counts i a)
  readings_read g i j a b edge edge' =
      let (k, to, comes, takes) = edge_comes one i g j edge in
      let (l, to', comes', takes') = edge_comes other a g b edge' in
      let high = taken_within one k g takes in
      let high' = taken_within other l g takes' in
      let low : i ≤ length one = comes_within one i k comes (omega (arith, high)) in
      let low' : a ≤ length other = comes_within other a l comes' (omega (arith, high')) in
      let here : Below s (pair (suc k) (suc l)) (before k l) = (settled.befores k l).reads g takes takes' in
      let P : ℕ → Type 0 = λ q. Below s (pair q b) (counts i a) in
      let Q : ℕ → Type 0 = λ q. Below s (pair (suc k) q) (counts i a) in
      subst P (sym to) (subst Q (sym to') (below_trans laws (pair (suc k) (suc l)) (before k l) (counts i a) (fp (suc k) (suc l)) (fb k l) (fc i a) here (come i a k l low low' (omega (arith, high)) (omega (arith, high')) comes comes')))

  pub readings_end : (i a : ℕ) → IsTrue (is_final_of one i) → IsTrue (is_final_of other a) → Below s answer (counts i a)
  readings_end i a final final' =
      let (low, comes) = final_comes one i final in
      let (low', comes') = final_comes other a final' in
      below_trans laws answer (before (length one) (length other)) (counts i a) fa (fb (length one) (length other)) (fc i a)
      ((settled.befores (length one) (length other)).ends refl refl) (come i a (length one) (length other) low low' (omega arith) (omega arith) comes comes')

-- ---- what was given stays given
module _ {W Map : Type 0} {s : Operations W Map} (laws : IsSemiring s) (one other : List Item) where
  below_kept : (x x' w w' : W) → Fits s x → Fits s x' → Fits s w → Below s x' x → (w' ≡ w) ⊎ (w' ≡ s.zero) → Below s x w → Below s x' w'
  below_kept x x' w w' fx fx' fw falls (inl same) below = let P : W → Type 0 = Below s x' in subst P (sym same) (below_trans laws x' x w fx' fx fw falls below)
  below_kept x x' w w' fx fx' fw falls (inr none) below = let P : W → Type 0 = Below s x' in subst P (sym none) (below_zero laws x' fx')

  module _ (before before' : ℕ → ℕ → W) (fb : (k l : ℕ) → Fits s (before k l)) (fb' : (k l : ℕ) → Fits s (before' k l)) (fall : (k l : ℕ) → Below s (before' k l) (before k l)) (w w' : W) (fw : Fits s w) (counts : (w' ≡ w) ⊎ (w' ≡ s.zero)) where
    pub pair_kept : (i a : ℕ) → IsPairRead s one other i a w before → IsPairRead s one other i a w' before'
    pair_kept i a was = record { stands = λ low low' k l stands stands'. below_kept (before k l) (before' k l) w w' (fb k l) (fb' k l) fw (fall k l) counts (was.stands low low' k l stands stands') }

    pub before_kept : (pair pair' : ℕ → ℕ → W) → ((i a : ℕ) → Fits s (pair i a)) → ((i a : ℕ) → Fits s (pair' i a)) → ((i a : ℕ) → Below s (pair' i a) (pair i a)) → (answer answer' : W) → Fits s answer → Fits s answer' → Below s answer' answer
        → (k l : ℕ) → IsBeforeRead s one other k l w pair before answer → IsBeforeRead s one other k l w' pair' before' answer'
    before_kept pair pair' fp fp' fall' answer answer' fa fa' fall'' k l was = record {
      skips = λ within skipped. below_kept (before (suc k) l) (before' (suc k) l) w w' (fb (suc k) l) (fb' (suc k) l) fw (fall (suc k) l) counts (was.skips within skipped);
      skips_other = λ within skipped. below_kept (before k (suc l)) (before' k (suc l)) w w' (fb k (suc l)) (fb' k (suc l)) fw (fall k (suc l)) counts (was.skips_other within skipped);
      reads = λ g takes takes'. below_kept (pair (suc k) (suc l)) (pair' (suc k) (suc l)) w w' (fp (suc k) (suc l)) (fp' (suc k) (suc l)) fw (fall' (suc k) (suc l)) counts (was.reads g takes takes');
      ends = λ e e'. below_kept answer answer' w w' fa fa' fw fall'' counts (was.ends e e');
    }

-- ---- what the code tells of two patterns
module _ (items : List Item) where
  stays_before : (state : ℕ) → StaysAt items state → StandsBefore items state (state - 1)
  stays_before state stays = let low = stays.1 in inr (omega (arith, low), (stays.0, stays.2, stays.3))

  before_is : (state k : ℕ) → StandsBefore items state k → (k ≡ state) ⊎ ((k ≡ state - 1) × StaysAt items state)
  before_is state k (inl same) = inl same
  before_is state k (inr (next, skipped)) =
      let e : k ≡ state - 1 = omega (arith, next) in
      inr (e, (skipped.0, omega (arith, next), sym (ap (slice_get items) e) ∙ skipped.1, skipped.2))

module _ {S W Map : Type 0} {s : Operations W Map} (laws : IsSemiring s) (v v1 v2 v3 v4 : TablesValue S W Map) (valid : AreTables s v) (one other : List Item) where
  -- a pair of states, of which each may be that of a starred item
  module _ (i a : ℕ) (low : i ≤ length one) (low' : a ≤ length other) (b b' both : Bool) (stays : IsTrue b ↔ StaysAt one i) (stays' : IsTrue b' ↔ StaysAt other a) (yes : IsTrue both → StaysAt one i × StaysAt other a)
      (no : StaysAt one i → StaysAt other a → IsTrue both) (k l : ℕ) (k-is : k ≡ i - 1) (l-is : l ≡ a - 1)
      (first : IsLoweredWhere s true (pair_place Before i a) v v1) (second : IsLoweredWhere s b (pair_place Before k a) v1 v2) (third : IsLoweredWhere s b' (pair_place Before i l) v2 v3)
      (fourth : IsLoweredWhere s both (pair_place Before k l) v3 v4) where
    again : StaysAt one i → StandsBefore one i k
    again is = subst (StandsBefore one i) (sym k-is) (stays_before one i is)

    again' : StaysAt other a → StandsBefore other a l
    again' is = subst (StandsBefore other a) (sym l-is) (stays_before other a is)

    abbrev Here : ℕ → ℕ → Type 0
    Here m n = Below s (weight_in s v4.walk (pair_place Before m n)) v.hand

    met : (m n : ℕ) → StandsBefore one i m → StandsBefore other a n → Here m n
    met m n stands stands' = elim (before_is one i m stands) [
      | inl e ↦ elim (before_is other a n stands') [
        | inl e' ↦ let P : ℕ → Type 0 = λ q. Here q n in let Q : ℕ → Type 0 = Here i in
            subst P (sym e) (subst Q (sym e') (met1 laws v v1 v2 v3 v4 valid true b b' both (pair_place Before i a) (pair_place Before k a) (pair_place Before i l) (pair_place Before k l) first second third fourth refl))
        | inr (e', is') ↦ let P : ℕ → Type 0 = λ q. Here q n in let Q : ℕ → Type 0 = Here i in
            subst P (sym e) (subst Q (l-is ∙ sym e') (met3 laws v v1 v2 v3 v4 valid true b b' both (pair_place Before i a) (pair_place Before k a) (pair_place Before i l) (pair_place Before k l) first second third fourth (stays'.1 is')))
      ]
      | inr (e, is) ↦ elim (before_is other a n stands') [
        | inl e' ↦ let P : ℕ → Type 0 = λ q. Here q n in let Q : ℕ → Type 0 = Here k in
            subst P (k-is ∙ sym e) (subst Q (sym e') (met2 laws v v1 v2 v3 v4 valid true b b' both (pair_place Before i a) (pair_place Before k a) (pair_place Before i l) (pair_place Before k l) first second third fourth (stays.1 is)))
        | inr (e', is') ↦ let P : ℕ → Type 0 = λ q. Here q n in let Q : ℕ → Type 0 = Here k in
            subst P (k-is ∙ sym e) (subst Q (l-is ∙ sym e') (met4 laws v v1 v2 v3 v4 valid true b b' both (pair_place Before i a) (pair_place Before k a) (pair_place Before i l) (pair_place Before k l) first second third fourth (no is is')))
      ]
    ]

    stand : (m n : ℕ) → StandsBefore one i m → StandsBefore other a n → (x : Place) (w : W) → w ≡ v.hand → x ≡ pair_place Before m n → IsStand v.hand one other i a x w
    stand m n stands stands' x w weight place = record { within = low; within_other = low'; item = m; item_other = n; stands = stands; stands_other = stands'; place = place; weight = weight }

    pub pair_given : IsPairGiven s v one other i a v4
    pair_given = record {
      lowered = pairs_wider s (IsOneOf laws v v1 v2 v3 v4 valid true b b' both (pair_place Before i a) (pair_place Before k a) (pair_place Before i l) (pair_place Before k l) first second third fourth) (IsStand v.hand one other i a)
          (λ x w is. elim is.1 [
            | inl (_, place) ↦ stand i a (inl refl) (inl refl) x w is.0 place
            | inr (inl (on, place)) ↦ stand k a (again (stays.0 on)) (inl refl) x w is.0 place
            | inr (inr (inl (on, place))) ↦ stand i l (inl refl) (again' (stays'.0 on)) x w is.0 place
            | inr (inr (inr (on, place))) ↦ stand k l (again (yes on).0) (again' (yes on).1) x w is.0 place
          ]) v v4 (four_lowered laws v v1 v2 v3 v4 valid true b b' both (pair_place Before i a) (pair_place Before k a) (pair_place Before i l) (pair_place Before k l) first second third fourth);
      met = record { stands = λ _ _. met };
    }

  -- what stands before two items
  module _ (stage : Stage) (k l : ℕ) (b b' reads ends : Bool) (skips : IsTrue b ↔ IsSkipped one k) (skips' : IsTrue b' ↔ IsSkipped other l) (both : IsTrue reads ↔ ((g : ℕ) × TakesAt one (suc k) g × TakesAt other (suc l) g))
      (yes : IsTrue ends → (k ≡ length one) × (l ≡ length other)) (no : k ≡ length one → l ≡ length other → IsTrue ends)
      (first : IsLoweredWhere s b (pair_place Before (suc k) l) v v1) (second : IsLoweredWhere s b' (pair_place Before k (suc l)) v1 v2) (third : IsLoweredWhere s reads (pair_place stage (suc k) (suc l)) v2 v3)
      (fourth : IsLoweredWhere s ends answer_place v3 v4) where
    pub before_given : IsBeforeGiven s v one other stage k l v4
    before_given =
        let x1 : Place = pair_place Before (suc k) l in
        let x2 : Place = pair_place Before k (suc l) in
        let x3 : Place = pair_place stage (suc k) (suc l) in
        record {
          lowered = pairs_wider s (IsOneOf laws v v1 v2 v3 v4 valid b b' reads ends x1 x2 x3 answer_place first second third fourth) (IsStep v.hand one other stage k l)
              (λ x w is. (
                is.0,
                elim is.1 [
                  | inl (on, place) ↦ inl (skips.0 on, place)
                  | inr (inl (on, place)) ↦ inr (inl (skips'.0 on, place))
                  | inr (inr (inl (on, place))) ↦ let it = both.0 on in inr (inr (inl (it.0, it.1, it.2, place)))
                  | inr (inr (inr (on, place))) ↦ inr (inr (inr ((yes on).0, (yes on).1, place)))
                ],
              )) v v4 (four_lowered laws v v1 v2 v3 v4 valid b b' reads ends x1 x2 x3 answer_place first second third fourth);
          met = record {
            skips = λ _ is. met1 laws v v1 v2 v3 v4 valid b b' reads ends x1 x2 x3 answer_place first second third fourth (skips.1 is);
            skips_other = λ _ is. met2 laws v v1 v2 v3 v4 valid b b' reads ends x1 x2 x3 answer_place first second third fourth (skips'.1 is);
            reads = λ g takes takes'. met3 laws v v1 v2 v3 v4 valid b b' reads ends x1 x2 x3 answer_place first second third fourth (both.1 (g, takes, takes'));
            ends = λ e e'. met4 laws v v1 v2 v3 v4 valid b b' reads ends x1 x2 x3 answer_place first second third fourth (no e e');
          };
        }

  -- where the numbers are none of the patterns', nothing is given
  pub no_pair_given : (i a : ℕ) → (i ≤ length one → a ≤ length other → ⊥) → IsPairGiven s v one other i a v
  no_pair_given i a none = record { lowered = none_pairs s (IsStand v.hand one other i a) v; met = record { stands = λ low low' _ _ _ _. absurd (none low low') } }

  pub no_before_given : (stage : Stage) (k l : ℕ) → (k ≤ length one → l ≤ length other → ⊥) → IsBeforeGiven s v one other stage k l v
  no_before_given stage k l none = record {
    lowered = none_pairs s (IsStep v.hand one other stage k l) v;
    met = record {
      skips = λ within is. absurd (none (let low = slice_get_within one k is.0 is.1 in omega (arith, low)) within);
      skips_other = λ within is. absurd (none within (let low = slice_get_within other l is.0 is.1 in omega (arith, low)));
      reads = λ g takes takes'. absurd (none (let low = slice_get_within one (suc k - 1) takes.0 takes.1 in omega (arith, low)) (let low = slice_get_within other (suc l - 1) takes'.0 takes'.1 in omega (arith, low)));
      ends = λ e e'. absurd (none (omega (arith, e)) (omega (arith, e')));
    };
  }

-- ---- places that were lowered one after the other, each said of the tables as they stood
module _ {S W Map : Type 0} (operations : S → Operations W Map) (v v1 v2 v3 v4 : TablesValue S W Map) (b1 b2 b3 b4 : Bool) (x1 x2 x3 x4 : Place)
    (one : IsLoweredWhere (operations v.system.semiring) b1 x1 v v1) (two : IsLoweredWhere (operations v1.system.semiring) b2 x2 v1 v2) (three : IsLoweredWhere (operations v2.system.semiring) b3 x3 v2 v3)
    (four : IsLoweredWhere (operations v3.system.semiring) b4 x4 v3 v4) where
  system_of : (u u' : TablesValue S W Map) → u' ≡ with_entries Walk u'.walk u → u'.system ≡ u.system
  system_of u u' others = ap (λ (t : TablesValue S W Map). t.system) others

  at_first : (b : Bool) (x : Place) (u u' : TablesValue S W Map) → u.system ≡ v.system → IsLoweredWhere (operations u.system.semiring) b x u u' → IsLoweredWhere (operations v.system.semiring) b x u u'
  at_first b x u u' same given = subst (λ p. IsLoweredWhere (operations p.semiring) b x u u') same given

  same1 : v1.system ≡ v.system
  same1 = system_of v v1 one.lowered.others

  same2 : v2.system ≡ v.system
  same2 = system_of v1 v2 two.lowered.others ∙ same1

  same3 : v3.system ≡ v.system
  same3 = system_of v2 v3 three.lowered.others ∙ same2

  pub second_first : IsLoweredWhere (operations v.system.semiring) b2 x2 v1 v2
  second_first = at_first b2 x2 v1 v2 same1 two

  pub third_first : IsLoweredWhere (operations v.system.semiring) b3 x3 v2 v3
  third_first = at_first b3 x3 v2 v3 same2 three

  pub fourth_first : IsLoweredWhere (operations v.system.semiring) b4 x4 v3 v4
  fourth_first = at_first b4 x4 v3 v4 same3 four

-- ---- one pattern alone
-- where nothing is to be lowered, nothing is
pub nothing_lowered : {S W Map : Type 0} (s : Operations W Map) (x : Place) (v : TablesValue S W Map) → IsLoweredWhere s false x v v
nothing_lowered s x v = record { lowered = none_pairs s (λ y w. (false ≡ true) × (y ≡ x) × (w ≡ v.hand)) v; met = λ e. absurd (false≢true e) }

module _ {W Map : Type 0} {s : Operations W Map} (laws : IsSemiring s) (one : List Item) where
  module _ (above above' : ℕ → ℕ → W) (fb : (k c : ℕ) → Fits s (above k c)) (fb' : (k c : ℕ) → Fits s (above' k c)) (fall : (k c : ℕ) → Below s (above' k c) (above k c)) (w w' : W) (fw : Fits s w) (counts : (w' ≡ w) ⊎ (w' ≡ s.zero)) where
    pub state_kept : (i c : ℕ) → IsStateRead s one i c w above → IsStateRead s one i c w' above'
    state_kept i c was = record { stands = λ low k stands. below_kept laws one [] (above k c) (above' k c) w w' (fb k c) (fb' k c) fw (fall k c) counts (was.stands low k stands) }

    pub skip_kept : (k c : ℕ) → IsItemSkipped s one k c w above → IsItemSkipped s one k c w' above'
    skip_kept k c was skipped = below_kept laws one [] (above (suc k) c) (above' (suc k) c) w w' (fb (suc k) c) (fb' (suc k) c) fw (fall (suc k) c) counts (was skipped)

  -- settled, a state goes along all of its edges
  module _ (state above : ℕ → ℕ → W) (fs : (i c : ℕ) → Fits s (state i c)) (fb : (k c : ℕ) → Fits s (above k c)) (reads : (i c : ℕ) → IsStateRead s one i c (state i c) above)
      (skips : (k c : ℕ) → IsItemSkipped s one k c (above k c) above) where
    up : (n k c : ℕ) → ((i : ℕ) → k ≤ i → i < n + k → IsSkipped one i) → Below s (above (n + k) c) (above k c)
    up zero k c starred = let e : 0 + k ≡ k = omega arith in let P : ℕ → Type 0 = λ q. Below s (above q c) (above k c) in subst P (sym e) (below_itself laws (above k c) (fb k c))
    up (suc n) k c starred =
        let e : suc n + k ≡ suc (n + k) = omega arith in
        let P : ℕ → Type 0 = λ q. Below s (above q c) (above k c) in
        subst P (sym e) (below_trans laws (above (suc (n + k)) c) (above (n + k) c) (above k c) (fb (suc (n + k)) c) (fb (n + k) c) (fb k c)
        (skips (n + k) c (starred (n + k) (omega arith) (omega arith))) (up n k c (λ i low high. starred i low (omega (arith, high)))))

    comes_above : (i k c : ℕ) → i ≤ length one → ComesBefore one i k → Below s (above k c) (state i c)
    comes_above i k c low comes =
        let m : ℕ = comes.begins in
        let n : ℕ = k - m in
        let e : n + m ≡ k = let over = comes.above in omega (arith, over) in
        let P : ℕ → Type 0 = λ q. Below s (above q c) (above m c) in
        below_trans laws (above k c) (above m c) (state i c) (fb k c) (fb m c) (fs i c) (subst P e (up n m c (λ j from high. comes.skips j from (omega (arith, high, e))))) ((reads i c).stands low m comes.stands)

    pub edge_above : (g i j c : ℕ) → IsIn (record { from = i; symbol = g; to = j }) (edges_of one) → (k : ℕ) × (j ≡ suc k) × TakesAt one (suc k) g × Below s (above k c) (state i c)
    edge_above g i j c edge =
        let (k, to, comes, takes) = edge_comes one i g j edge in
        let high = slice_get_within one (suc k - 1) takes.0 takes.1 in
        let low : i ≤ length one = comes_within one i k comes (omega (arith, high)) in
        (k, to, takes, comes_above i k c low comes)

module _ {S W Map : Type 0} {s : Operations W Map} (laws : IsSemiring s) (v v1 v2 : TablesValue S W Map) (valid : AreTables s v) (one : List Item) where
  module _ (i c : ℕ) (low : i ≤ length one) (b : Bool) (stays : IsTrue b ↔ StaysAt one i) (k : ℕ) (k-is : k ≡ i - 1) (first : IsLoweredWhere s true (pair_place Above i c) v v1) (second : IsLoweredWhere s b (pair_place Above k c) v1 v2) where
    abbrev x1 : Place
    x1 = pair_place Above i c

    abbrev x2 : Place
    x2 = pair_place Above k c

    none' : IsLoweredWhere s false x2 v2 v2
    none' = nothing_lowered s x2 v2

    at_item : (n : ℕ) → StandsBefore one i n → Below s (weight_in s v2.walk (pair_place Above n c)) v.hand
    at_item n stands = elim (before_is one i n stands) [
      | inl e ↦ let P : ℕ → Type 0 = λ q. Below s (weight_in s v2.walk (pair_place Above q c)) v.hand in subst P (sym e) (met1 laws v v1 v2 v2 v2 valid true b false false x1 x2 x2 x2 first second none' none' refl)
      | inr (e, is) ↦ let P : ℕ → Type 0 = λ q. Below s (weight_in s v2.walk (pair_place Above q c)) v.hand in
          subst P (k-is ∙ sym e) (met2 laws v v1 v2 v2 v2 valid true b false false x1 x2 x2 x2 first second none' none' (stays.1 is))
    ]

    pub state_given : IsStateGiven s v one i c v2
    state_given = record {
      lowered = pairs_wider s (IsOneOf laws v v1 v2 v2 v2 valid true b false false x1 x2 x2 x2 first second none' none') (IsStateStand v.hand one i c)
          (λ x w is. elim is.1 [
            | inl (_, place) ↦ record { within = low; item = i; stands = inl refl; place = place; weight = is.0 }
            | inr (inl (on, place)) ↦ record { within = low; item = k; stands = subst (StandsBefore one i) (sym k-is) (stays_before one i (stays.0 on)); place = place; weight = is.0 }
            | inr (inr (inl (on, _))) ↦ absurd (false≢true on)
            | inr (inr (inr (on, _))) ↦ absurd (false≢true on)
          ]) v v2 (four_lowered laws v v1 v2 v2 v2 valid true b false false x1 x2 x2 x2 first second none' none');
      met = record { stands = λ _. at_item };
    }

  pub no_state_given : (i c : ℕ) → (i ≤ length one → ⊥) → IsStateGiven s v one i c v
  no_state_given i c none = record { lowered = none_pairs s (IsStateStand v.hand one i c) v; met = record { stands = λ low _ _. absurd (none low) } }

  pub skip_given : (k c : ℕ) (b : Bool) → (IsTrue b ↔ IsSkipped one k) → IsLoweredWhere s b (pair_place Above (suc k) c) v v1 → IsSkipGiven s v one k c v1
  skip_given k c b skips first = record {
    lowered = pairs_wider s (λ x w. (b ≡ true) × (x ≡ pair_place Above (suc k) c) × (w ≡ v.hand)) (IsItemSkip v.hand one k c) (λ x w is. record { skipped = skips.0 is.0; place = is.1; weight = is.2 }) v v1 first.lowered;
    met = λ skipped. first.met (skips.1 skipped);
  }

  pub no_skip_given : (k c : ℕ) → (k ≤ length one → ⊥) → IsSkipGiven s v one k c v
  no_skip_given k c none = record {
    lowered = none_pairs s (IsItemSkip v.hand one k c) v;
    met = λ skipped. absurd (none (let low = slice_get_within one k skipped.0 skipped.1 in omega (arith, low)));
  }
