-- What finitely many lowerings keep.
use Rattle.std.proofs.Common.{◌≡◌, ◌⊎◌, inl, inr, ◌<◌, ◌≤◌, ◌^◌, true, false, List, [], ◌∷◌, ◌++◌, length, refl, sym, ap, ◌∙◌, subst, arith}
use Rattle.std.specs.Prelude.{if◌then◌else◌}
use Rattle.std.specs.List.{AllByRecursion}
use Rattle.semiring_laws.specs.Semiring.{Operations, IsSemiring, Fits, Below}
use Rattle.semiring_laws.proofs.CallerLemmas.{below_itself, below_trans, combine_below_left, combine_below_right}
use Rattle.weighted_automata.specs.declared.place.Place.{Place}
use Rattle.weighted_automata.specs.Places.{same_place}
use Rattle.weighted_automata.proofs.CallerLemmas.{cases_place}
use Rattle.weight_tables.specs.Entries.{TableEntry, lowered_entry, lowered_in, weight_in, settled_in}
use Rattle.weight_tables.specs.Turns.{turns_left}
use Rattle.weight_tables.proofs.CallerLemmas.{lowered_weight_here, lowered_weight_other, lowered_settled_here, lowered_settled_other, lowered_turns, place_fits}
use Rattle.walk_pairs.specs.Lowerings.{Lowering, lowered_by, AreLowered}

module _ {W Map : Type 0} (s : Operations W Map) where
  abbrev pub AllFit : List (TableEntry W) → Type 0
  AllFit es = AllByRecursion (λ e. Fits s e.weight) es

  -- of the places of entries
  abbrev pub AllPlaces : (Place → Type 0) → List (TableEntry W) → Type 0
  AllPlaces Q es = AllByRecursion (λ e. Q e.place) es

  -- none, and one
  pub none_lowered : (Is : Place → W → Type 0) (es : List (TableEntry W)) → AreLowered s Is es es
  none_lowered Is es = record { steps = []; each = tt; made = refl }

  pub one_lowered : (Is : Place → W → Type 0) (x : Place) (w : W) → Is x w → (es es' : List (TableEntry W)) → es' ≡ lowered_in s x w es → AreLowered s Is es es'
  one_lowered Is x w is es es' made = record { steps = record { place = x; weight = w } ∷ []; each = (is, tt); made = made }

  -- one after the other
  lowered_append : (xs ys : List (Lowering W)) (es : List (TableEntry W)) → lowered_by s (xs ++ ys) es ≡ lowered_by s ys (lowered_by s xs es)
  lowered_append [] ys es = refl
  lowered_append (x ∷ xs) ys es = lowered_append xs ys (lowered_in s x.place x.weight es)

  each_append : (P : Lowering W → Type 0) (xs ys : List (Lowering W)) → AllByRecursion P xs → AllByRecursion P ys → AllByRecursion P (xs ++ ys)
  each_append P [] ys a b = b
  each_append P (x ∷ xs) ys a b = (a.0, each_append P xs ys a.1 b)

  each_wider : (P Q : Lowering W → Type 0) → ((x : Lowering W) → P x → Q x) → (xs : List (Lowering W)) → AllByRecursion P xs → AllByRecursion Q xs
  each_wider P Q wider [] a = tt
  each_wider P Q wider (x ∷ xs) a = (wider x a.0, each_wider P Q wider xs a.1)

  pub lowered_then : (Is : Place → W → Type 0) (a b c : List (TableEntry W)) → AreLowered s Is a b → AreLowered s Is b c → AreLowered s Is a c
  lowered_then Is a b c one two = record {
    steps = one.steps ++ two.steps;
    each = each_append (λ x. Is x.place x.weight) one.steps two.steps one.each two.each;
    made = two.made ∙ ap (lowered_by s two.steps) one.made ∙ sym (lowered_append one.steps two.steps a);
  }

  pub lowered_wider : (Is Or : Place → W → Type 0) → ((x : Place) (w : W) → Is x w → Or x w) → (a b : List (TableEntry W)) → AreLowered s Is a b → AreLowered s Or a b
  lowered_wider Is Or wider a b one = record { steps = one.steps; each = each_wider (λ x. Is x.place x.weight) (λ x. Or x.place x.weight) (λ x is. wider x.place x.weight is) one.steps one.each; made = one.made }

module _ {W Map : Type 0} {s : Operations W Map} (laws : IsSemiring s) where
  entry_fits : (w : W) (e : TableEntry W) → Fits s w → Fits s e.weight → Fits s (lowered_entry s w e).weight
  entry_fits w e fw fe =
      elim (s.same (s.combine e.weight w) e.weight) as (λ b. let d : TableEntry W = if b then e else record { place = e.place; weight = s.combine e.weight w; waits = true } in Fits s d.weight) [
        | true ↦ fe
        | false ↦ laws.fits-combine e.weight w fe fw
      ]

  lowered_fits : (x : Place) (w : W) → Fits s w → (es : List (TableEntry W)) → AllFit s es → AllFit s (lowered_in s x w es)
  lowered_fits x w fw [] all = elim (s.same w s.zero) as (λ b. AllFit s (if b then [] else record { place = x; weight = w; waits = true } ∷ [])) [ true ↦ tt | false ↦ (fw, tt) ]
  lowered_fits x w fw (e ∷ es) all = elim (same_place e.place x) as (λ b. AllFit s (if b then lowered_entry s w e ∷ es else e ∷ lowered_in s x w es)) [
    | true ↦ (entry_fits w e fw all.0, all.1)
    | false ↦ (all.0, lowered_fits x w fw es all.1)
  ]

  entry_place : (w : W) (e : TableEntry W) → (Q : Place → Type 0) → Q e.place → Q (lowered_entry s w e).place
  entry_place w e Q q =
      elim (s.same (s.combine e.weight w) e.weight) as (λ b. let d : TableEntry W = if b then e else record { place = e.place; weight = s.combine e.weight w; waits = true } in Q d.place) [ true ↦ q | false ↦ q ]

  lowered_all_places : (Q : Place → Type 0) (x : Place) (w : W) → Q x → (es : List (TableEntry W)) → AllPlaces s Q es → AllPlaces s Q (lowered_in s x w es)
  lowered_all_places Q x w q [] all = elim (s.same w s.zero) as (λ b. AllPlaces s Q (if b then [] else record { place = x; weight = w; waits = true } ∷ [])) [ true ↦ tt | false ↦ (q, tt) ]
  lowered_all_places Q x w q (e ∷ es) all = elim (same_place e.place x) as (λ b. AllPlaces s Q (if b then lowered_entry s w e ∷ es else e ∷ lowered_in s x w es)) [
    | true ↦ (entry_place w e Q all.0, all.1)
    | false ↦ (all.0, lowered_all_places Q x w q es all.1)
  ]

  lowered_longer : (x : Place) (w : W) (es : List (TableEntry W)) → length es ≤ length (lowered_in s x w es)
  lowered_longer x w [] = omega arith
  lowered_longer x w (e ∷ es) = elim (same_place e.place x) as (λ b. length (e ∷ es) ≤ length (if b then lowered_entry s w e ∷ es else e ∷ lowered_in s x w es)) [
    | true ↦ omega arith
    | false ↦ let more = lowered_longer x w es in omega (arith, more)
  ]

  one_falls : (x : Place) (w : W) → Fits s w → (es : List (TableEntry W)) → AllFit s es → (y : Place) → Below s (weight_in s (lowered_in s x w es) y) (weight_in s es y)
  one_falls x w fw es all y = elim (cases_place x y) [
    | inl same ↦
        let P : W → Type 0 = λ v. Below s v (weight_in s es x) in
        let here : Below s (weight_in s (lowered_in s x w es) x) (weight_in s es x) =
        subst P (sym (lowered_weight_here laws x w fw es all)) (combine_below_left laws (weight_in s es x) w (place_fits s x es laws.fits-zero all) fw) in
        let Q : Place → Type 0 = λ z. Below s (weight_in s (lowered_in s x w es) z) (weight_in s es z) in
        subst Q same here
    | inr differs ↦
        let P : W → Type 0 = λ v. Below s v (weight_in s es y) in
        subst P (sym (lowered_weight_other laws x w fw y differs es)) (below_itself laws (weight_in s es y) (place_fits s y es laws.fits-zero all))
  ]

  one_counts : (x : Place) (w : W) → Fits s w → (es : List (TableEntry W)) → AllFit s es → (y : Place)
      → (settled_in s (lowered_in s x w es) y ≡ settled_in s es y) ⊎ (settled_in s (lowered_in s x w es) y ≡ s.zero)
  one_counts x w fw es all y = elim (cases_place x y) [
    | inl same ↦
        let Q : Place → Type 0 = λ z. (settled_in s (lowered_in s x w es) z ≡ settled_in s es z) ⊎ (settled_in s (lowered_in s x w es) z ≡ s.zero) in
        subst Q same (lowered_settled_here laws x w fw es all)
    | inr differs ↦ inl (lowered_settled_other laws x w fw y differs es)
  ]

  one_holds : (P : Place → W → Type 0) → ((x : Place) (v w : W) → Fits s v → Fits s w → P x v → P x w → P x (s.combine v w)) → (x : Place) (w : W) → Fits s w → P x w
      → (es : List (TableEntry W)) → AllFit s es → ((y : Place) → P y (weight_in s es y)) → (y : Place) → P y (weight_in s (lowered_in s x w es) y)
  one_holds P joins x w fw is es all held y = elim (cases_place x y) [
    | inl same ↦
        let Q : Place → Type 0 = λ z. P z (weight_in s (lowered_in s x w es) z) in
        let here : P x (weight_in s (lowered_in s x w es) x) =
        subst (P x) (sym (lowered_weight_here laws x w fw es all)) (joins x (weight_in s es x) w (place_fits s x es laws.fits-zero all) fw (held x) is) in
        subst Q same here
    | inr differs ↦ subst (P y) (sym (lowered_weight_other laws x w fw y differs es)) (held y)
  ]

  -- What a kind of lowerings keeps, where each weight fits.
  module _ (Is : Place → W → Type 0) (fit : (x : Place) (w : W) → Is x w → Fits s w) where
    fits_by : (xs : List (Lowering W)) → AllByRecursion (λ x. Is x.place x.weight) xs → (es : List (TableEntry W)) → AllFit s es → AllFit s (lowered_by s xs es)
    fits_by [] each es all = all
    fits_by (x ∷ xs) each es all = fits_by xs each.1 (lowered_in s x.place x.weight es) (lowered_fits x.place x.weight (fit x.place x.weight each.0) es all)

    falls_by : (xs : List (Lowering W)) → AllByRecursion (λ x. Is x.place x.weight) xs → (es : List (TableEntry W)) → AllFit s es → (y : Place) → Below s (weight_in s (lowered_by s xs es) y) (weight_in s es y)
    falls_by [] each es all y = below_itself laws (weight_in s es y) (place_fits s y es laws.fits-zero all)
    falls_by (x ∷ xs) each es all y =
        let fw = fit x.place x.weight each.0 in
        let ds : List (TableEntry W) = lowered_in s x.place x.weight es in
        let some = lowered_fits x.place x.weight fw es all in
        below_trans laws (weight_in s (lowered_by s xs ds) y) (weight_in s ds y) (weight_in s es y)
        (place_fits s y (lowered_by s xs ds) laws.fits-zero (fits_by xs each.1 ds some)) (place_fits s y ds laws.fits-zero some) (place_fits s y es laws.fits-zero all)
        (falls_by xs each.1 ds some y) (one_falls x.place x.weight fw es all y)

    counts_by : (xs : List (Lowering W)) → AllByRecursion (λ x. Is x.place x.weight) xs → (es : List (TableEntry W)) → AllFit s es → (y : Place)
        → (settled_in s (lowered_by s xs es) y ≡ settled_in s es y) ⊎ (settled_in s (lowered_by s xs es) y ≡ s.zero)
    counts_by [] each es all y = inl refl
    counts_by (x ∷ xs) each es all y =
        let fw = fit x.place x.weight each.0 in
        elim (counts_by xs each.1 (lowered_in s x.place x.weight es) (lowered_fits x.place x.weight fw es all) y) [
          | inr none ↦ inr none
          | inl same ↦ elim (one_counts x.place x.weight fw es all y) [ inl as_was ↦ inl (same ∙ as_was) | inr none ↦ inr (same ∙ none) ]
        ]

    longer_by : (xs : List (Lowering W)) (es : List (TableEntry W)) → length es ≤ length (lowered_by s xs es)
    longer_by [] es = omega arith
    longer_by (x ∷ xs) es = let more = lowered_longer x.place x.weight es in let rest = longer_by xs (lowered_in s x.place x.weight es) in omega (arith, more, rest)

    turns_by : (xs : List (Lowering W)) → AllByRecursion (λ x. Is x.place x.weight) xs → (es : List (TableEntry W)) → AllFit s es → length (lowered_by s xs es) < 2 ^ 32
        → turns_left s (lowered_by s xs es) ≤ turns_left s es
    turns_by [] each es all few = omega arith
    turns_by (x ∷ xs) each es all few =
        let fw = fit x.place x.weight each.0 in
        let ds : List (TableEntry W) = lowered_in s x.place x.weight es in
        let more = longer_by xs ds in
        let one = lowered_turns laws x.place x.weight es all fw (omega (arith, more, few)) in
        let rest = turns_by xs each.1 ds (lowered_fits x.place x.weight fw es all) few in
        omega (arith, one, rest)

    holds_by : (P : Place → W → Type 0) → ((x : Place) (v w : W) → Fits s v → Fits s w → P x v → P x w → P x (s.combine v w)) → ((x : Place) (w : W) → Is x w → P x w)
        → (xs : List (Lowering W)) → AllByRecursion (λ x. Is x.place x.weight) xs → (es : List (TableEntry W)) → AllFit s es → ((y : Place) → P y (weight_in s es y)) → (y : Place) → P y (weight_in s (lowered_by s xs es) y)
    holds_by P joins holds [] each es all held y = held y
    holds_by P joins holds (x ∷ xs) each es all held y =
        let fw = fit x.place x.weight each.0 in
        holds_by P joins holds xs each.1 (lowered_in s x.place x.weight es) (lowered_fits x.place x.weight fw es all)
        (one_holds P joins x.place x.weight fw (holds x.place x.weight each.0) es all held) y

    places_by : (Q : Place → Type 0) → ((x : Place) (w : W) → Is x w → Q x) → (xs : List (Lowering W)) → AllByRecursion (λ x. Is x.place x.weight) xs → (es : List (TableEntry W)) → AllPlaces s Q es
        → AllPlaces s Q (lowered_by s xs es)
    places_by Q holds [] each es all = all
    places_by Q holds (x ∷ xs) each es all = places_by Q holds xs each.1 (lowered_in s x.place x.weight es) (lowered_all_places Q x.place x.weight (holds x.place x.weight each.0) es all)

    module _ (old new : List (TableEntry W)) (by : AreLowered s Is old new) (all : AllFit s old) where
      at_new : (P : List (TableEntry W) → Type 0) → P (lowered_by s by.steps old) → P new
      at_new P holds = subst P (sym by.made) holds

      pub lowered_all_fit : AllFit s new
      lowered_all_fit = at_new (AllFit s) (fits_by by.steps by.each old all)

      pub lowered_falls : (y : Place) → Below s (weight_in s new y) (weight_in s old y)
      lowered_falls y = at_new (λ es. Below s (weight_in s es y) (weight_in s old y)) (falls_by by.steps by.each old all y)

      pub lowered_counts : (y : Place) → (settled_in s new y ≡ settled_in s old y) ⊎ (settled_in s new y ≡ s.zero)
      lowered_counts y = at_new (λ es. (settled_in s es y ≡ settled_in s old y) ⊎ (settled_in s es y ≡ s.zero)) (counts_by by.steps by.each old all y)

      pub lowered_all_turns : length new < 2 ^ 32 → turns_left s new ≤ turns_left s old
      lowered_all_turns few =
          let less : length (lowered_by s by.steps old) < 2 ^ 32 = let e = ap (λ (es : List (TableEntry W)). length es) by.made in omega (arith, e, few) in
          at_new (λ es. turns_left s es ≤ turns_left s old) (turns_by by.steps by.each old all less)

      pub lowered_holds : (P : Place → W → Type 0) → ((x : Place) (v w : W) → Fits s v → Fits s w → P x v → P x w → P x (s.combine v w)) → ((x : Place) (w : W) → Is x w → P x w)
          → ((y : Place) → P y (weight_in s old y)) → (y : Place) → P y (weight_in s new y)
      lowered_holds P joins holds held y = at_new (λ es. P y (weight_in s es y)) (holds_by P joins holds by.steps by.each old all held y)

      pub lowered_keep_places : (Q : Place → Type 0) → ((x : Place) (w : W) → Is x w → Q x) → AllPlaces s Q old → AllPlaces s Q new
      lowered_keep_places Q holds were = at_new (AllPlaces s Q) (places_by Q holds by.steps by.each old were)

  -- a place that was lowered by a weight is below it
  pub one_below : (x : Place) (w : W) → Fits s w → (es es' : List (TableEntry W)) → AllFit s es → es' ≡ lowered_in s x w es → Below s (weight_in s es' x) w
  one_below x w fw es es' all made =
      let P : W → Type 0 = λ v. Below s v w in
      subst P (sym (ap (λ ds. weight_in s ds x) made ∙ lowered_weight_here laws x w fw es all)) (combine_below_right laws (weight_in s es x) w (place_fits s x es laws.fits-zero all) fw)
