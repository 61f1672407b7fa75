-- Entries by what their weights stand for.
use Rattle.std.proofs.Common.{zero, suc, ◌≡◌, ℕ, ◌+◌, ◌<◌, Bool, true, false, List, [], ◌∷◌, ◌++◌, length, map, drop, refl, sym, ap, ap₂, ◌∙◌, subst, arith}
use Rattle.std.specs.Prelude.{Option, None, Some, Result, Ok, Err, OnOk, OnErr, IsTrue, ◌↔◌, cond, option_map, slice_get, if◌then◌else◌}
use Rattle.std.specs.List.{AllByRecursion}
use Rattle.std.proofs.lemmas.Option.{same_Some}
use Rattle.semiring_laws.specs.Semiring.{Operations, Fits, IsSemiring}
use Rattle.semiring_laws.specs.Lowering.{lowered_weight}
use Rattle.weighted_automata.specs.declared.place.Place.{Place}
use Rattle.weighted_automata.specs.Places.{same_place}
use Rattle.weight_tables.specs.Entries.{TableEntry, NoneWaits, HasDistinctPlaces, index_at, index_where, index_from, taken, lowered_entry, lowered_in}
use Rattle.weight_tables.specs.Growth.{Grows}
use Rattle.weight_tables.specs.private.Cells.{changed}
use Rattle.weight_tables.specs.private.Kept.{AllKnown, valued, valued_entry}
use Rattle.weight_tables.proofs.EntryLemmas.{index_place}

-- an entry stands at each number below the count
pub there_is : {X : Type 0} (xs : List X) (t : ℕ) → t < length xs → (x : X) × (slice_get xs t ≡ Some x)
there_is [] t within = absurd (let no : t < 0 = within in omega (arith, no))
there_is (x ∷ xs) zero within = (x, refl)
there_is (x ∷ xs) (suc t) within = there_is xs t (let less : suc t < suc (length xs) = within in omega (arith, less))

module _ {W V : Type 0} (f : W → V) where
  pub index_where-valued : (p : TableEntry V → Bool) (q : TableEntry W → Bool) → ((e : TableEntry W) → p (valued_entry f e) ≡ q e) → (es : List (TableEntry W)) → index_where p (valued f es) ≡ index_where q es
  index_where-valued p q alike [] = refl
  index_where-valued p q alike (e ∷ es) = ap (λ b. cond b (Some 0) (option_map (λ k. k + 1) (index_where p (valued f es)))) (alike e)
      ∙ ap (λ o. cond (q e) (Some 0) (option_map (λ k. k + 1) o)) (index_where-valued p q alike es)

  drop-valued : (i : ℕ) (es : List (TableEntry W)) → drop i (valued f es) ≡ valued f (drop i es)
  drop-valued zero es = refl
  drop-valued (suc i) [] = refl
  drop-valued (suc i) (e ∷ es) = drop-valued i es

  pub index_from-valued : (p : TableEntry V → Bool) (q : TableEntry W → Bool) → ((e : TableEntry W) → p (valued_entry f e) ≡ q e) → (i : ℕ) (es : List (TableEntry W)) → index_from p i (valued f es) ≡ index_from q i es
  index_from-valued p q alike i es = ap (λ ds. option_map (λ k. k + i) (index_where p ds)) (drop-valued i es) ∙ ap (option_map (λ k. k + i)) (index_where-valued p q alike (drop i es))

  pub index_at-valued : (x : Place) (es : List (TableEntry W)) → index_at x (valued f es) ≡ index_at x es
  index_at-valued x es = index_where-valued (λ e. same_place e.place x) (λ e. same_place e.place x) (λ e. refl) es

  pub length-valued : (es : List (TableEntry W)) → length (valued f es) ≡ length es
  length-valued [] = refl
  length-valued (e ∷ es) = ap suc (length-valued es)

  pub get-valued : (es : List (TableEntry W)) (t : ℕ) (e : TableEntry W) → slice_get es t ≡ Some e → slice_get (valued f es) t ≡ Some (valued_entry f e)
  get-valued [] t e at = cc
  get-valued (d ∷ es) zero e at = ap (λ (c : TableEntry W). Some (valued_entry f c)) (same_Some d e at)
  get-valued (d ∷ es) (suc t) e at = get-valued es t e at

  -- an entry that is seen is one that is kept
  pub kept_entry : (es : List (TableEntry W)) (t : ℕ) (e : TableEntry V) → slice_get (valued f es) t ≡ Some e → (d : TableEntry W) × (slice_get es t ≡ Some d) × (e ≡ valued_entry f d)
  kept_entry [] t e at = cc
  kept_entry (d ∷ es) zero e at = (d, refl, sym (same_Some (valued_entry f d) e at))
  kept_entry (d ∷ es) (suc t) e at = kept_entry es t e at

  pub valued-changed : (t : ℕ) (w : W) (es : List (TableEntry W)) → valued f (changed t w es) ≡ changed t (f w) (valued f es)
  valued-changed t w [] = refl
  valued-changed zero w (e ∷ es) = refl
  valued-changed (suc t) w (e ∷ es) = ap (λ ds. valued_entry f e ∷ ds) (valued-changed t w es)

  pub valued-taken : (t : ℕ) (es : List (TableEntry W)) → valued f (taken t es) ≡ taken t (valued f es)
  valued-taken t [] = refl
  valued-taken zero (e ∷ es) = refl
  valued-taken (suc t) (e ∷ es) = ap (λ ds. valued_entry f e ∷ ds) (valued-taken t es)

  pub valued-append : (es : List (TableEntry W)) (e : TableEntry W) → valued f (es ++ e ∷ []) ≡ valued f es ++ valued_entry f e ∷ []
  valued-append [] e = refl
  valued-append (d ∷ es) e = ap (λ ds. valued_entry f d ∷ ds) (valued-append es e)

  pub none-valued : (es : List (TableEntry W)) → NoneWaits es → NoneWaits (valued f es)
  none-valued [] none = tt
  none-valued (e ∷ es) none = (none.0, none-valued es none.1)

  pub distinct-valued : (es : List (TableEntry W)) → HasDistinctPlaces es → HasDistinctPlaces (valued f es)
  distinct-valued [] d = tt
  distinct-valued (e ∷ es) d = (index_at-valued e.place es ∙ d.0, distinct-valued es d.1)

-- What is known of each weight.
module _ {W : Type 0} {Known Later : W → Type 0} (more : (w : W) → Known w → Later w) where
  pub known_more : (es : List (TableEntry W)) → AllKnown Known es → AllKnown Later es
  known_more [] all = tt
  known_more (e ∷ es) all = (more e.weight all.0, known_more es all.1)

module _ {W : Type 0} (Known : W → Type 0) where
  pub known_at : (es : List (TableEntry W)) (t : ℕ) (e : TableEntry W) → AllKnown Known es → slice_get es t ≡ Some e → Known e.weight
  known_at [] t e all at = cc
  known_at (d ∷ es) zero e all at = subst (λ (c : TableEntry W). Known c.weight) (same_Some d e at) all.0
  known_at (d ∷ es) (suc t) e all at = known_at es t e all.1 at

  pub known_append : (es : List (TableEntry W)) (e : TableEntry W) → AllKnown Known es → Known e.weight → AllKnown Known (es ++ e ∷ [])
  known_append [] e all one = (one, tt)
  known_append (d ∷ es) e all one = (all.0, known_append es e all.1 one)

  pub known_changed : (t : ℕ) (w : W) (es : List (TableEntry W)) → AllKnown Known es → Known w → AllKnown Known (changed t w es)
  known_changed t w [] all one = tt
  known_changed zero w (e ∷ es) all one = (one, all.1)
  known_changed (suc t) w (e ∷ es) all one = (all.0, known_changed t w es all.1 one)

  pub known_taken : (t : ℕ) (es : List (TableEntry W)) → AllKnown Known es → AllKnown Known (taken t es)
  known_taken t [] all = tt
  known_taken zero (e ∷ es) all = all
  known_taken (suc t) (e ∷ es) all = (all.0, known_taken t es all.1)

  -- once a call tried to write, or to add
  pub known_result : {T E : Type 0} (r : Result T E) (old ok now : List (TableEntry W)) → OnOk r (now ≡ ok) → OnErr r (now ≡ old) → AllKnown Known old → AllKnown Known ok → AllKnown Known now
  known_result (Ok x) old ok now is was before after = subst (AllKnown Known) (sym is) after
  known_result (Err x) old ok now is was before after = subst (AllKnown Known) (sym was) before

pub fits_valued : {W V Map : Type 0} (s : Operations V Map) (Known : W → Type 0) (f : W → V) → ((w : W) → Known w → Fits s (f w)) → (es : List (TableEntry W)) → AllKnown Known es → AllByRecursion (λ e. Fits s e.weight) (valued f es)
fits_valued s Known f fits [] all = tt
fits_valued s Known f fits (e ∷ es) all = (fits e.weight all.0, fits_valued s Known f fits es all.1)

-- the same, where known weights are worth the same
pub valued_same : {W V : Type 0} (f g : W → V) (Known : W → Type 0) → ((w : W) → Known w → g w ≡ f w) → (es : List (TableEntry W)) → AllKnown Known es → valued g es ≡ valued f es
valued_same f g Known same [] all = refl
valued_same f g Known same (e ∷ es) all =
    ap (λ v. record { place = e.place; weight = v; waits = e.waits } ∷ valued g es) (same e.weight all.0)
    ∙ ap (λ ds. valued_entry f e ∷ ds) (valued_same f g Known same es all.1)

-- What a weight makes of the entries, by what it makes of the one that is there.
module _ {V Map : Type 0} (s : Operations V Map) where
  entry_same : (w : V) (e : TableEntry V) → lowered_weight s e.weight w ≡ None → lowered_entry s w e ≡ e
  entry_same w e none = elim (s.same (s.combine e.weight w) e.weight) as (λ b. (if b then None else Some (s.combine e.weight w)) ≡ None
      → (if b then e else record { place = e.place; weight = s.combine e.weight w; waits = true }) ≡ e) [
        | true ↦ λ h. refl
        | false ↦ λ h. cc
      ] none

  entry_changed : (w v : V) (e : TableEntry V) → lowered_weight s e.weight w ≡ Some v → lowered_entry s w e ≡ record { place = e.place; weight = v; waits = true }
  entry_changed w v e some = elim (s.same (s.combine e.weight w) e.weight) as (λ b. (if b then None else Some (s.combine e.weight w)) ≡ Some v
      → (if b then e else record { place = e.place; weight = s.combine e.weight w; waits = true }) ≡ record { place = e.place; weight = v; waits = true }) [
        | true ↦ λ h. cc
        | false ↦ λ h. ap (λ z. let c : TableEntry V = record { place = e.place; weight = z; waits = true } in c) (same_Some (s.combine e.weight w) v h)
      ] some

  pub lowered-same : (x : Place) (w : V) (es : List (TableEntry V)) (t : ℕ) (e : TableEntry V) → index_at x es ≡ Some t → slice_get es t ≡ Some e → lowered_weight s e.weight w ≡ None → lowered_in s x w es ≡ es
  lowered-same x w [] t e at there none = cc
  lowered-same x w (d ∷ es) t e at there none = elim (same_place d.place x) as (λ b. cond b (Some 0) (option_map (λ i. i + 1) (index_at x es)) ≡ Some t → (if b then lowered_entry s w d ∷ es else d ∷ lowered_in s x w es) ≡ d ∷ es) [
    | true ↦ λ h.
        let first : 0 ≡ t = same_Some 0 t h in
        let is : d ≡ e = same_Some d e (ap (slice_get (d ∷ es)) first ∙ there) in
        ap (λ c. c ∷ es) (entry_same w d (ap (λ (c : TableEntry V). lowered_weight s c.weight w) is ∙ none))
    | false ↦ λ h. elim (index_at x es) as (λ o. index_at x es ≡ o → option_map (λ i. i + 1) o ≡ Some t → d ∷ lowered_in s x w es ≡ d ∷ es) [
      | None ↦ λ was g. cc
      | Some j ↦ λ was g.
          let n : j + 1 ≡ t = same_Some (j + 1) t g in
          let next : suc j ≡ t = omega (arith, n) in
          ap (λ ds. d ∷ ds) (lowered-same x w es j e was (ap (slice_get (d ∷ es)) next ∙ there) none)
    ] refl h
  ] at

  pub lowered-changed : (x : Place) (w v : V) (es : List (TableEntry V)) (t : ℕ) (e : TableEntry V) → index_at x es ≡ Some t → slice_get es t ≡ Some e → lowered_weight s e.weight w ≡ Some v → lowered_in s x w es ≡ changed t v es
  lowered-changed x w v [] t e at there some = cc
  lowered-changed x w v (d ∷ es) t e at there some = elim (same_place d.place x) as (λ b. cond b (Some 0) (option_map (λ i. i + 1) (index_at x es)) ≡ Some t → (if b then lowered_entry s w d ∷ es else d ∷ lowered_in s x w es) ≡ changed t v (d ∷ es)) [
    | true ↦ λ h.
        let first : 0 ≡ t = same_Some 0 t h in
        let is : d ≡ e = same_Some d e (ap (slice_get (d ∷ es)) first ∙ there) in
        ap (λ c. c ∷ es) (entry_changed w v d (ap (λ (c : TableEntry V). lowered_weight s c.weight w) is ∙ some)) ∙ ap (λ i. changed i v (d ∷ es)) first
    | false ↦ λ h. elim (index_at x es) as (λ o. index_at x es ≡ o → option_map (λ i. i + 1) o ≡ Some t → d ∷ lowered_in s x w es ≡ changed t v (d ∷ es)) [
      | None ↦ λ was g. cc
      | Some j ↦ λ was g.
          let n : j + 1 ≡ t = same_Some (j + 1) t g in
          let next : suc j ≡ t = omega (arith, n) in
          ap (λ ds. d ∷ ds) (lowered-changed x w v es j e was (ap (slice_get (d ∷ es)) next ∙ there) some) ∙ ap (λ i. changed i v (d ∷ es)) next
    ] refl h
  ] at

  pub lowered-added : (x : Place) (w : V) (es : List (TableEntry V)) → index_at x es ≡ None → s.same w s.zero ≡ false → lowered_in s x w es ≡ es ++ record { place = x; weight = w; waits = true } ∷ []
  lowered-added x w [] none other = ap (λ b. let c : TableEntry V = record { place = x; weight = w; waits = true } in cond b [] (c ∷ [])) other
  lowered-added x w (d ∷ es) none other = elim (same_place d.place x) as (λ b. cond b (Some 0) (option_map (λ i. i + 1) (index_at x es)) ≡ None → (if b then lowered_entry s w d ∷ es else d ∷ lowered_in s x w es) ≡ d ∷ (es ++ record { place = x; weight = w; waits = true } ∷ [])) [
    | true ↦ λ h. cc
    | false ↦ λ h. elim (index_at x es) as (λ o. index_at x es ≡ o → option_map (λ i. i + 1) o ≡ None → d ∷ lowered_in s x w es ≡ d ∷ (es ++ record { place = x; weight = w; waits = true } ∷ [])) [
      | None ↦ λ was g. ap (λ ds. d ∷ ds) (lowered-added x w es was other)
      | Some j ↦ λ was g. cc
    ] refl h
  ] none

  module _ (laws : IsSemiring s) where
    zero_entry : (e : TableEntry V) → Fits s e.weight → lowered_entry s s.zero e ≡ e
    zero_entry e fits =
        let sum : s.combine e.weight s.zero ≡ e.weight = laws.combine_comm e.weight s.zero fits laws.fits-zero ∙ laws.combine_zero e.weight fits in
        let same : s.same (s.combine e.weight s.zero) e.weight ≡ true = (laws.same_is_equal (s.combine e.weight s.zero) e.weight (laws.fits-combine e.weight s.zero fits laws.fits-zero) fits).1 sum in
        ap (λ b. let c : TableEntry V = record { place = e.place; weight = s.combine e.weight s.zero; waits = true } in cond b e c) same

    -- zero changes nothing
    pub lowered-zero : (x : Place) (es : List (TableEntry V)) → AllByRecursion (λ e. Fits s e.weight) es → lowered_in s x s.zero es ≡ es
    lowered-zero x [] all =
        let same : s.same s.zero s.zero ≡ true = (laws.same_is_equal s.zero s.zero laws.fits-zero laws.fits-zero).1 refl in
        ap (λ b. let c : TableEntry V = record { place = x; weight = s.zero; waits = true } in cond b [] (c ∷ [])) same
    lowered-zero x (e ∷ es) all = elim (same_place e.place x) as (λ b. (if b then lowered_entry s s.zero e ∷ es else e ∷ lowered_in s x s.zero es) ≡ e ∷ es) [
      | true ↦ ap (λ d. d ∷ es) (zero_entry e all.0)
      | false ↦ ap (λ ds. e ∷ ds) (lowered-zero x es all.1)
    ]

    pub differs : (w : V) → Fits s w → (w ≡ s.zero → ⊥) → s.same w s.zero ≡ false
    differs w fits other = elim (s.same w s.zero) as (λ b. s.same w s.zero ≡ b → b ≡ false) [
      | true ↦ λ is. absurd (other ((laws.same_is_equal w s.zero fits laws.fits-zero).0 is))
      | false ↦ λ is. refl
    ] refl

-- What is kept of it, where the weights that were known are worth the same.
module _ {W V Map : Type 0} (s : Operations V Map) (f g : W → V) (Known : W → Type 0) (stays : (w : W) → Known w → g w ≡ f w) (es : List (TableEntry W)) (all : AllKnown Known es) where
  same_all : valued g es ≡ valued f es
  same_all = valued_same f g Known stays es all

  module _ (t : ℕ) (d : TableEntry W) (at : slice_get es t ≡ Some d) (w : V) where
    by_place : (e : TableEntry W) → slice_get es t ≡ Some e → f e.weight ≡ f d.weight
    by_place e there = ap (λ (c : TableEntry W). f c.weight) (same_Some e d (sym there ∙ at))

    pub same_lowered : None ≡ lowered_weight s (f d.weight) w → (e : TableEntry W) → slice_get es t ≡ Some e → index_at e.place es ≡ Some t
        → valued g es ≡ lowered_in s e.place w (valued f es)
    same_lowered none e there first =
        same_all ∙ sym (lowered-same s e.place w (valued f es) t (valued_entry f e) (index_at-valued f e.place es ∙ first) (get-valued f es t e there)
        (ap (λ v. lowered_weight s v w) (by_place e there) ∙ sym none))

    pub changed_lowered : (v : W) → Some (g v) ≡ lowered_weight s (f d.weight) w → (e : TableEntry W) → slice_get es t ≡ Some e → index_at e.place es ≡ Some t
        → valued g (changed t v es) ≡ lowered_in s e.place w (valued f es)
    changed_lowered v some e there first =
        valued-changed g t v es ∙ ap (changed t (g v)) same_all
        ∙ sym (lowered-changed s e.place w (g v) (valued f es) t (valued_entry f e) (index_at-valued f e.place es ∙ first) (get-valued f es t e there)
        (ap (λ z. lowered_weight s z w) (by_place e there) ∙ sym some))

  pub added_lowered : IsSemiring s → (x : Place) (v : W) (w : V) → index_at x es ≡ None → (w ≡ s.zero → ⊥) → Fits s w → g v ≡ w
      → valued g (es ++ record { place = x; weight = v; waits = true } ∷ []) ≡ lowered_in s x w (valued f es)
  added_lowered laws x v w none other fits is =
      valued-append g es (record { place = x; weight = v; waits = true })
      ∙ ap (λ z. valued g es ++ record { place = x; weight = z; waits = true } ∷ []) is
      ∙ ap (λ ds. ds ++ record { place = x; weight = w; waits = true } ∷ []) same_all
      ∙ sym (lowered-added s x w (valued f es) (index_at-valued f x es ∙ none) (differs s laws w fits other))

-- what was lowered at the number of a place was lowered at the place
pub lowered_there : {W V Map : Type 0} (s : Operations V Map) (f : W → V) (now es : List (TableEntry W)) → now ≡ es → (x : Place) (n : ℕ) → index_at x es ≡ Some n → n < length es → (u w : V) → u ≡ w → (final : List (TableEntry V))
    → ((e : TableEntry W) → slice_get now n ≡ Some e → index_at e.place now ≡ Some n → final ≡ lowered_in s e.place u (valued f now)) → final ≡ lowered_in s x w (valued f es)
lowered_there s f now es same x n found below u w equal final lowered =
    let e = there_is es n below in
    let place : e.0.place ≡ x = index_place x es n e.0 found e.1 in
    lowered e.0 (ap (λ ds. slice_get ds n) same ∙ e.1) (ap₂ index_at place same ∙ found)
    ∙ ap (λ y. lowered_in s y u (valued f now)) place ∙ ap (λ y. lowered_in s x y (valued f now)) equal ∙ ap (λ ds. lowered_in s x w (valued f ds)) same

-- zero lowers nothing
pub nothing_lowered : {W V Map : Type 0} (s : Operations V Map) (laws : IsSemiring s) (Known : W → Type 0) (f : W → V) → ((w : W) → Known w → Fits s (f w)) → (es : List (TableEntry W)) → AllKnown Known es → (x : Place) (w : V) → w ≡ s.zero
    → valued f es ≡ lowered_in s x w (valued f es)
nothing_lowered s laws Known f fits es all x w none =
    sym (ap (λ y. lowered_in s x y (valued f es)) none ∙ lowered-zero s laws x (valued f es) (fits_valued s Known f fits es all))

pub grows_itself : {M P W V : Type 0} (pushdown : M → P) (Knows : M → W → Type 0) (worth : M → W → V) (m : M) → Grows pushdown Knows worth m m
grows_itself pushdown Knows worth m = record { system = refl; known = λ w known. known; stays = λ w known. refl }

pub not_zero : (b : Bool) (P : Type 0) → (IsTrue b ↔ P) → b ≡ false → P → ⊥
not_zero b P test none is = let both : true ≡ false = sym (test.1 is) ∙ none in cc
