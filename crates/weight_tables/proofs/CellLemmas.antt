-- The entries that weights make with their places.
use Rattle.std.proofs.Common.{zero, suc, ◌≡◌, ℕ, ◌+◌, ◌<◌, Bool, true, false, List, [], ◌∷◌, ◌++◌, length, get_or, set, map, refl, sym, ap, ap₂, ◌∙◌, subst, arith}
use Rattle.std.specs.Prelude.{Option, None, Some, cond, option_map, slice_get, nat_eq}
use Rattle.std.specs.List.{AllByRecursion}
use Rattle.std.specs.Ordering.{eq_by_cmp}
use Rattle.std.proofs.lemmas.Option.{same_Some}
use Rattle.key_rows.specs.Members.{number_of}
use Rattle.key_rows.specs.Positions.{index_where, last_where}
use Rattle.weighted_automata.specs.contracts.place.PlaceOrd.TheImpl.{ghosts as of_places}
use Rattle.weighted_automata.specs.declared.place.Place.{Place}
use Rattle.weighted_automata.specs.Places.{same_place}
use Rattle.weighted_automata.proofs.CallerLemmas.{same_place_is, same_place_itself, other_place, place_test}
use Rattle.weight_tables.specs.declared.cell.Cell.{Cell}
use Rattle.weight_tables.specs.Entries.{TableEntry, HasDistinctPlaces, NoneWaits, index_at, taken}
use Rattle.weight_tables.specs.private.Cells.{cells_of, waits_in, written, cleared, entries_in, changed}
use Rattle.weight_tables.specs.private.Listed.{AreDistinct}

module _ {W : Type 0} where
  pub set_written : (cs : List (Cell W)) (t : ℕ) (w : W) → set cs t (record { weight = w; waits = true }) ≡ written t w cs
  set_written [] t w = refl
  set_written (c ∷ cs) zero w = refl
  set_written (c ∷ cs) (suc t) w = ap (λ ds. c ∷ ds) (set_written cs t w)

  pub set_cleared : (cs : List (Cell W)) (t : ℕ) (d : Cell W) → set cs t (record { weight = (get_or cs t d).weight; waits = false }) ≡ cleared t cs
  set_cleared [] t d = refl
  set_cleared (c ∷ cs) zero d = refl
  set_cleared (c ∷ cs) (suc t) d = ap (λ ds. c ∷ ds) (set_cleared cs t d)

  pub read_waits : (cs : List (Cell W)) (t : ℕ) (d : Cell W) → t < length cs → (get_or cs t d).waits ≡ get_or (waits_in cs) t false
  read_waits [] t d within = absurd (let no : t < 0 = within in omega (arith, no))
  read_waits (c ∷ cs) zero d within = refl
  read_waits (c ∷ cs) (suc t) d within = read_waits cs t d (let less : suc t < suc (length cs) = within in omega (arith, less))

  pub waits-written : (t : ℕ) (w : W) (cs : List (Cell W)) → waits_in (written t w cs) ≡ set (waits_in cs) t true
  waits-written t w [] = refl
  waits-written zero w (c ∷ cs) = refl
  waits-written (suc t) w (c ∷ cs) = ap (λ bs. c.waits ∷ bs) (waits-written t w cs)

  pub waits-cleared : (t : ℕ) (cs : List (Cell W)) → waits_in (cleared t cs) ≡ set (waits_in cs) t false
  waits-cleared t [] = refl
  waits-cleared zero (c ∷ cs) = refl
  waits-cleared (suc t) (c ∷ cs) = ap (λ bs. c.waits ∷ bs) (waits-cleared t cs)

  pub waits-append : (cs : List (Cell W)) (c : Cell W) → waits_in (cs ++ c ∷ []) ≡ waits_in cs ++ c.waits ∷ []
  waits-append [] c = refl
  waits-append (d ∷ cs) c = ap (λ bs. d.waits ∷ bs) (waits-append cs c)

  pub length-waits : (cs : List (Cell W)) → length (waits_in cs) ≡ length cs
  length-waits [] = refl
  length-waits (c ∷ cs) = ap suc (length-waits cs)

  pub length-written : (t : ℕ) (w : W) (cs : List (Cell W)) → length (written t w cs) ≡ length cs
  length-written t w [] = refl
  length-written zero w (c ∷ cs) = refl
  length-written (suc t) w (c ∷ cs) = ap suc (length-written t w cs)

  pub length-cleared : (t : ℕ) (cs : List (Cell W)) → length (cleared t cs) ≡ length cs
  length-cleared t [] = refl
  length-cleared zero (c ∷ cs) = refl
  length-cleared (suc t) (c ∷ cs) = ap suc (length-cleared t cs)

  -- whether one waits, as it is read
  pub get-waits : (cs : List (Cell W)) (t : ℕ) (c : Cell W) → slice_get cs t ≡ Some c → get_or (waits_in cs) t false ≡ c.waits
  get-waits [] t c e = cc
  get-waits (d ∷ cs) zero c e = ap (λ (b : Cell W). b.waits) (same_Some d c e)
  get-waits (d ∷ cs) (suc t) c e = get-waits cs t c e

  -- The entries.
  pub entries-written : (t : ℕ) (w : W) (ps : List Place) (cs : List (Cell W)) → entries_in ps (written t w cs) ≡ changed t w (entries_in ps cs)
  entries-written t w [] cs = refl
  entries-written t w (p ∷ ps) [] = refl
  entries-written zero w (p ∷ ps) (c ∷ cs) = refl
  entries-written (suc t) w (p ∷ ps) (c ∷ cs) = ap (λ es. record { place = p; weight = c.weight; waits = c.waits } ∷ es) (entries-written t w ps cs)

  pub entries-cleared : (t : ℕ) (ps : List Place) (cs : List (Cell W)) → entries_in ps (cleared t cs) ≡ taken t (entries_in ps cs)
  entries-cleared t [] cs = refl
  entries-cleared t (p ∷ ps) [] = refl
  entries-cleared zero (p ∷ ps) (c ∷ cs) = refl
  entries-cleared (suc t) (p ∷ ps) (c ∷ cs) = ap (λ es. record { place = p; weight = c.weight; waits = c.waits } ∷ es) (entries-cleared t ps cs)

  pub entries-append : (ps : List Place) (cs : List (Cell W)) (p : Place) (c : Cell W) → length ps ≡ length cs
      → entries_in (ps ++ p ∷ []) (cs ++ c ∷ []) ≡ entries_in ps cs ++ record { place = p; weight = c.weight; waits = c.waits } ∷ []
  entries-append [] [] p c long = refl
  entries-append [] (d ∷ cs) p c long = let no : 0 ≡ suc (length cs) = long in absurd (omega (arith, no))
  entries-append (q ∷ ps) [] p c long = let no : suc (length ps) ≡ 0 = long in absurd (omega (arith, no))
  entries-append (q ∷ ps) (d ∷ cs) p c long =
      let less : length ps ≡ length cs = let h : suc (length ps) ≡ suc (length cs) = long in omega (arith, h) in
      ap (λ es. record { place = q; weight = d.weight; waits = d.waits } ∷ es) (entries-append ps cs p c less)

  pub length-entries : (ps : List Place) (cs : List (Cell W)) → length ps ≡ length cs → length (entries_in ps cs) ≡ length ps
  length-entries [] cs long = refl
  length-entries (p ∷ ps) [] long = let no : suc (length ps) ≡ 0 = long in absurd (omega (arith, no))
  length-entries (p ∷ ps) (c ∷ cs) long = ap suc (length-entries ps cs (let h : suc (length ps) ≡ suc (length cs) = long in omega (arith, h)))

  pub index_at-entries : (x : Place) (ps : List Place) (cs : List (Cell W)) → length ps ≡ length cs → index_at x (entries_in ps cs) ≡ index_where (λ p. same_place p x) ps
  index_at-entries x [] cs long = refl
  index_at-entries x (p ∷ ps) [] long = let no : suc (length ps) ≡ 0 = long in absurd (omega (arith, no))
  index_at-entries x (p ∷ ps) (c ∷ cs) long = ap (λ o. cond (same_place p x) (Some 0) (option_map (λ k. k + 1) o)) (index_at-entries x ps cs (let h : suc (length ps) ≡ suc (length cs) = long in omega (arith, h)))

  pub distinct-entries : (ps : List Place) (cs : List (Cell W)) → length ps ≡ length cs → AreDistinct ps → HasDistinctPlaces (entries_in ps cs)
  distinct-entries [] cs long d = tt
  distinct-entries (p ∷ ps) [] long d = let no : suc (length ps) ≡ 0 = long in absurd (omega (arith, no))
  distinct-entries (p ∷ ps) (c ∷ cs) long d =
      let less : length ps ≡ length cs = let h : suc (length ps) ≡ suc (length cs) = long in omega (arith, h) in
      (index_at-entries p ps cs less ∙ d.0, distinct-entries ps cs less d.1)

  pub places-entries : (ps : List Place) (cs : List (Cell W)) → length ps ≡ length cs → map (λ (e : TableEntry W). e.place) (entries_in ps cs) ≡ ps
  places-entries [] cs long = refl
  places-entries (p ∷ ps) [] long = let no : suc (length ps) ≡ 0 = long in absurd (omega (arith, no))
  places-entries (p ∷ ps) (c ∷ cs) long = ap (λ qs. p ∷ qs) (places-entries ps cs (let h : suc (length ps) ≡ suc (length cs) = long in omega (arith, h)))

  -- the weights of entries that are kept so
  pub cells_entries : (ps : List Place) (cs : List (Cell W)) → length ps ≡ length cs → cells_of (entries_in ps cs) ≡ cs
  cells_entries [] [] long = refl
  cells_entries [] (c ∷ cs) long = let no : 0 ≡ suc (length cs) = long in absurd (omega (arith, no))
  cells_entries (p ∷ ps) [] long = let no : suc (length ps) ≡ 0 = long in absurd (omega (arith, no))
  cells_entries (p ∷ ps) (c ∷ cs) long = ap (λ ds. c ∷ ds) (cells_entries ps cs (let h : suc (length ps) ≡ suc (length cs) = long in omega (arith, h)))

  -- an entry is made of its place and its weight
  pub record IsMade (ps : List Place) (cs : List (Cell W)) (t : ℕ) (e : TableEntry W) : Type 0 where
    pub cell : Cell W
    pub place : slice_get ps t ≡ Some e.place
    pub there : slice_get cs t ≡ Some cell
    pub weight : e.weight ≡ cell.weight
    pub waits : e.waits ≡ cell.waits

  pub get-entries : (ps : List Place) (cs : List (Cell W)) (t : ℕ) (e : TableEntry W) → slice_get (entries_in ps cs) t ≡ Some e → IsMade ps cs t e
  get-entries [] cs t e at = cc
  get-entries (p ∷ ps) [] t e at = cc
  get-entries (p ∷ ps) (c ∷ cs) zero e at =
      let d : TableEntry W = record { place = p; weight = c.weight; waits = c.waits } in
      let is : d ≡ e = same_Some d e at in
      record {
        cell = c;
        place = ap (λ (f : TableEntry W). Some f.place) is;
        there = refl;
        weight = ap (λ (f : TableEntry W). f.weight) (sym is);
        waits = ap (λ (f : TableEntry W). f.waits) (sym is);
      }
  get-entries (p ∷ ps) (c ∷ cs) (suc t) e at =
      let rest = get-entries ps cs t e at in
      record { cell = rest.cell; place = rest.place; there = rest.there; weight = rest.weight; waits = rest.waits }

  -- the entry of a number, by its place and its weight
  pub made-entry : (ps : List Place) (cs : List (Cell W)) (t : ℕ) (p : Place) (c : Cell W) → slice_get ps t ≡ Some p → slice_get cs t ≡ Some c
      → slice_get (entries_in ps cs) t ≡ Some (record { place = p; weight = c.weight; waits = c.waits })
  made-entry [] cs t p c at there = cc
  made-entry (q ∷ ps) [] t p c at there = cc
  made-entry (q ∷ ps) (d ∷ cs) zero p c at there =
      ap₂ (λ (r : Place) (b : Cell W). let e : TableEntry W = record { place = r; weight = b.weight; waits = b.waits } in Some e) (same_Some q p at) (same_Some d c there)
  made-entry (q ∷ ps) (d ∷ cs) (suc t) p c at there = made-entry ps cs t p c at there

  -- no mark, no entry that waits
  pub none_waits : (ps : List Place) (cs : List (Cell W)) → ((k : ℕ) → get_or (waits_in cs) k false ≡ false) → NoneWaits (entries_in ps cs)
  none_waits [] cs none = tt
  none_waits (p ∷ ps) [] none = tt
  none_waits (p ∷ ps) (c ∷ cs) none = (none 0, none_waits ps cs (λ k. none (suc k)))

-- Places that stand once are found by themselves.
abbrev next_last : Bool → Option ℕ → Option ℕ
next_last b o = elim o [ Some k ↦ Some (suc k) | None ↦ cond b (Some 0) None ]

last_alike : {X : Type 0} (p q : X → Bool) → ((x : X) → p x ≡ q x) → (xs : List X) → last_where p xs ≡ last_where q xs
last_alike p q alike [] = refl
last_alike p q alike (x ∷ xs) = ap (λ b. next_last b (last_where p xs)) (alike x) ∙ ap (next_last (q x)) (last_alike p q alike xs)

last_is_first : (x : Place) (ps : List Place) → AreDistinct ps → last_where (λ p. same_place p x) ps ≡ index_where (λ p. same_place p x) ps
last_is_first x [] d = refl
last_is_first x (p ∷ ps) d = ap (next_last (same_place p x)) (last_is_first x ps d.1) ∙ elim (same_place p x) as (λ b. same_place p x ≡ b
    → next_last b (index_where (λ q. same_place q x) ps) ≡ cond b (Some 0) (option_map (λ k. k + 1) (index_where (λ q. same_place q x) ps))) [
      | true ↦ λ is. ap (next_last true) (ap (λ z. index_where (λ q. same_place q z) ps) (sym (same_place_is p x is)) ∙ d.0)
      | false ↦ λ is. elim (index_where (λ q. same_place q x) ps) as (λ o. next_last false o ≡ option_map (λ k. k + 1) o) [
        | None ↦ refl
        | Some k ↦ ap Some (omega arith)
      ]
    ] refl

pub found_by_place : (x : Place) (ps : List Place) → AreDistinct ps → number_of of_places.cmp (λ p. p) x ps ≡ index_where (λ p. same_place p x) ps
found_by_place x ps d =
    last_alike (λ p. eq_by_cmp of_places.cmp x p) (λ p. same_place p x) (λ p. place_test x p) ps ∙ last_is_first x ps d

-- a place that was not there stands once at the end
missed_append : (x y : Place) (ps : List Place) → index_where (λ p. same_place p x) ps ≡ None → same_place y x ≡ false → index_where (λ p. same_place p x) (ps ++ y ∷ []) ≡ None
missed_append x y [] none other = ap (λ b. cond b (Some 0) None) other
missed_append x y (p ∷ ps) none other = elim (same_place p x) as (λ b. cond b (Some 0) (option_map (λ k. k + 1) (index_where (λ q. same_place q x) ps)) ≡ None → cond b (Some 0) (option_map (λ k. k + 1) (index_where (λ q. same_place q x) (ps ++ y ∷ []))) ≡ None) [
  | true ↦ λ h. cc
  | false ↦ λ h. elim (index_where (λ q. same_place q x) ps) as (λ o. index_where (λ q. same_place q x) ps ≡ o → option_map (λ k. k + 1) o ≡ None → option_map (λ k. k + 1) (index_where (λ q. same_place q x) (ps ++ y ∷ [])) ≡ None) [
    | None ↦ λ was f. ap (option_map (λ k. k + 1)) (missed_append x y ps was other)
    | Some j ↦ λ was f. cc
  ] refl h
] none

missed_other : (x p : Place) (ps : List Place) → index_where (λ q. same_place q x) (p ∷ ps) ≡ None → (same_place p x ≡ false) × (index_where (λ q. same_place q x) ps ≡ None)
missed_other x p ps none = elim (same_place p x) as (λ b. cond b (Some 0) (option_map (λ k. k + 1) (index_where (λ q. same_place q x) ps)) ≡ None → (b ≡ false) × (index_where (λ q. same_place q x) ps ≡ None)) [
  | true ↦ λ h. cc
  | false ↦ λ h. (
    refl,
    elim (index_where (λ q. same_place q x) ps) as (λ o. option_map (λ k. k + 1) o ≡ None → o ≡ None) [
      | None ↦ λ f. refl
      | Some j ↦ λ f. cc
    ] h,
  )
] none

pub distinct_append : (x : Place) (ps : List Place) → AreDistinct ps → index_where (λ p. same_place p x) ps ≡ None → AreDistinct (ps ++ x ∷ [])
distinct_append x [] d none = (refl, tt)
distinct_append x (p ∷ ps) d none =
    let apart = missed_other x p ps none in
    let differs : x ≡ p → ⊥ = λ e. let f : true ≡ false = sym (same_place_itself x) ∙ ap (λ z. same_place z x) e ∙ apart.0 in cc in
    (missed_append p x ps d.0 (other_place x p differs), distinct_append x ps d.1 apart.1)
