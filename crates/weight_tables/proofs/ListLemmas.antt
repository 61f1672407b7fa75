-- How a list of entries is kept while it changes.
use Rattle.std.proofs.Common.{zero, suc, ◌≡◌, ℕ, ◌+◌, ◌<◌, ◌^◌, Bool, true, false, List, [], ◌∷◌, ◌++◌, length, get_or, set, map, refl, sym, ap, ap₂, ◌∙◌, subst, arith, length-append, lit<}
use Rattle.std.specs.Prelude.{Option, None, Some, IfSome, IfNone, option_map, slice_get}
use Rattle.std.specs.Ordering.{eq_by_cmp}
use Rattle.std.proofs.lemmas.Option.{slice_get_within, same_Some}
use Rattle.key_rows.specs.Members.{number_of}
use Rattle.key_rows.specs.Rows.{index_where, index_from, has_key, next_alike}
use Rattle.weighted_automata.specs.contracts.place.PlaceOrd.TheImpl.{ghosts as of_places}
use Rattle.weighted_automata.specs.declared.place.Place.{Place}
use Rattle.weighted_automata.specs.Places.{same_place}
use Rattle.weight_tables.specs.declared.cell.Cell.{Cell}
use Rattle.weight_tables.specs.declared.index.PlaceIndex.{PlaceIndex}
use Rattle.weight_tables.specs.Entries.{TableEntry, NoneWaits, index_at}
use Rattle.weight_tables.specs.private.Cells.{cells_of, waits_in, written, cleared, entries_in, with_cells}
use Rattle.weight_tables.specs.private.Index.{AreIndexed}
use Rattle.weight_tables.specs.private.Listed.{AreDistinct, IsEntryList}
use Rattle.weight_tables.specs.private.Marks.{AreMarked}
use Rattle.weight_tables.proofs.CellLemmas.{length-written, length-cleared, length-entries, length-waits, waits-append, entries-append, index_at-entries, distinct_append, found_by_place, get-entries, IsMade, none_waits, places-entries, cells_entries}
use Rattle.weight_tables.proofs.MarkLemmas.{marked_add, none_marked}
use Rattle.weight_tables.proofs.IndexLemmas.{first_of_row, next_of_row, no_row, all_within, index_where-within, next_alike-within}
use Rattle.weight_tables.proofs.LayerLemmas.{if_some}

pub list_new : {W : Type 0} (ps : List Place) (cs : List (Cell W)) (index : PlaceIndex) (q : List ℕ) → ps ≡ [] → cs ≡ [] → q ≡ [] → AreIndexed [] index → IsEntryList ps cs index q
list_new {W} ps cs index q no_places no_cells none indexed =
    let P : List Place → Type 0 = λ ps. IsEntryList ps cs index q in
    let Q : List (Cell W) → Type 0 = λ cs. IsEntryList [] cs index q in
    let R : List ℕ → Type 0 = λ q. IsEntryList {W = W} [] [] index q in
    subst P (sym no_places) (subst Q (sym no_cells) (subst R (sym none) (record {
      long = refl;
      few = lit< tt;
      distinct = tt;
      indexed = indexed;
      marked = record { marks = λ k. refl; once = tt };
    })))

module _ {W : Type 0} (ps : List Place) (cs : List (Cell W)) (index : PlaceIndex) (q : List ℕ) (is : IsEntryList ps cs index q) where
  pub list_written : (t : ℕ) (w : W) (cs' : List (Cell W)) (q' : List ℕ) → cs' ≡ written t w cs → AreMarked q' (waits_in cs') → IsEntryList ps cs' index q'
  list_written t w cs' q' now marked = record {
    long = is.long ∙ sym (ap length now ∙ length-written t w cs);
    few = is.few;
    distinct = is.distinct;
    indexed = is.indexed;
    marked = marked;
  }

  pub list_cleared : (t : ℕ) (cs' : List (Cell W)) (q' : List ℕ) → cs' ≡ cleared t cs → AreMarked q' (waits_in cs') → IsEntryList ps cs' index q'
  list_cleared t cs' q' now marked = record {
    long = is.long ∙ sym (ap length now ∙ length-cleared t cs);
    few = is.few;
    distinct = is.distinct;
    indexed = is.indexed;
    marked = marked;
  }

  -- other weights with the same marks
  pub list_put : (es : List (TableEntry W)) → entries_in ps cs ≡ es → (cs' now : List (Cell W)) → waits_in cs' ≡ waits_in (cells_of es) → now ≡ cs' → IsEntryList ps now index q
  list_put es seen cs' now same put =
      let marks : waits_in now ≡ waits_in cs = ap waits_in put ∙ same ∙ ap (λ ds. waits_in (cells_of ds)) (sym seen) ∙ ap waits_in (cells_entries ps cs is.long) in
      record {
        long = is.long ∙ sym (length-waits cs) ∙ sym (ap length marks) ∙ length-waits now;
        few = is.few;
        distinct = is.distinct;
        indexed = is.indexed;
        marked = subst (AreMarked q) (sym marks) is.marked;
      }

  pub entries_put : (es : List (TableEntry W)) → entries_in ps cs ≡ es → (cs' now : List (Cell W)) → now ≡ cs' → entries_in ps now ≡ with_cells cs' es
  entries_put es seen cs' now put =
      ap (entries_in ps) put ∙ ap (λ qs. entries_in qs cs') (sym (places-entries ps cs is.long) ∙ ap (map (λ (e : TableEntry W). e.place)) seen)

  -- the same cells and numbers
  pub list_same : (cs' : List (Cell W)) (q' : List ℕ) → cs' ≡ cs → q' ≡ q → IsEntryList ps cs' index q'
  list_same cs' q' one two =
      let P : List (Cell W) → Type 0 = λ cs. IsEntryList ps cs index q' in
      subst P (sym one) (subst (IsEntryList ps cs index) (sym two) is)

  pub list_indexed : (ps' : List Place) (cs' : List (Cell W)) (index' : PlaceIndex) (q' : List ℕ) → ps' ≡ ps → cs' ≡ cs → AreIndexed ps index' → q' ≡ q → IsEntryList ps' cs' index' q'
  list_indexed ps' cs' index' q' places one indexed two =
      let P : List Place → Type 0 = λ ps. IsEntryList ps cs' index' q' in
      let Q : List (Cell W) → Type 0 = λ cs. IsEntryList ps cs index' q' in
      let now : IsEntryList ps cs index' q = record { long = is.long; few = is.few; distinct = is.distinct; indexed = indexed; marked = is.marked } in
      subst P (sym places) (subst Q (sym one) (subst (IsEntryList ps cs index') (sym two) now))

  pub list_missed : (x : Place) → index_at x (entries_in ps cs) ≡ None → index_where (λ p. same_place p x) ps ≡ None
  list_missed x none = sym (index_at-entries x ps cs is.long) ∙ none

  pub list_found : (x : Place) → number_of of_places.cmp (λ p. p) x ps ≡ index_at x (entries_in ps cs)
  list_found x = found_by_place x ps is.distinct ∙ sym (index_at-entries x ps cs is.long)

  pub list_length : length (entries_in ps cs) ≡ length ps
  list_length = length-entries ps cs is.long

  -- one that is added waits
  pub list_added : (x : Place) (c : Cell W) → c.waits ≡ true → index_at x (entries_in ps cs) ≡ None → (ps' : List Place) (cs' : List (Cell W)) (index' : PlaceIndex) (q' : List ℕ) (n : ℕ)
      → ps' ≡ ps ++ x ∷ [] → cs' ≡ cs ++ c ∷ [] → AreIndexed (ps ++ x ∷ []) index' → n ≡ length ps → q' ≡ q ++ n ∷ [] → length ps' < 2 ^ 32 → IsEntryList ps' cs' index' q'
  list_added x c waits none ps' cs' index' q' n now_places now_cells indexed number now_queue few =
      let P : List Place → Type 0 = λ ps. AreIndexed ps index' in
      let there : n ≡ length (waits_in cs) = number ∙ is.long ∙ sym (length-waits cs) in
      let marks : waits_in cs' ≡ waits_in cs ++ true ∷ [] = ap waits_in now_cells ∙ waits-append cs c ∙ ap (λ b. waits_in cs ++ b ∷ []) waits in
      let long : length (ps ++ x ∷ []) ≡ length (cs ++ c ∷ []) = length-append ps (x ∷ []) ∙ ap (λ n. n + 1) is.long ∙ sym (length-append cs (c ∷ [])) in
      record {
        long = ap length now_places ∙ long ∙ sym (ap length now_cells);
        few = few;
        distinct = subst AreDistinct (sym now_places) (distinct_append x ps is.distinct (list_missed x none));
        indexed = subst P (sym now_places) indexed;
        marked = subst (AreMarked q') (sym marks) (subst (λ q. AreMarked q (waits_in cs ++ true ∷ [])) (sym (now_queue ∙ ap (λ n. q ++ n ∷ []) there)) (marked_add q (waits_in cs) is.marked));
      }

  pub entries_added : (x : Place) (c : Cell W) (ps' : List Place) (cs' : List (Cell W)) → ps' ≡ ps ++ x ∷ [] → cs' ≡ cs ++ c ∷ []
      → entries_in ps' cs' ≡ entries_in ps cs ++ record { place = x; weight = c.weight; waits = c.waits } ∷ []
  entries_added x c ps' cs' now_places now_cells = ap₂ entries_in now_places now_cells ∙ entries-append ps cs x c is.long

  -- an entry, as it is read
  module _ (es : List (TableEntry W)) (seen : entries_in ps cs ≡ es) (t : ℕ) where
    pub read_made : (e : TableEntry W) → slice_get es t ≡ Some e → IsMade ps cs t e
    read_made e at = get-entries ps cs t e (ap (λ ds. slice_get ds t) seen ∙ at)

    pub read_below : t < length es → t < length ps
    read_below below = subst (λ n. t < n) (ap length (sym seen) ∙ list_length) below

    pub cell_below : t < length es → t < length cs
    cell_below below = subst (λ n. t < n) is.long (read_below below)

length-map : {X Y : Type 0} (f : X → Y) (xs : List X) → length (map f xs) ≡ length xs
length-map f [] = refl
length-map f (x ∷ xs) = ap suc (length-map f xs)

marked_cell : {W : Type 0} (ps : List Place) (cs : List (Cell W)) (t : ℕ) → length ps ≡ length cs → slice_get (waits_in cs) t ≡ Some true → (e : TableEntry W) × (slice_get (entries_in ps cs) t ≡ Some e) × (e.waits ≡ true)
marked_cell ps [] t long at = cc
marked_cell [] (c ∷ cs) t long at = let no : 0 ≡ suc (length cs) = long in absurd (omega (arith, no))
marked_cell (p ∷ ps) (c ∷ cs) zero long at = (record { place = p; weight = c.weight; waits = c.waits }, refl, same_Some c.waits true at)
marked_cell (p ∷ ps) (c ∷ cs) (suc t) long at = marked_cell ps cs t (let h : suc (length ps) ≡ suc (length cs) = long in omega (arith, h)) at

module _ {W : Type 0} (ps : List Place) (cs : List (Cell W)) (index : PlaceIndex) (q : List ℕ) (is : IsEntryList ps cs index q) where
  pub list_popped : (o : Option ℕ) (cs' : List (Cell W)) (q' : List ℕ) → IfNone o (cs' ≡ cs) → IfSome o (λ t. cs' ≡ cleared t cs) → AreMarked q' (waits_in cs') → IsEntryList ps cs' index q'
  list_popped None cs' q' stays takes marked =
      let P : List (Cell W) → Type 0 = λ cs. IsEntryList ps cs index q' in
      subst P (sym stays) (record { long = is.long; few = is.few; distinct = is.distinct; indexed = is.indexed; marked = subst (λ cs. AreMarked q' (waits_in cs)) stays marked })
  list_popped (Some t) cs' q' stays takes marked = list_cleared ps cs index q is t cs' q' takes marked

  pub waiting_entry : (es : List (TableEntry W)) → entries_in ps cs ≡ es → (t : ℕ) → slice_get (waits_in cs) t ≡ Some true → (e : TableEntry W) × (slice_get es t ≡ Some e) × (e.waits ≡ true)
  waiting_entry es seen t at =
      let e = marked_cell ps cs t is.long at in
      (e.0, ap (λ ds. slice_get ds t) (sym seen) ∙ e.1, e.2)

  pub waiting_below : (t : ℕ) → slice_get (waits_in cs) t ≡ Some true → (cs' : List (Cell W)) → cs' ≡ cleared t cs → t < length (entries_in ps cs')
  waiting_below t at cs' now =
      let below : t < length (waits_in cs) = slice_get_within (waits_in cs) t true at in
      let long : length ps ≡ length cs' = is.long ∙ sym (ap length now ∙ length-cleared t cs) in
      subst (λ n. t < n) (length-waits cs ∙ sym is.long ∙ sym (length-entries ps cs' long)) below

  pub none_waiting : (es : List (TableEntry W)) → entries_in ps cs ≡ es → q ≡ [] → NoneWaits es
  none_waiting es seen none = subst NoneWaits seen (none_waits ps cs (none_marked (waits_in cs) (subst (λ q. AreMarked q (waits_in cs)) none is.marked)))

  -- Rows.
  module _ (es : List (TableEntry W)) (seen : entries_in ps cs ≡ es) where
    long_is : length es ≡ length ps
    long_is = ap length (sym seen) ∙ length-entries ps cs is.long

    pub row_small : (o : Option ℕ) → IfSome o (λ k. k < length es) → IfSome o (λ k. k < 2 ^ 32)
    row_small o within = if_some o (λ k below. let a = long_is in let b = is.few in omega (arith, a, b, below)) within

    module _ {K : Type 0} (same : K → K → Bool) (key : Place → Option K) where
      module _ (j : K) (p : TableEntry W → Bool) (test : (e : TableEntry W) → has_key same j (key e.place) ≡ p e) (o : Option ℕ) where
        pub first_is : o ≡ index_where (has_key same j) (map key ps) → o ≡ index_where p es
        first_is found = found ∙ ap (λ ps. index_where (has_key same j) (map key ps)) (sym (places-entries ps cs is.long))
            ∙ first_of_row same key j p test (entries_in ps cs) ∙ ap (index_where p) seen

        pub first_within : o ≡ index_where (has_key same j) (map key ps) → IfSome o (λ t. t < length es)
        first_within found = all_within o (length es) (λ k at. index_where-within p es k (sym (first_is found) ∙ at))

        pub next_is : (t : ℕ) (e : TableEntry W) → slice_get es t ≡ Some e → key e.place ≡ Some j → o ≡ next_alike same t (map key ps) → o ≡ index_from p (t + 1) es
        next_is t e at has found = found ∙ ap (λ ps. next_alike same t (map key ps)) (sym (places-entries ps cs is.long))
            ∙ next_of_row same key j p test (entries_in ps cs) t e (ap (λ ds. slice_get ds t) seen ∙ at) has ∙ ap (index_from p (t + 1)) seen

      pub next_none : (o : Option ℕ) (t : ℕ) (e : TableEntry W) → slice_get es t ≡ Some e → key e.place ≡ None → o ≡ next_alike same t (map key ps) → o ≡ None
      next_none o t e at none found = found ∙ ap (λ ps. next_alike same t (map key ps)) (sym (places-entries ps cs is.long))
          ∙ no_row same key (entries_in ps cs) t e (ap (λ ds. slice_get ds t) seen ∙ at) none

      pub next_within : (o : Option ℕ) (t : ℕ) → o ≡ next_alike same t (map key ps) → IfSome o (λ n. n < length es)
      next_within o t found = all_within o (length es) (λ k at.
          subst (λ n. k < n) (length-map key ps ∙ sym long_is) (next_alike-within same t (map key ps) k (sym found ∙ at)))
