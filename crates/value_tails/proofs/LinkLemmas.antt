-- Links: what a call puts between two sources.
use Rattle.std.proofs.Common.{◌≡◌, ◌⊎◌, inl, inr, ℕ, zero, suc, Bool, true, ◌<◌, ◌+◌, ◌≤◌, List, [], ◌∷◌, length, get_or, refl, sym, ap, ◌∙◌, subst, arith}
use Rattle.std.proofs.lemmas.Bool.{and_from, eq-eqb}
use Rattle.std.specs.Prelude.{nat_eq, Option, None, Some, option_map, slice_get}
use Rattle.std.specs.List.{AllByRecursion}
use Rattle.std.proofs.lemmas.Option.{same_Some, slice_get_within}
use Rattle.key_rows.specs.Rows.{index_where}
use Rattle.semiring_laws.specs.Semiring.{Operations, IsSemiring, Fits, Below}
use Rattle.semiring_laws.proofs.CallerLemmas.{below_trans, below_zero, combine_zero}
use Rattle.pushdown_rules.specs.declared.rule.Rule.{Rule}
use Rattle.pushdown_rules.specs.Configuration.{at_stack}
use Rattle.pushdown_rules.specs.Pushdown.{Pushdown, IsSystem}
use Rattle.pushdown_rules.specs.Rows.{goes_onto, has_head}
use Rattle.pushdown_rules.specs.Values.{value_of}
use Rattle.pushdown_rules.proofs.CallerLemmas.{weight_fits, value_fits, index_found, index_from_start}
use Rattle.config_patterns.specs.Edges.{edges_of}
use Rattle.config_patterns.specs.Membership.{PatternValue}
use Rattle.weighted_automata.specs.declared.place.Label.TheVariants.{Symbol, Empty}
use Rattle.weighted_automata.specs.declared.place.Place.{Place}
use Rattle.weighted_automata.specs.Places.{same_place}
use Rattle.weight_tables.specs.Entries.{TableEntry, IsTable, index_at, lowered_in, weight_in}
use Rattle.weight_tables.specs.Tables.{TablesValue, AreTables, with_entries, with_hand}
use Rattle.weight_tables.specs.declared.layer.Layer.TheVariants.{Walk}
use Rattle.weight_tables.proofs.CallerLemmas.{place_fits, index_there, index_place, weight_at_index, none_weight}
use Rattle.walk_pairs.specs.Lowerings.{AreLowered}
use Rattle.walk_pairs.proofs.CallerLemmas.{AllFit, none_lowered, one_lowered, lowered_then, lowered_all_fit, lowered_falls, lowered_holds, one_below}
use Rattle.value_laws.specs.Runs.{Sums}
use Rattle.value_laws.proofs.CallerLemmas.{sums_none, sums_combine, sums_fit}
use Rattle.forward_value_laws.specs.Model.{Source, item, callee, head_of, Comes, IsSound}
use Rattle.forward_value_laws.specs.Tails.{LiesBelow}
use Rattle.forward_value_laws.proofs.CallerLemmas.{open_sum}
use Rattle.forward_value_search.specs.Places.{arrow, number_of, place_by}
use Rattle.forward_value_search.specs.Search.{IsFinished, found}
use Rattle.forward_value_search.proofs.CallerLemmas.{one_source, callee_number}
use Rattle.value_tails.specs.private.Steps.{link_place, IsLink, IsLinkWeight, AreLinksLowered, IsLinked, IsLinkedUp, IsRowLinked}

-- what stands at a number
pub entry_at : {X : Type 0} (xs : List X) (k : ℕ) → k < length xs → (x : X) × (slice_get xs k ≡ Some x)
entry_at [] k low = absurd (omega (arith, low))
entry_at (x ∷ xs) zero low = (x, refl)
entry_at (x ∷ xs) (suc k) low = entry_at xs k (omega (arith, low))

-- a place that is found stands within
pub index_within : {W : Type 0} (es : List (TableEntry W)) (x : Place) (t : ℕ) → index_at x es ≡ Some t → t < length es
index_within es x t is = let found = (index_found (λ e. same_place e.place x) 0 es t (sym (index_from_start (λ e. same_place e.place x) es) ∙ is)).0 in slice_get_within es t found.item found.there

pub two_of : (xs : List ℕ) → 2 ≤ length xs → length xs < 3 → xs ≡ get_or xs 0 0 ∷ get_or xs 1 0 ∷ []
two_of [] low high = absurd (omega (arith, low))
two_of (a ∷ []) low high = absurd (omega (arith, low))
two_of (a ∷ b ∷ []) low high = refl
two_of (a ∷ b ∷ c ∷ xs) low high = absurd (omega (arith, high))

pub not_two : (xs : List ℕ) → (length xs < 2) ⊎ (3 ≤ length xs) → (a b : ℕ) → xs ≡ a ∷ b ∷ [] → ⊥
not_two xs (inl few) a b is = let two = ap length is in omega (arith, few, two)
not_two xs (inr many) a b is = let two = ap length is in omega (arith, many, two)

-- a number that is found is that of one of them
pub number_within : {X : Type 0} (test : X → Bool) (xs : List X) (j : ℕ) → index_where test xs ≡ Some j → j < length xs
number_within test xs j is = let at = (index_found test 0 xs j (sym (index_from_start test xs) ∙ is)).0 in slice_get_within xs j at.item at.there

-- some rule goes onto what a rule calls
pub not_onto : {S W Map : Type 0} (items : ℕ) (p : Pushdown S W Map) (k : ℕ) (r : Rule S W Map) → slice_get p.rules k ≡ Some r → (top below : ℕ) → r.right ≡ top ∷ below ∷ [] → index_where (goes_onto r.to top) p.rules ≡ None → ⊥
not_onto items p k r there top below right none =
    let n = callee_number items p k r there top (below ∷ []) right in
    let e : option_map (λ j. items + 1 + j) None ≡ Some n.0 = ap (option_map (λ j. items + 1 + j)) (sym none) ∙ n.1 in
    let f : None ≡ Some n.0 = e in cc

symbol_is : (a b : ℕ) → Symbol a ≡ Symbol b → a ≡ b
symbol_is a b e = cc

-- a rule whose head is a row fires on it
pub fires_at : {S W Map : Type 0} (r : Rule S W Map) (x : Place) (g : ℕ) → x.label ≡ Symbol g → x ≡ arrow r.control (Symbol r.symbol) x.to → has_head x.from g r ≡ true
fires_at r x g label head =
    let symbol : Symbol g ≡ Symbol r.symbol = sym label ∙ ap (λ (y : Place). y.label) head in
    let from : r.control ≡ x.from = sym (ap (λ (y : Place). y.from) head) in
    and_from (nat_eq r.control x.from) (nat_eq r.symbol g) (eq-eqb r.control x.from from) (eq-eqb r.symbol g (sym (symbol_is g r.symbol symbol)))

pub no_symbol : (x : Place) (g : ℕ) → x.label ≡ Empty → x.label ≡ Symbol g → ⊥
no_symbol x g empty symbol = let no : Empty ≡ Symbol g = sym empty ∙ symbol in cc

first_is : (a b c d : ℕ) → a ∷ b ∷ [] ≡ c ∷ d ∷ [] → a ≡ c
first_is a b c d e = cc

module _ {S W Map : Type 0} (operations : S → Operations W Map) (laws : (x : S) → IsSemiring (operations x)) (first : PatternValue) where
  abbrev pub of : TablesValue S W Map → Operations W Map
  of v = operations v.system.semiring

  abbrev pub Links : TablesValue S W Map → TablesValue S W Map → Type 0
  Links v new = AreLinksLowered (of v) first v new

  pub links_none : (v : TablesValue S W Map) → Links v v
  links_none v = record { lowered = none_lowered (of v) (IsLinkWeight (of v) first v) v.walk; others = refl }

  pub links_then : (v v1 v2 : TablesValue S W Map) → Links v v1 → Links v1 v2 → Links v v2
  links_then v v1 v2 one two =
      let P : TablesValue S W Map → Type 0 = λ u. AreLinksLowered (of u) first u v2 in
      let two' = subst P one.others two in
      record { lowered = lowered_then (of v) (IsLinkWeight (of v) first v) v.walk v1.walk v2.walk one.lowered two'.lowered; others = two'.others }

  -- What links are made from.
  pub record IsSearched (v : TablesValue S W Map) : Type 0 where
    pub system : IsSystem operations v.system
    pub base : IsTable (of v) v.base
    pub walk : AllFit (of v) v.walk
    pub finished : IsFinished operations v.system first v

  pub searched_of : (v : TablesValue S W Map) → IsSystem operations v.system → AreTables (of v) v → IsFinished operations v.system first v → IsSearched v
  searched_of v system valid finished = record { system = system; base = valid.base; walk = valid.walk.fits; finished = finished }

  module _ (v : TablesValue S W Map) (searched : IsSearched v) where
    abbrev s : Operations W Map
    s = of v

    abbrev law : IsSemiring s
    law = laws v.system.semiring

    abbrev p : Pushdown S W Map
    p = v.system

    abbrev items : ℕ
    items = length first.items

    abbrev Lies : Source → W → Type 0
    Lies from w = Sums s (value_of s p) (LiesBelow p first from) w

    pub link_none : (n m : ℕ) → IsLink s first p n m s.zero
    link_none n m = inl refl

    pub link_joins : (x : Place) (a b : W) → Fits s a → Fits s b → IsLink s first p x.from x.to a → IsLink s first p x.from x.to b → IsLink s first p x.from x.to (s.combine a b)
    link_joins x a b fa fb (inl none) two =
        let P : W → Type 0 = IsLink s first p x.from x.to in
        subst P (sym (ap (λ u. s.combine u b) none ∙ law.combine_zero b fb)) two
    link_joins x a b fa fb (inr one) (inl none) =
        let P : W → Type 0 = IsLink s first p x.from x.to in
        subst P (sym (ap (s.combine a) none ∙ combine_zero law a fa)) (inr one)
    link_joins x a b fa fb (inr (to, g, is, f)) (inr (to', g', is', f')) = inr (
      to,
      g,
      is,
      λ from known t sum.
          let T : W → Type 0 = Lies (callee to g) in
          let ft = sums_fit law (value_of s p) (value_fits searched.system law) (LiesBelow p first from) t sum in
          let same : callee to' g' ≡ callee to g = one_source items p (callee to' g') (callee to g) x.to is' is in
          let U : Source → Type 0 = λ y. Lies y (s.extend t b) in
          subst T (sym (law.extend-combine_right t a b ft fa fb))
          (sums_combine law (value_of s p) (value_fits searched.system law) (LiesBelow p first (callee to g)) (s.extend t a) (s.extend t b) (f from known t sum) (subst U same (f' from known t sum))),
    )

    row_sums : (control g n : ℕ) (from : Source) → number_of items p from ≡ Some n
        → Sums s (value_of s p) (Comes p first.control (edges_of first.items) (at_stack control (g ∷ [])) from) (weight_in s v.base (arrow control (Symbol g) n))
    row_sums control g n from numbered =
        let is : found operations p first v (at_stack control (g ∷ [])) from ≡ weight_in s v.base (arrow control (Symbol g) n) =
        ap (λ (o : Option ℕ). let u : W = elim (place_by control (Some (Symbol g)) o) [ None ↦ s.zero | Some z ↦ weight_in s v.base z ] in u) numbered in
        let T : W → Type 0 = Sums s (value_of s p) (Comes p first.control (edges_of first.items) (at_stack control (g ∷ [])) from) in
        subst T is (searched.finished.sound.sums (at_stack control (g ∷ [])) from (omega arith))

    -- a push rule from what stands at its head
    module _ (t : ℕ) (e : TableEntry W) (at : slice_get v.base t ≡ Some e) (k : ℕ) (r : Rule S W Map) (there : slice_get p.rules k ≡ Some r) (head : e.place ≡ arrow r.control (Symbol r.symbol) e.place.to)
        (top below m : ℕ) (right : r.right ≡ top ∷ below ∷ []) (entered : number_of items p (callee r.to top) ≡ Some m) where
      abbrev pub worth : W
      worth = s.extend e.weight r.weight

      weight_is : weight_in s v.base (arrow r.control (Symbol r.symbol) e.place.to) ≡ e.weight
      weight_is = ap (weight_in s v.base) (sym head) ∙ (weight_at_index s e.place v.base t e (index_there v.base searched.base.distinct t e at) at).0

      fits_entry : Fits s e.weight
      fits_entry = subst (Fits s) weight_is (place_fits s (arrow r.control (Symbol r.symbol) e.place.to) v.base law.fits-zero searched.base.fits)

      fits_worth : Fits s worth
      fits_worth = law.fits-extend e.weight r.weight fits_entry (weight_fits searched.system law k r there)

      is_link : IsLink s first p e.place.to m worth
      is_link = inr (
        r.to,
        top,
        entered,
        λ from is u sum.
            let R : W → Type 0 = Sums s (value_of s p) (Comes p first.control (edges_of first.items) (head_of r) from) in
            open_sum searched.system law first first k r there top below right from u e.weight sum (subst R weight_is (row_sums r.control r.symbol e.place.to from is)),
      )

      module _ (new : TablesValue S W Map) (made : new ≡ with_entries Walk (lowered_in s (link_place e.place.to m) worth v.walk) (with_hand worth v)) where
        walk_is : new.walk ≡ lowered_in s (link_place e.place.to m) worth v.walk
        walk_is = ap (λ (u : TablesValue S W Map). u.walk) made

        hand_is : new.hand ≡ worth
        hand_is = ap (λ (u : TablesValue S W Map). u.hand) made

        pub rule_links : Links v new
        rule_links = record {
          lowered = one_lowered s (IsLinkWeight s first v) (link_place e.place.to m) worth (fits_worth, is_link) v.walk new.walk walk_is;
          others = made ∙ ap (λ ws. with_hand worth (with_entries Walk ws v)) (sym walk_is) ∙ ap (λ h. with_hand h (with_entries Walk new.walk v)) (sym hand_is);
        }

        pub rule_linked : IsLinked s first v new.walk k r e.place.to
        rule_linked g h right' m' entered' =
            let symbol : top ≡ g = first_is top below g h (sym right ∙ right') in
            let N : ℕ → Type 0 = λ a. number_of items p (callee r.to a) ≡ Some m' in
            let same : m ≡ m' = same_Some m m' (sym entered ∙ subst N (sym symbol) entered') in
            let P : ℕ → Type 0 = λ n. Below s (weight_in s new.walk (link_place e.place.to n)) (s.extend (weight_in s v.base (arrow r.control (Symbol r.symbol) e.place.to)) r.weight) in
            let Q : W → Type 0 = λ w. Below s (weight_in s new.walk (link_place e.place.to m)) (s.extend w r.weight) in
            subst P same (subst Q (sym weight_is) (one_below law (link_place e.place.to m) worth fits_worth v.walk new.walk searched.walk walk_is))

    module _ (new : TablesValue S W Map) (links : Links v new) where
      fit : (x : Place) (w : W) → IsLinkWeight s first v x w → Fits s w
      fit x w is = is.0

      pub links_fit : AllFit s new.walk
      links_fit = lowered_all_fit law (IsLinkWeight s first v) fit v.walk new.walk links.lowered searched.walk

      pub links_falls : (y : Place) → Below s (weight_in s new.walk y) (weight_in s v.walk y)
      links_falls = lowered_falls law (IsLinkWeight s first v) fit v.walk new.walk links.lowered searched.walk

      pub links_searched : IsSearched new
      links_searched =
          let P : TablesValue S W Map → Type 0 = IsSearched in
          subst P (sym links.others) (record { system = searched.system; base = searched.base; walk = links_fit; finished = record { sound = searched.finished.sound; closed = searched.finished.closed } })

      pub links_hold : ((x : Place) → IsLink s first p x.from x.to (weight_in s v.walk x)) → (x : Place) → IsLink s first p x.from x.to (weight_in s new.walk x)
      links_hold were = lowered_holds law (IsLinkWeight s first v) fit v.walk new.walk links.lowered searched.walk (λ x w. IsLink s first p x.from x.to w) link_joins (λ x w is. is.1) were

      pub linked_later : (k : ℕ) (r : Rule S W Map) → slice_get p.rules k ≡ Some r → (n : ℕ) → IsLinked s first v v.walk k r n → IsLinked s first v new.walk k r n
      linked_later k r there n met g h right m entered =
          let x : Place = link_place n m in
          let a : W = weight_in s v.base (arrow r.control (Symbol r.symbol) n) in
          below_trans law (weight_in s new.walk x) (weight_in s v.walk x) (s.extend a r.weight) (place_fits s x new.walk law.fits-zero links_fit) (place_fits s x v.walk law.fits-zero searched.walk)
          (law.fits-extend a r.weight (place_fits s (arrow r.control (Symbol r.symbol) n) v.base law.fits-zero searched.base.fits) (weight_fits searched.system law k r there)) (links_falls x) (met g h right m entered)

    -- where each entry of a row has its links, each row has
    pub all_linked : (k : ℕ) (r : Rule S W Map) → slice_get p.rules k ≡ Some r → (n : ℕ) → (new : List (TableEntry W)) → AllFit s new
        → ((t : ℕ) (e : TableEntry W) → slice_get v.base t ≡ Some e → IsRowLinked s first v new e.place) → IsLinked s first v new k r n
    all_linked k r there n new fits each g h right m entered = elim (index_at (arrow r.control (Symbol r.symbol) n) v.base) as (λ o. index_at (arrow r.control (Symbol r.symbol) n) v.base ≡ o
        → Below s (weight_in s new (link_place n m)) (s.extend (weight_in s v.base (arrow r.control (Symbol r.symbol) n)) r.weight)) [
          | None ↦ λ none.
              let P : W → Type 0 = Below s (weight_in s new (link_place n m)) in
              let zero : s.extend (weight_in s v.base (arrow r.control (Symbol r.symbol) n)) r.weight ≡ s.zero =
              ap (λ u. s.extend u r.weight) (none_weight s (arrow r.control (Symbol r.symbol) n) v.base none) ∙ law.extend-zero_left r.weight (weight_fits searched.system law k r there) in
              subst P (sym zero) (below_zero law (weight_in s new (link_place n m)) (place_fits s (link_place n m) new law.fits-zero fits))
          | Some t ↦ λ found.
              let low = index_within v.base (arrow r.control (Symbol r.symbol) n) t found in
              let entry = entry_at v.base t low in
              let e = entry.0 in
              let place : e.place ≡ arrow r.control (Symbol r.symbol) n = index_place (arrow r.control (Symbol r.symbol) n) v.base t e found entry.1 in
              let to : e.place.to ≡ n = ap (λ (y : Place). y.to) place in
              let P : ℕ → Type 0 = λ i. Below s (weight_in s new (link_place i m)) (s.extend (weight_in s v.base (arrow r.control (Symbol r.symbol) i)) r.weight) in
              subst P to (each t e entry.1 k r there (place ∙ ap (λ i. arrow r.control (Symbol r.symbol) i) (sym to)) g h right m entered)
        ] refl

  -- each row that was linked is linked still
  pub row_later : (v : TablesValue S W Map) → IsSearched v → (now new : TablesValue S W Map) → (was : Links v now) → Links now new → (x : Place) → IsRowLinked (of v) first v now.walk x → IsRowLinked (of v) first v new.walk x
  row_later v searched now new was step x met k r there head =
      let P : TablesValue S W Map → Type 0 = λ u. slice_get u.system.rules k ≡ Some r → IsLinked (of u) first u now.walk k r x.to → IsLinked (of u) first u new.walk k r x.to in
      let all : P now = λ there' old. linked_later now (links_searched v searched now was) new step k r there' x.to old in
      subst P was.others all there (met k r there head)

  -- All links are made.
  module _ (v : TablesValue S W Map) (system : IsSystem operations v.system) (valid : AreTables (of v) v) (finished : IsFinished operations v.system first v) (v1 : TablesValue S W Map) (is : v1 ≡ with_entries Walk [] v) where
    pub empty_searched : IsSearched v1
    empty_searched =
        let P : TablesValue S W Map → Type 0 = IsSearched in
        subst P (sym is) (record { system = system; base = valid.base; walk = tt; finished = record { sound = finished.sound; closed = finished.closed } })

    pub linked_up : (new : TablesValue S W Map) → (links : Links v1 new) → ((t : ℕ) (e : TableEntry W) → slice_get v1.base t ≡ Some e → IsRowLinked (of v1) first v1 new.walk e.place)
        → IsLinkedUp (of v) first new × (new ≡ with_hand new.hand (with_entries Walk new.walk v))
    linked_up new links each =
        let s1 = of v1 in
        let walk : v1.walk ≡ [] = ap (λ (u : TablesValue S W Map). u.walk) is in
        let Z : List (TableEntry W) → Type 0 = λ es. (x : Place) → IsLink s1 first v1.system x.from x.to (weight_in s1 es x) in
        let none : Z v1.walk = subst Z (sym walk) (λ x. link_none v1 empty_searched x.from x.to) in
        let all : IsLinkedUp s1 first (with_hand new.hand (with_entries Walk new.walk v1)) = record {
          links = links_hold v1 empty_searched new links none;
          opens = λ k r there n. all_linked v1 empty_searched k r there n new.walk (links_fit v1 empty_searched new links) (λ t e at. each t e at);
        } in
        let over : new ≡ with_hand new.hand (with_entries Walk new.walk v) = links.others ∙ ap (λ (u : TablesValue S W Map). with_hand new.hand (with_entries Walk new.walk u)) is in
        let P : TablesValue S W Map → Type 0 = IsLinkedUp s1 first in
        let Q : TablesValue S W Map → Type 0 = λ u. IsLinkedUp (of u) first new in
        (subst Q is (subst P (sym links.others) all), over)
