-- What a weight that comes to a place keeps.
use Rattle.std.proofs.Common.{◌≡◌, ◌⊎◌, inl, inr, ℕ, ◌≤◌, List, refl, sym, ap, ◌∙◌, subst, arith}
use Rattle.std.specs.Prelude.{Option, None, Some}
use Rattle.semiring_laws.specs.Semiring.{Operations, IsSemiring, Fits, Below}
use Rattle.semiring_laws.proofs.CallerLemmas.{below_itself, combine_below_right}
use Rattle.pushdown_rules.specs.Pushdown.{Pushdown, IsSystem}
use Rattle.pushdown_rules.specs.Values.{value_of}
use Rattle.pushdown_rules.proofs.CallerLemmas.{value_fits}
use Rattle.config_patterns.specs.Membership.{PatternValue}
use Rattle.value_laws.specs.Runs.{Sums}
use Rattle.value_laws.specs.Steps.{IsFurther}
use Rattle.value_laws.proofs.CallerLemmas.{further_then, lowered_further, lowered_holds, sums_combine, sums_fit}
use Rattle.weight_tables.specs.Entries.{TableEntry, IsTable, lowered_in}
use Rattle.weight_tables.specs.Tables.{TablesValue, AreTables, with_entries, with_hand}
use Rattle.weight_tables.specs.declared.layer.Layer.TheVariants.{Base, Target}
use Rattle.weight_tables.specs.Turns.{turns_left}
use Rattle.weight_tables.proofs.CallerLemmas.{places_stay, places_then, lowered_places, lowered_turns}
use Rattle.value_search.specs.Views.{place_at, layer_of, found, weights, counting, Leads, IsSound}
use Rattle.value_search.specs.Finds.{IsSearch, IsOnward}
use Rattle.value_search.proofs.ViewLemmas.{counts_or_none, weights_fit, lowered_view}

module _ {S W Map : Type 0} where
  -- a layer whose entries were replaced, and then others
  replaced : (target : Option PatternValue) (h h' : W) (es es' : List (TableEntry W)) (v : TablesValue S W Map)
      → with_hand h (with_entries (layer_of target) es (with_hand h' (with_entries (layer_of target) es' v))) ≡ with_hand h (with_entries (layer_of target) es v)
  replaced None h h' es es' v = refl
  replaced (Some goal) h h' es es' v = refl

  put_found : (target : Option PatternValue) (h : W) (es : List (TableEntry W)) (v : TablesValue S W Map) → found target (with_hand h (with_entries (layer_of target) es v)) ≡ es
  put_found None h es v = refl
  put_found (Some goal) h es v = refl

  -- nothing was replaced
  pub kept : (target : Option PatternValue) (v : TablesValue S W Map) → v ≡ with_hand v.hand (with_entries (layer_of target) (found target v) v)
  kept None v = refl
  kept (Some goal) v = refl

  -- to a target, what is between controls stays
  pub others_base : (goal : PatternValue) (h : W) (es : List (TableEntry W)) (v v' : TablesValue S W Map) → v' ≡ with_hand h (with_entries (layer_of (Some goal)) es v) → v'.base ≡ v.base
  others_base goal h es v v' made = ap (λ (u : TablesValue S W Map). u.base) made

  -- and between controls, what is to a target; the walk and the system always
  pub others_target : (h : W) (es : List (TableEntry W)) (v v' : TablesValue S W Map) → v' ≡ with_hand h (with_entries (layer_of None) es v) → v'.target ≡ v.target
  others_target h es v v' made = ap (λ (u : TablesValue S W Map). u.target) made

  walk_by : (target : Option PatternValue) (h : W) (es : List (TableEntry W)) (v : TablesValue S W Map) → (with_hand h (with_entries (layer_of target) es v)).walk ≡ v.walk
  walk_by None h es v = refl
  walk_by (Some goal) h es v = refl

  pub others_walk : (target : Option PatternValue) (h : W) (es : List (TableEntry W)) (v v' : TablesValue S W Map) → v' ≡ with_hand h (with_entries (layer_of target) es v) → v'.walk ≡ v.walk
  others_walk target h es v v' made = ap (λ (u : TablesValue S W Map). u.walk) made ∙ walk_by target h es v

  -- popped, and then others
  pub laid_others : (target : Option PatternValue) (a b c : TablesValue S W Map) (es : List (TableEntry W)) → b ≡ with_entries (layer_of target) es a → c ≡ with_hand c.hand (with_entries (layer_of target) (found target c) b)
      → c ≡ with_hand c.hand (with_entries (layer_of target) (found target c) a)
  laid_others None a b c es one two = two ∙ ap (λ (u : TablesValue S W Map). with_hand c.hand (with_entries Base (found None c) u)) one
  laid_others (Some goal) a b c es one two = two ∙ ap (λ (u : TablesValue S W Map). with_hand c.hand (with_entries Target (found (Some goal) c) u)) one

  pub laid_only : (target : Option PatternValue) (a b : TablesValue S W Map) (es : List (TableEntry W)) → b ≡ with_entries (layer_of target) es a → b ≡ with_hand b.hand (with_entries (layer_of target) (found target b) a)
  laid_only None a b es made = let T : TablesValue S W Map → Type 0 = λ u. u ≡ with_hand u.hand (with_entries Base u.base a) in subst T (sym made) refl
  laid_only (Some goal) a b es made = let T : TablesValue S W Map → Type 0 = λ u. u ≡ with_hand u.hand (with_entries Target u.target a) in subst T (sym made) refl

module _ {S W Map : Type 0} {operations : S → Operations W Map} {p : Pushdown S W Map} (valid : IsSystem operations p) (laws : IsSemiring (operations p.semiring)) where
  abbrev s : Operations W Map
  s = operations p.semiring

  pub found_table : (target : Option PatternValue) (v : TablesValue S W Map) → AreTables s v → IsTable s (found target v)
  found_table None v tables = tables.base
  found_table (Some goal) v tables = tables.target

  pub found_fits : (target : Option PatternValue) (v : TablesValue S W Map) → IsSearch s p target v → (x y z : ℕ) → Fits s (weights s (found target v) x y z)
  found_fits target v search = weights_fit laws (found target v) (found_table target v search.tables)

  pub onward_itself : (target : Option PatternValue) (v : TablesValue S W Map) → IsSearch s p target v → IsOnward s p target v v
  onward_itself target v search = record {
    search = search;
    further = record { falls = λ x y z. below_itself laws (weights s (found target v) x y z) (found_fits target v search x y z); counts = λ x y z. inl refl };
    places = places_stay (found target v);
    fewer = omega arith;
    others = kept target v;
  }

  pub onward_then : (target : Option PatternValue) (a b c : TablesValue S W Map) → IsSearch s p target a → IsOnward s p target a b → IsOnward s p target b c → IsOnward s p target a c
  onward_then target a b c search one two = record {
    search = two.search;
    further = further_then laws (weights s (found target a)) (counting s (found target a)) (weights s (found target b)) (counting s (found target b)) (weights s (found target c)) (counting s (found target c))
        (found_fits target a search) (found_fits target b one.search) (found_fits target c two.search) one.further two.further;
    places = places_then (found target a) (found target b) (found target c) one.places two.places;
    fewer = let f = one.fewer in let g = two.fewer in omega (arith, f, g);
    others = two.others ∙ ap (λ (u : TablesValue S W Map). with_hand c.hand (with_entries (layer_of target) (found target c) u)) one.others ∙ replaced target c.hand b.hand (found target c) (found target b) a;
  }

  held_by : (target : Option PatternValue) (v : TablesValue S W Map) (w : W) → Fits s w → IsSearch s p target v → IsOnward s p target v (with_hand w v)
  held_by None v w fw was = record {
    search = record { same = was.same; tables = record { hand = fw; base = was.tables.base; target = was.tables.target; walk = was.tables.walk }; base = was.base; sound = was.sound };
    further = (onward_itself None v was).further;
    places = places_stay v.base;
    fewer = omega arith;
    others = refl;
  }
  held_by (Some goal) v w fw was = record {
    search = record { same = was.same; tables = record { hand = fw; base = was.tables.base; target = was.tables.target; walk = was.tables.walk }; base = was.base; sound = was.sound };
    further = (onward_itself (Some goal) v was).further;
    places = places_stay v.target;
    fewer = omega arith;
    others = refl;
  }

  -- another weight in hand
  pub held_onward : (target : Option PatternValue) (v v' : TablesValue S W Map) (w : W) → IsSearch s p target v → Fits s w → v' ≡ with_hand w v → IsOnward s p target v v'
  held_onward target v v' w search fw made =
      let T : TablesValue S W Map → Type 0 = IsOnward s p target v in
      subst T (sym made) (held_by target v w fw search)

  -- What counted, or the weight, is what it was or counts for nothing.
  pub counted : (target : Option PatternValue) (v v' : TablesValue S W Map) → IsOnward s p target v v' → (from g to : ℕ)
      → (counting s (found target v') from g to ≡ weights s (found target v) from g to) ⊎ (counting s (found target v') from g to ≡ s.zero)
  counted target v v' onward from g to = elim (onward.further.counts from g to) [
    | inr e ↦ inr e
    | inl e ↦ elim (counts_or_none s (found target v) from g to) [ inl same ↦ inl (e ∙ same) | inr none ↦ inr (e ∙ none) ]
  ]

  -- between controls weights only fell too
  pub base_further : (target : Option PatternValue) (v v' : TablesValue S W Map) → IsSearch s p target v → IsOnward s p target v v'
      → IsFurther s (weights s v.base) (counting s v.base) (weights s v'.base) (counting s v'.base)
  base_further None v v' search onward = onward.further
  base_further (Some goal) v v' search onward =
      let T : List (TableEntry W) → Type 0 = λ es. IsFurther s (weights s v.base) (counting s v.base) (weights s es) (counting s es) in
      subst T (sym (others_base goal v'.hand v'.target v v' onward.others))
      (record { falls = λ x y z. below_itself laws (weights s v.base x y z) (weights_fit laws v.base search.tables.base x y z); counts = λ x y z. inl refl })

  -- a weight that combines runs of a place came to it
  module _ (target : Option PatternValue) (c g q : ℕ) (w : W) (sums : Sums s (value_of s p) (Leads p target c g q) w) where
    abbrev lowered : List (TableEntry W) → List (TableEntry W)
    lowered es = lowered_in s (place_at c g q) w es

    fw : Fits s w
    fw = sums_fit laws (value_of s p) (value_fits valid laws) (Leads p target c g q) w sums

    list_further : (es : List (TableEntry W)) → IsTable s es → IsFurther s (weights s es) (counting s es) (weights s (lowered es)) (counting s (lowered es))
    list_further es table = lowered_further laws c g q w fw (weights s es) (counting s es) (weights s (lowered es)) (counting s (lowered es)) (weights_fit laws es table) (lowered_view laws es table c g q w fw)

    list_sound : (es : List (TableEntry W)) → IsTable s es → IsSound s p target es → IsSound s p target (lowered es)
    list_sound es table sound = lowered_holds laws c g q w fw (weights s es) (counting s es) (weights s (lowered es)) (counting s (lowered es)) (weights_fit laws es table) (lowered_view laws es table c g q w fw)
        (λ x y z v. Sums s (value_of s p) (Leads p target x y z) v)
        (λ v before. sums_combine laws (value_of s p) (value_fits valid laws) (Leads p target c g q) v w before sums) sound

    list_fewer : (es : List (TableEntry W)) → IsTable s es → IsTable s (lowered es) → turns_left s (lowered es) ≤ turns_left s es
    list_fewer es table after = let few = after.few in lowered_turns laws (place_at c g q) w es table.fits fw (omega (arith, few))

    pub list_below : (es : List (TableEntry W)) → IsTable s es → Below s (weights s (lowered es) c g q) w
    list_below es table =
        let P : W → Type 0 = λ v. Below s v w in
        subst P (sym (lowered_view laws es table c g q w fw).here) (combine_below_right laws (weights s es c g q) w (weights_fit laws es table c g q) fw)

    by_target : (aim : Option PatternValue) → aim ≡ target → (h : W) (v : TablesValue S W Map) → IsSearch s p aim v
        → AreTables s (with_hand h (with_entries (layer_of aim) (lowered (found aim v)) v)) → IsOnward s p aim v (with_hand h (with_entries (layer_of aim) (lowered (found aim v)) v))
    by_target None is h v search tables =
        let T : Option PatternValue → Type 0 = λ o. IsSound s p o v.base in
        let U : Option PatternValue → Type 0 = λ o. IsSound s p o (lowered v.base) in
        let sound : IsSound s p None (lowered v.base) = subst U (sym is) (list_sound v.base search.tables.base (subst T is search.sound)) in
        record {
          search = record { same = search.same; tables = tables; base = sound; sound = sound };
          further = list_further v.base search.tables.base;
          places = lowered_places laws (place_at c g q) w fw v.base;
          fewer = list_fewer v.base search.tables.base tables.base;
          others = refl;
        }
    by_target (Some goal) is h v search tables =
        let T : Option PatternValue → Type 0 = λ o. IsSound s p o v.target in
        let U : Option PatternValue → Type 0 = λ o. IsSound s p o (lowered v.target) in
        let sound : IsSound s p (Some goal) (lowered v.target) = subst U (sym is) (list_sound v.target search.tables.target (subst T is search.sound)) in
        record {
          search = record { same = search.same; tables = tables; base = search.base; sound = sound };
          further = list_further v.target search.tables.target;
          places = lowered_places laws (place_at c g q) w fw v.target;
          fewer = list_fewer v.target search.tables.target tables.target;
          others = refl;
        }

    pub given_onward : (h : W) (v v' : TablesValue S W Map) → IsSearch s p target v → v' ≡ with_hand h (with_entries (layer_of target) (lowered (found target v)) v) → AreTables s v' → IsOnward s p target v v'
    given_onward h v v' search made tables =
        let T : TablesValue S W Map → Type 0 = λ u. AreTables s u in
        let U : TablesValue S W Map → Type 0 = IsOnward s p target v in
        subst U (sym made) (by_target target refl h v search (subst T made tables))

    pub given_below : (h : W) (v v' : TablesValue S W Map) → IsSearch s p target v → v' ≡ with_hand h (with_entries (layer_of target) (lowered (found target v)) v)
        → Below s (weights s (found target v') c g q) w
    given_below h v v' search made =
        let T : TablesValue S W Map → Type 0 = λ u. Below s (weights s (found target u) c g q) w in
        let U : List (TableEntry W) → Type 0 = λ es. Below s (weights s es c g q) w in
        subst T (sym made) (subst U (sym (put_found target h (lowered (found target v)) v)) (list_below (found target v) (found_table target v search.tables)))
