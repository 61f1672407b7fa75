-- A transition that was taken, and what was found in the end.
use Rattle.std.proofs.Common.{◌≡◌, ◌⊎◌, inl, ℕ, ◌<◌, List, refl, sym, ap, ◌∙◌, subst}
use Rattle.std.specs.Prelude.{Option, None, Some, slice_get, if◌then◌else◌, Bool, true, false}
use Rattle.semiring_laws.specs.Semiring.{Operations, IsSemiring, Fits}
use Rattle.semiring_laws.proofs.CallerLemmas.{below_itself}
use Rattle.pushdown_rules.specs.Pushdown.{Pushdown, IsSystem}
use Rattle.pushdown_rules.specs.Values.{value_of}
use Rattle.config_patterns.specs.Membership.{PatternValue}
use Rattle.config_patterns.specs.Edges.{edges_of}
use Rattle.weighted_automata.specs.declared.place.Place.{Place}
use Rattle.weighted_automata.specs.declared.place.Label.{Label}
use Rattle.weighted_automata.specs.declared.place.Label.TheVariants.{Symbol, Empty}
use Rattle.value_laws.specs.Runs.{Pops, Enters, Sums, IsSum}
use Rattle.value_laws.specs.Settled.{Table, AreWeights, ArePopsSettled, AreEntersSettled}
use Rattle.value_laws.specs.Steps.{is_place, without, IsFurther}
use Rattle.value_laws.proofs.CallerLemmas.{pops_kept, enters_kept, pops_done, enters_done, pop_below, enter_below}
use Rattle.weight_tables.specs.Entries.{TableEntry, IsTable, NoneWaits, taken}
use Rattle.weight_tables.specs.Tables.{TablesValue, AreTables, entries_of, with_entries}
use Rattle.weight_tables.specs.declared.layer.Layer.{Layer}
use Rattle.weight_tables.specs.Turns.{turns_left}
use Rattle.weight_tables.proofs.CallerLemmas.{taken_places, taken_turns}
use Rattle.value_search.specs.Views.{place_at, layer_of, found, weights, counting, Leads, IsSound, AreSettled}
use Rattle.value_search.specs.Finds.{IsAt, FindsPops, FindsEnters, IsSearch, IsOnward}
use Rattle.value_search.specs.Met.{IsOntoMet, IsOverMet}
use Rattle.value_search.proofs.ViewLemmas.{weights_fit, counting_fits, all_count, taken_view, taken_counts, taken_empty}
use Rattle.value_search.proofs.OnwardLemmas.{found_table, others_base}

module _ {S W Map : Type 0} where
  laid : (target : Option PatternValue) (es : List (TableEntry W)) (v : TablesValue S W Map) → found target (with_entries (layer_of target) es v) ≡ es
  laid None es v = refl
  laid (Some goal) es v = refl

module _ {S W Map : Type 0} {operations : S → Operations W Map} {p : Pushdown S W Map} (valid : IsSystem operations p) (laws : IsSemiring (operations p.semiring)) where
  abbrev s : Operations W Map
  s = operations p.semiring

  without_fits : (c g q : ℕ) (b : Table W) → AreWeights s b → AreWeights s (without s.zero c g q b)
  without_fits c g q b fits x y z = elim (is_place c g q x y z) as (λ (t : Bool). Fits s (if t then s.zero else b x y z)) [ true ↦ laws.fits-zero | false ↦ fits x y z ]

  without_kept : (c g q x y z : ℕ) (b b' : Table W) → (b' x y z ≡ b x y z) ⊎ (b' x y z ≡ s.zero)
      → (without s.zero c g q b' x y z ≡ without s.zero c g q b x y z) ⊎ (without s.zero c g q b' x y z ≡ s.zero)
  without_kept c g q x y z b b' kept =
      elim (is_place c g q x y z) as (λ (t : Bool). ((if t then s.zero else b' x y z) ≡ (if t then s.zero else b x y z)) ⊎ ((if t then s.zero else b' x y z) ≡ s.zero)) [ true ↦ inl refl | false ↦ kept ]

  -- what was settled stays so
  pub settled_kept : (target : Option PatternValue) (base : List (TableEntry W)) → IsTable s base → (a b a' b' : Table W) → AreWeights s a → AreWeights s b → AreWeights s a' → AreWeights s b'
      → IsFurther s a b a' b' → AreSettled s p target base a b → AreSettled s p target base a' b'
  settled_kept None base table a b a' b' fa fb fa' fb' further settled = pops_kept valid laws a b a' b' fa fb fa' fb' further settled
  settled_kept (Some goal) base table a b a' b' fa fb fa' fb' further settled =
      enters_kept valid laws a b a' b' fa fb fa' fb' further goal.control (edges_of goal.items) (counting s base) (counting_fits laws base table) settled

  -- all that a transition gives is there
  module _ (c g q : ℕ) (v : TablesValue S W Map) (tables : AreTables s v) where
    taken_done : (target : Option PatternValue) → AreSettled s p target v.base (weights s (found target v)) (without s.zero c g q (counting s (found target v)))
        → ((k : ℕ) → IsOntoMet s p target k c g q (found target v)) → ((k : ℕ) → IsOverMet s p target k c g q v.base (found target v))
        → AreSettled s p target v.base (weights s (found target v)) (counting s (found target v))
    taken_done None settled onto over =
        let b = counting s v.base in
        let fb = counting_fits laws v.base tables.base in
        pops_done valid laws c g q (b c g q) (fb c g q) (weights s v.base) b (weights_fit laws v.base tables.base) fb (inl refl) settled
        (record {
          steps = λ k r there right is. (onto k).steps r there right is;
          firsts = λ k r there h right is to. (onto k).pushes r there h right is to;
          seconds = λ k r there f right. over k r there f right;
        })
    taken_done (Some goal) settled onto over =
        let b = counting s v.target in
        let fb = counting_fits laws v.target tables.target in
        enters_done valid laws c g q (b c g q) (fb c g q) (weights s v.target) b (weights_fit laws v.target tables.target) fb (inl refl) goal.control (edges_of goal.items)
        (counting s v.base) (counting_fits laws v.base tables.base) settled
        (record {
          steps = λ k r there right is. (onto k).steps r there right is;
          seconds = λ k r there f right. over k r there f right;
          stays = λ k r there h right is to edge. (onto k).pushes r there h right is to edge;
        })

  -- to a target the base is what it was
  same_base : (target : Option PatternValue) (v v' : TablesValue S W Map) → IsOnward s p target v v' → (a b : Table W) → AreSettled s p target v.base a b → AreSettled s p target v'.base a b
  same_base None v v' onward a b settled = settled
  same_base (Some goal) v v' onward a b settled =
      let T : List (TableEntry W) → Type 0 = λ es. AreSettled s p (Some goal) es a b in
      subst T (sym (others_base goal v'.hand v'.target v v' onward.others)) settled

  base_laid : (target : Option PatternValue) (es : List (TableEntry W)) (v v' : TablesValue S W Map) → v' ≡ with_entries (layer_of target) es v → (a b : Table W) → AreSettled s p target v.base a b → AreSettled s p target v'.base a b
  base_laid None es v v' made a b settled = settled
  base_laid (Some goal) es v v' made a b settled =
      let same : v'.base ≡ v.base = ap (λ (u : TablesValue S W Map). u.base) made in
      let T : List (TableEntry W) → Type 0 = λ ds. AreSettled s p (Some goal) ds a b in
      subst T (sym same) settled

  pub taken_settles : (target : Option PatternValue) (c g q : ℕ) (v v' : TablesValue S W Map) → IsSearch s p target v → IsOnward s p target v v'
      → AreSettled s p target v.base (weights s (found target v)) (without s.zero c g q (counting s (found target v)))
      → ((k : ℕ) → IsOntoMet s p target k c g q (found target v')) → ((k : ℕ) → IsOverMet s p target k c g q v'.base (found target v'))
      → AreSettled s p target v'.base (weights s (found target v')) (counting s (found target v'))
  taken_settles target c g q v v' search onward settled onto over =
      let es = found target v in
      let es' = found target v' in
      let table = found_table valid laws target v search.tables in
      let table' = found_table valid laws target v' onward.search.tables in
      taken_done c g q v' onward.search.tables target
      (settled_kept target v'.base onward.search.tables.base (weights s es) (without s.zero c g q (counting s es)) (weights s es') (without s.zero c g q (counting s es'))
      (weights_fit laws es table) (without_fits c g q (counting s es) (counting_fits laws es table)) (weights_fit laws es' table') (without_fits c g q (counting s es') (counting_fits laws es' table'))
      (record { falls = onward.further.falls; counts = λ x y z. without_kept c g q x y z (counting s es) (counting s es') (onward.further.counts x y z) })
      (same_base target v v' onward (weights s es) (without s.zero c g q (counting s es)) settled))
      onto over

  -- the one that was taken waits no more
  sound_taken : (target : Option PatternValue) (t : ℕ) (es : List (TableEntry W)) → IsSound s p target es → IsSound s p target (taken t es)
  sound_taken target t es sound =
      let T : Table W → Type 0 = λ a. (x y z : ℕ) → Sums s (value_of s p) (Leads p target x y z) (a x y z) in
      subst T (sym (taken_view laws es t)) sound

  popped_by : (target : Option PatternValue) (t : ℕ) (v : TablesValue S W Map) → IsSearch s p target v → AreTables s (with_entries (layer_of target) (taken t (found target v)) v)
      → IsSearch s p target (with_entries (layer_of target) (taken t (found target v)) v)
  popped_by None t v search tables =
      let sound : IsSound s p None (taken t v.base) = sound_taken None t v.base search.sound in
      record { same = search.same; tables = tables; base = sound; sound = sound }
  popped_by (Some goal) t v search tables = record { same = search.same; tables = tables; base = search.base; sound = sound_taken (Some goal) t v.target search.sound }

  module _ (target : Option PatternValue) (t : ℕ) (v v' : TablesValue S W Map) (search : IsSearch s p target v) (made : v' ≡ with_entries (layer_of target) (taken t (found target v)) v) (tables : AreTables s v') where
    pub popped_search : IsSearch s p target v'
    popped_search =
        let T : TablesValue S W Map → Type 0 = λ u. AreTables s u in
        let U : TablesValue S W Map → Type 0 = IsSearch s p target in
        subst U (sym made) (popped_by target t v search (subst T made tables))

    pub popped_found : found target v' ≡ taken t (found target v)
    popped_found = ap (found target) made ∙ laid target (taken t (found target v)) v

    -- what counted before but for what was taken
    settled_by : (settled : Table W) → AreWeights s settled → ((x y z : ℕ) → (settled x y z ≡ counting s (found target v) x y z) ⊎ (settled x y z ≡ s.zero))
        → AreSettled s p target v.base (weights s (found target v)) (counting s (found target v)) → AreSettled s p target v'.base (weights s (found target v')) settled
    settled_by settled fits counts known =
        let es = found target v in
        let table = found_table valid laws target v search.tables in
        let fw = weights_fit laws es table in
        let same : weights s (found target v') ≡ weights s es = ap (weights s) popped_found ∙ taken_view laws es t in
        let kept : AreSettled s p target v.base (weights s es) settled =
        settled_kept target v.base search.tables.base (weights s es) (counting s es) (weights s es) settled fw (counting_fits laws es table) fw fits
        (record { falls = λ x y z. below_itself laws (weights s es x y z) (fw x y z); counts = counts }) known in
        let T : Table W → Type 0 = λ a. AreSettled s p target v'.base a settled in
        subst T (sym same) (base_laid target (taken t es) v v' made (weights s es) settled kept)

    pub popped_settled : (c g q : ℕ) → IsAt (found target v) t (place_at c g q) → AreSettled s p target v.base (weights s (found target v)) (counting s (found target v))
        → AreSettled s p target v'.base (weights s (found target v')) (without s.zero c g q (counting s (found target v')))
    popped_settled c g q at known =
        let fits = counting_fits laws (found target v') (found_table valid laws target v' tables) in
        let P : List (TableEntry W) → Type 0 = λ es. (x y z : ℕ) → (without s.zero c g q (counting s es) x y z ≡ counting s (found target v) x y z) ⊎ (without s.zero c g q (counting s es) x y z ≡ s.zero) in
        settled_by (without s.zero c g q (counting s (found target v'))) (without_fits c g q (counting s (found target v')) fits)
        (subst P (sym popped_found) (taken_counts laws (found target v) t c g q at)) known

    pub popped_nothing : (e : TableEntry W) → slice_get (found target v) t ≡ Some e → e.place.label ≡ Empty → AreSettled s p target v.base (weights s (found target v)) (counting s (found target v))
        → AreSettled s p target v'.base (weights s (found target v')) (counting s (found target v'))
    popped_nothing e there empty known =
        let none : (x y z : ℕ) → e.place ≡ place_at x y z → ⊥ = λ x y z is. let label : Empty ≡ Symbol y = sym empty ∙ ap (λ (a : Place). a.label) is in cc in
        let same : counting s (found target v') ≡ counting s (found target v) = ap (counting s) popped_found ∙ taken_empty laws (found target v) t e there none in
        settled_by (counting s (found target v')) (counting_fits laws (found target v') (found_table valid laws target v' tables)) (λ x y z. inl (ap (λ (a : Table W). a x y z) same)) known

    pub popped_at : (x : Place) → IsAt (found target v) t x → IsAt (found target v') t x
    popped_at x at =
        let new = taken_places s t (found target v) t at.0 at.1 in
        let P : List (TableEntry W) → Type 0 = λ es. IsAt es t x in
        subst P (sym popped_found) (new.0, new.1, new.2 ∙ at.2)

    pub popped_fewer : (e : TableEntry W) → slice_get (found target v) t ≡ Some e → e.waits ≡ true → turns_left s (found target v') < turns_left s (found target v)
    popped_fewer e there waits =
        let P : List (TableEntry W) → Type 0 = λ es. turns_left s es < turns_left s (found target v) in
        subst P (sym popped_found) (taken_turns laws t (found target v) e there waits)

  -- Between controls, once nothing waits
  pub closed_pops : (v : TablesValue S W Map) → AreTables s v → FindsPops s p v → NoneWaits v.base → (from g to : ℕ) → IsSum s (value_of s p) (Pops p from g to) (weights s v.base from g to)
  closed_pops v tables finds none from g to =
      let T : Table W → Type 0 = ArePopsSettled s p (weights s v.base) in
      let settled : ArePopsSettled s p (weights s v.base) (weights s v.base) = subst T (sym (all_count s v.base none)) finds.settled in
      record { sums = finds.sound from g to; below = λ run goes. pop_below valid laws (weights s v.base) (weights_fit laws v.base tables.base) settled run from g to goes }

  -- and to a target.
  pub closed_enters : (goal : PatternValue) (v : TablesValue S W Map) → AreTables s v → FindsPops s p v → NoneWaits v.base → FindsEnters s p goal v → NoneWaits v.target
      → (from g to : ℕ) → IsSum s (value_of s p) (Enters p goal.control (edges_of goal.items) from g to) (weights s v.target from g to)
  closed_enters goal v tables pops closed finds none from g to =
      let edges = edges_of goal.items in
      let T : Table W → Type 0 = AreEntersSettled s p goal.control edges (weights s v.base) (weights s v.target) in
      let settled : AreEntersSettled s p goal.control edges (weights s v.base) (weights s v.target) (weights s v.target) = subst T (sym (all_count s v.target none)) finds.settled in
      record {
        sums = finds.sound from g to;
        below = λ run leads. enter_below valid laws goal.control edges (weights s v.base) (weights s v.target) (weights_fit laws v.base tables.base) (weights_fit laws v.target tables.target)
            (λ a x h y goes. (closed_pops v tables pops closed x h y).below a goes) settled run from g to leads;
      }

  -- what the public calls say of a search, and what the private ones do
  pub pops_search : (v : TablesValue S W Map) → v.system ≡ p → AreTables s v → FindsPops s p v → IsSearch s p None v
  pops_search v same tables finds = record { same = same; tables = tables; base = finds.sound; sound = finds.sound }

  pub enters_search : (goal : PatternValue) (v : TablesValue S W Map) → v.system ≡ p → AreTables s v → FindsPops s p v → FindsEnters s p goal v → IsSearch s p (Some goal) v
  enters_search goal v same tables pops finds = record { same = same; tables = tables; base = pops.sound; sound = finds.sound }

  pub enters_settled : (goal : PatternValue) (v : TablesValue S W Map) → NoneWaits v.base → FindsEnters s p goal v → AreSettled s p (Some goal) v.base (weights s v.target) (counting s v.target)
  enters_settled goal v closed finds =
      let T : Table W → Type 0 = λ b. AreEntersSettled s p goal.control (edges_of goal.items) b (weights s v.target) (counting s v.target) in
      subst T (all_count s v.base closed) finds.settled

  pub enters_found : (goal : PatternValue) (v : TablesValue S W Map) → NoneWaits v.base → IsSearch s p (Some goal) v → AreSettled s p (Some goal) v.base (weights s v.target) (counting s v.target) → FindsEnters s p goal v
  enters_found goal v closed search settled =
      let T : Table W → Type 0 = λ b. AreEntersSettled s p goal.control (edges_of goal.items) b (weights s v.target) (counting s v.target) in
      record { sound = search.sound; settled = subst T (sym (all_count s v.base closed)) settled }

-- an entry keeps its number and its place
pub at_later : {S W Map : Type 0} (s : Operations W Map) (p : Pushdown S W Map) (target : Option PatternValue) (v v' : TablesValue S W Map) → IsOnward s p target v v' → (t : ℕ) (x : Place) → IsAt (found target v) t x → IsAt (found target v') t x
at_later s p target v v' onward t x at = let new = onward.places t at.0 at.1 in (new.0, new.1, new.2 ∙ at.2)

-- over the system by its other name
pub subst_system : {S W Map : Type 0} (p q : Pushdown S W Map) → p ≡ q → (P : Pushdown S W Map → Type 0) → P p → P q
subst_system p q same P holds = subst P same holds

-- By the words of the calls, what was popped of a search.
module _ {S W Map : Type 0} where
  system_laid : (aim : Option PatternValue) (es : List (TableEntry W)) (v : TablesValue S W Map) → (with_entries (layer_of aim) es v).system ≡ v.system
  system_laid None es v = refl
  system_laid (Some goal) es v = refl

  module _ (target : Option PatternValue) (layer : Layer) (is : layer ≡ layer_of target) (old new : TablesValue S W Map) (t : ℕ) where
    pub pop_made : new ≡ with_entries layer (taken t (entries_of layer old)) old → new ≡ with_entries (layer_of target) (taken t (found target old)) old
    pop_made made = let P : Layer → Type 0 = λ l. new ≡ with_entries l (taken t (entries_of l old)) old in subst P is made

    pub pop_entry : (e : TableEntry W) → slice_get (entries_of layer old) t ≡ Some e → slice_get (found target old) t ≡ Some e
    pop_entry e there = let P : Layer → Type 0 = λ l. slice_get (entries_of l old) t ≡ Some e in subst P is there

    pub pop_tables : (operations : S → Operations W Map) (p : Pushdown S W Map) → new ≡ with_entries (layer_of target) (taken t (found target old)) old → old.system ≡ p → AreTables (operations new.system.semiring) new
        → AreTables (operations p.semiring) new
    pop_tables operations p made same tables =
        let at : new.system ≡ p = ap (λ (u : TablesValue S W Map). u.system) made ∙ system_laid target (taken t (found target old)) old ∙ same in
        let P : Pushdown S W Map → Type 0 = λ y. AreTables (operations y.semiring) new in
        subst P at tables

    pub place_there : (x : Place) → ((e : TableEntry W) → slice_get (entries_of layer new) t ≡ Some e → x ≡ e.place) → (g : ℕ) → x.label ≡ Symbol g → (y : Place) → IsAt (found target new) t y → y ≡ place_at x.from g x.to
    place_there x reads g symbol y at =
        let Q : Layer → Type 0 = λ l. slice_get (entries_of l new) t ≡ Some at.0 in
        let here : x ≡ at.0.place = reads at.0 (subst Q (sym is) at.1) in
        let label : x ≡ place_at x.from g x.to = ap (λ (l : Label). let z : Place = record { from = x.from; label = l; to = x.to } in z) symbol in
        sym at.2 ∙ sym here ∙ label

    pub place_empty : (x : Place) → ((e : TableEntry W) → slice_get (entries_of layer new) t ≡ Some e → x ≡ e.place) → x.label ≡ Empty → (y : Place) → IsAt (found target new) t y → y.label ≡ Empty
    place_empty x reads empty y at =
        let Q : Layer → Type 0 = λ l. slice_get (entries_of l new) t ≡ Some at.0 in
        let here : x ≡ at.0.place = reads at.0 (subst Q (sym is) at.1) in
        let P : Place → Type 0 = λ z. z.label ≡ Empty in
        subst P (here ∙ at.2) empty

-- what leads between controls stays found where its layer stays
pub pops_stay : {S W Map : Type 0} (s : Operations W Map) (p : Pushdown S W Map) (v v' : TablesValue S W Map) → v'.base ≡ v.base → FindsPops s p v → FindsPops s p v'
pops_stay {S} {W} {Map} s p v v' same finds =
    let P : List (TableEntry W) → Type 0 = λ es. (x y z : ℕ) → Sums s (value_of s p) (Pops p x y z) (weights s es x y z) in
    let Q : List (TableEntry W) → Type 0 = λ es. ArePopsSettled s p (weights s es) (counting s es) in
    record { sound = subst P (sym same) finds.sound; settled = subst Q (sym same) finds.settled }

pub none_stays : {S W Map : Type 0} (v v' : TablesValue S W Map) → v'.base ≡ v.base → NoneWaits v.base → NoneWaits v'.base
none_stays {S} {W} {Map} v v' same none = let P : List (TableEntry W) → Type 0 = λ es. NoneWaits es in subst P (sym same) none
