-- The layers of tables, by what is kept of them.
use Rattle.std.proofs.Common.{◌≡◌, ℕ, ◌+◌, ◌<◌, ◌^◌, Bool, List, [], length, refl, sym, ap, ◌∙◌, subst}
use Rattle.std.specs.Prelude.{Option, None, Some, IfSome, IfNone, slice_get, unwrap_or}
use Rattle.std.specs.List.{AllByRecursion}
use Rattle.std.proofs.lemmas.Option.{same_Some}
use Rattle.semiring_laws.specs.Semiring.{Operations, Fits, IsSemiring}
use Rattle.weighted_automata.specs.declared.place.Place.{Place}
use Rattle.pushdown_rules.specs.Pushdown.{Pushdown}
use Rattle.weight_tables.specs.declared.layer.Layer.{Layer}
use Rattle.weight_tables.specs.declared.layer.Layer.TheVariants.{Base, Target, Walk}
use Rattle.weight_tables.specs.declared.layers.Layers.{Layers}
use Rattle.weight_tables.specs.Entries.{TableEntry, HasDistinctPlaces, NoneWaits, IsTable, taken, index_where, index_from, lowered_in}
use Rattle.weight_tables.specs.Growth.{Grows}
use Rattle.weight_tables.specs.Tables.{TablesValue, AreTables, entries_of, with_entries, with_hand}
use Rattle.weight_tables.specs.private.Kept.{AllKnown, AreKnown, AreKept, valued, valued_entry, valued_layers, tables_of, worth_or}
use Rattle.weight_tables.specs.private.Layered.{list_of, no_layers, with_list}
use Rattle.weight_tables.proofs.ValueLemmas.{index_where-valued, index_from-valued, length-valued, kept_entry, known_at, known_more, known_taken, get-valued, none-valued, valued_same, fits_valued, distinct-valued, lowered-zero}

-- A layer as it is seen.
module _ {S Map W V : Type 0} (f : W → V) (p : Pushdown S V Map) (hand : V) (ls : Layers W) (v : TablesValue S V Map) (is : tables_of p hand (valued_layers f ls) ≡ v) (layer : Layer) where
  pub seen : entries_of layer v ≡ valued f (list_of layer ls)
  seen = ap (entries_of layer) (sym is) ∙ elim layer as (λ l. entries_of l (tables_of p hand (valued_layers f ls)) ≡ valued f (list_of l ls)) [ Base ↦ refl | Target ↦ refl | Walk ↦ refl ]

  pub seen_length : length (entries_of layer v) ≡ length (list_of layer ls)
  seen_length = ap length seen ∙ length-valued f (list_of layer ls)

  pub seen_below : (t : ℕ) → t < length (entries_of layer v) → t < length (list_of layer ls)
  seen_below t below = subst (λ n. t < n) seen_length below

  pub seen_within : (o : Option ℕ) (es : List (TableEntry W)) → es ≡ list_of layer ls → IfSome o (λ t. t < length es) → IfSome o (λ t. t < length (entries_of layer v))
  seen_within o es same within = subst (λ n. IfSome o (λ t. t < n)) (ap length same ∙ sym seen_length) within

  pub seen_where : (q : TableEntry V → Bool) (r : TableEntry W → Bool) → ((e : TableEntry W) → q (valued_entry f e) ≡ r e) → (es : List (TableEntry W)) → es ≡ list_of layer ls
      → index_where r es ≡ index_where q (entries_of layer v)
  seen_where q r alike es same = ap (index_where r) same ∙ sym (index_where-valued f q r alike (list_of layer ls)) ∙ ap (index_where q) (sym seen)

  pub seen_from : (q : TableEntry V → Bool) (r : TableEntry W → Bool) → ((e : TableEntry W) → q (valued_entry f e) ≡ r e) → (i : ℕ) (es : List (TableEntry W)) → es ≡ list_of layer ls
      → index_from r i es ≡ index_from q i (entries_of layer v)
  seen_from q r alike i es same = ap (index_from r i) same ∙ sym (index_from-valued f q r alike i (list_of layer ls)) ∙ ap (index_from q i) (sym seen)

  -- an entry that is seen is one that is kept
  pub seen_entry : (t : ℕ) (e : TableEntry V) → slice_get (entries_of layer v) t ≡ Some e → (d : TableEntry W) × (slice_get (list_of layer ls) t ≡ Some d) × (e ≡ valued_entry f d)
  seen_entry t e at = kept_entry f (list_of layer ls) t e (ap (λ es. slice_get es t) (sym seen) ∙ at)

  pub seen_weight : (t : ℕ) (e : TableEntry V) → slice_get (entries_of layer v) t ≡ Some e → (x : W) → ((d : TableEntry W) × (slice_get (list_of layer ls) t ≡ Some d) × (x ≡ d.weight)) → f x ≡ e.weight
  seen_weight t e at x kept =
      let d = seen_entry t e at in
      let same : kept.0 ≡ d.0 = same_Some kept.0 d.0 (sym kept.1 ∙ d.1) in
      ap f kept.2 ∙ ap (λ (c : TableEntry W). f c.weight) same ∙ ap (λ (c : TableEntry V). c.weight) (sym d.2)

-- The tables with other entries in a layer.
pub layer_written : {S Map V : Type 0} (p : Pushdown S V Map) (hand : V) (layer : Layer) (es : List (TableEntry V)) (ls : Layers V) → tables_of p hand (with_list layer es ls) ≡ with_entries layer es (tables_of p hand ls)
layer_written p hand Base es ls = refl
layer_written p hand Target es ls = refl
layer_written p hand Walk es ls = refl

pub layer_listed : {S Map V : Type 0} (p : Pushdown S V Map) (hand : V) (layer : Layer) (ls : Layers V) → list_of layer ls ≡ entries_of layer (tables_of p hand ls)
layer_listed p hand Base ls = refl
layer_listed p hand Target ls = refl
layer_listed p hand Walk ls = refl

pub hand_stays : {S Map V : Type 0} (w : V) (layer : Layer) (es : List (TableEntry V)) (v : TablesValue S V Map) → with_hand w (with_entries layer es v) ≡ with_entries layer es (with_hand w v)
hand_stays w Base es v = refl
hand_stays w Target es v = refl
hand_stays w Walk es v = refl

pub valued_with : {W V : Type 0} (f : W → V) (layer : Layer) (es : List (TableEntry W)) (ls : Layers W) → valued_layers f (with_list layer es ls) ≡ with_list layer (valued f es) (valued_layers f ls)
valued_with f Base es ls = refl
valued_with f Target es ls = refl
valued_with f Walk es ls = refl

pub valued_list : {W V : Type 0} (f : W → V) (layer : Layer) (ls : Layers W) → list_of layer (valued_layers f ls) ≡ valued f (list_of layer ls)
valued_list f Base ls = refl
valued_list f Target ls = refl
valued_list f Walk ls = refl

pub layers_equal : {V : Type 0} (a b : Layers V) → a.base ≡ b.base → a.target ≡ b.target → a.walk ≡ b.walk → a ≡ b
layers_equal {V} a b one two three =
    let at : List (TableEntry V) → List (TableEntry V) → List (TableEntry V) → Layers V = λ x y z. record { base = x; target = y; walk = z } in
    ap (λ x. at x a.target a.walk) one ∙ ap (λ y. at b.base y a.walk) two ∙ ap (λ z. at b.base b.target z) three

-- What is known of the weights.
pub known_list : {W : Type 0} (Known : W → Type 0) (ls : Layers W) → AreKnown Known ls → (layer : Layer) → AllKnown Known (list_of layer ls)
known_list Known ls all Base = all.base
known_list Known ls all Target = all.target
known_list Known ls all Walk = all.walk

pub known_with : {W : Type 0} (Known : W → Type 0) (ls : Layers W) → AreKnown Known ls → (layer : Layer) (es : List (TableEntry W)) → AllKnown Known es → AreKnown Known (with_list layer es ls)
known_with Known ls all Base es some = record { base = some; target = all.target; walk = all.walk }
known_with Known ls all Target es some = record { base = all.base; target = some; walk = all.walk }
known_with Known ls all Walk es some = record { base = all.base; target = all.target; walk = some }

module _ {M P W V : Type 0} {pushdown : M → P} {Knows : M → W → Type 0} {worth : M → W → V} {old new : M} (grows : Grows pushdown Knows worth old new) where
  pub all_grown : (es : List (TableEntry W)) → AllKnown (Knows old) es → AllKnown (Knows new) es
  all_grown es all = known_more grows.known es all

  pub worth_grown : (es : List (TableEntry W)) → AllKnown (Knows old) es → valued (worth new) es ≡ valued (worth old) es
  worth_grown es all = valued_same (worth old) (worth new) (Knows old) grows.stays es all

  pub known_grown : (ls : Layers W) → AreKnown (Knows old) ls → AreKnown (Knows new) ls
  known_grown ls all = record { base = all_grown ls.base all.base; target = all_grown ls.target all.target; walk = all_grown ls.walk all.walk }

  pub layers_grown : (ls : Layers W) → AreKnown (Knows old) ls → valued_layers (worth new) ls ≡ valued_layers (worth old) ls
  layers_grown ls all =
      layers_equal (valued_layers (worth new) ls) (valued_layers (worth old) ls) (worth_grown ls.base all.base) (worth_grown ls.target all.target) (worth_grown ls.walk all.walk)

  pub held_grown : (hand : Option W) → IfSome hand (Knows old) → IfSome hand (Knows new)
  held_grown None held = tt
  held_grown (Some w) held = grows.known w held

  pub kept_grown : (p : P) (hand : Option W) (ls : Layers W) → AreKept pushdown Knows p old hand ls → AreKept pushdown Knows p new hand ls
  kept_grown p hand ls kept = record { system = grows.system ∙ kept.system; held = held_grown hand kept.held; layers = known_grown ls kept.layers }

  -- with a weight in hand
  pub kept_taken : (p : P) (hand : Option W) (ls : Layers W) → AreKept pushdown Knows p old hand ls → (w : W) → Knows new w → AreKept pushdown Knows p new (Some w) ls
  kept_taken p hand ls kept w known = record { system = grows.system ∙ kept.system; held = known; layers = known_grown ls kept.layers }

-- and the tables that are seen then
pub hand_written : {S Map W V : Type 0} (f g : W → V) (p : Pushdown S V Map) (hand : V) (ls : Layers W) (v : TablesValue S V Map) → tables_of p hand (valued_layers f ls) ≡ v → valued_layers g ls ≡ valued_layers f ls
    → (w u : V) → w ≡ u → tables_of p w (valued_layers g ls) ≡ with_hand u v
hand_written f g p hand ls v is same w u equal = ap (tables_of p w) same ∙ ap (λ x. with_hand x (tables_of p hand (valued_layers f ls))) equal ∙ ap (with_hand u) is

-- once a call lowered a place
module _ {M P W V : Type 0} {pushdown : M → P} {Knows : M → W → Type 0} {worth : M → W → V} {old new : M} (grows : Grows pushdown Knows worth old new) where
  pub kept_lowered : (p : P) (hand : Option W) (ls now : Layers W) → AreKept pushdown Knows p old hand ls → AreKnown (Knows new) now → AreKept pushdown Knows p new hand now
  kept_lowered p hand ls now kept known = record { system = grows.system ∙ kept.system; held = held_grown grows hand kept.held; layers = known }

  pub hand_grown : (nothing : V) (hand : Option W) → IfSome hand (Knows old) → worth_or nothing (worth new) hand ≡ worth_or nothing (worth old) hand
  hand_grown nothing None held = refl
  hand_grown nothing (Some w) held = grows.stays w held

-- the tables that are seen then
module _ {S Map W V : Type 0} (f : W → V) (p : Pushdown S V Map) (hand : V) (ls : Layers W) (v : TablesValue S V Map) (is : tables_of p hand (valued_layers f ls) ≡ v) (layer : Layer) (place : Place) where
  pub lowered_seen : (s s' : Operations V Map) → s ≡ s' → (w w' : V) → w ≡ w' → (now : Layers V) → now ≡ with_list layer (lowered_in s place w (list_of layer (valued_layers f ls))) (valued_layers f ls)
      → (held : V) → held ≡ hand → tables_of p held now ≡ with_entries layer (lowered_in s' place w' (entries_of layer v)) v
  lowered_seen s s' same_s w w' same_w now lowered held same =
      let all : Layers V = valued_layers f ls in
      let es : List (TableEntry V) = lowered_in s place w (list_of layer all) in
      ap (tables_of p held) lowered ∙ ap (λ h. tables_of p h (with_list layer es all)) same ∙ layer_written p hand layer es all
      ∙ ap (λ ds. with_entries layer (lowered_in s place w ds) (tables_of p hand all)) (layer_listed p hand layer all)
      ∙ ap (λ x. with_entries layer (lowered_in s place w (entries_of layer x)) x) is
      ∙ ap (λ t. with_entries layer (lowered_in t place w (entries_of layer v)) v) same_s
      ∙ ap (λ x. with_entries layer (lowered_in s' place x (entries_of layer v)) v) same_w

pub same_layer : {S Map V : Type 0} (layer : Layer) (v : TablesValue S V Map) → with_entries layer (entries_of layer v) v ≡ v
same_layer Base v = refl
same_layer Target v = refl
same_layer Walk v = refl

-- zero lowers nothing
pub zero_seen : {S Map V : Type 0} (s : Operations V Map) (laws : IsSemiring s) (layer : Layer) (place : Place) (v : TablesValue S V Map) → AllByRecursion (λ e. Fits s e.weight) (entries_of layer v) → (w : V) → w ≡ s.zero
    → v ≡ with_entries layer (lowered_in s place w (entries_of layer v)) v
zero_seen s laws layer place v fits w none =
    sym (ap (λ x. with_entries layer (lowered_in s place x (entries_of layer v)) v) none ∙ ap (λ es. with_entries layer es v) (lowered-zero s laws place (entries_of layer v) fits) ∙ same_layer layer v)

-- What holds of all tables.
module _ {W V Map : Type 0} (s : Operations V Map) (laws : IsSemiring s) (Known : W → Type 0) (f : W → V) (fits : (w : W) → Known w → Fits s (f w)) where
  pub hand_fits : (hand : Option W) → IfSome hand Known → Fits s (worth_or s.zero f hand)
  hand_fits None held = laws.fits-zero
  hand_fits (Some w) held = fits w held

  pub list_is : (es : List (TableEntry W)) → AllKnown Known es → HasDistinctPlaces es → length es < 2 ^ 32 → IsTable s (valued f es)
  list_is es all distinct few = record {
    distinct = distinct-valued f es distinct;
    fits = fits_valued s Known f fits es all;
    few = subst (λ n. n < 2 ^ 32) (sym (length-valued f es)) few;
  }

  pub layer_fits : {S : Type 0} (p : Pushdown S V Map) (hand : V) (ls : Layers W) (v : TablesValue S V Map) → tables_of p hand (valued_layers f ls) ≡ v → AreKnown Known ls → (layer : Layer) → AllByRecursion (λ e. Fits s e.weight) (entries_of layer v)
  layer_fits p hand ls v is all layer = subst (AllByRecursion (λ (e : TableEntry V). Fits s e.weight)) (sym (seen f p hand ls v is layer)) (fits_valued s Known f fits (list_of layer ls) (known_list Known ls all layer))

pub if_none : {X P Q : Type 0} (o : Option X) → (P → Q) → IfNone o P → IfNone o Q
if_none None f h = f h
if_none (Some x) f h = tt

pub if_some : {X : Type 0} {P Q : X → Type 0} (o : Option X) → ((x : X) → P x → Q x) → IfSome o P → IfSome o Q
if_some None f h = tt
if_some (Some x) f h = f x h

-- once a call changed the entries of a layer
module _ {S Map W V : Type 0} (f : W → V) (p : Pushdown S V Map) (hand : V) (ls : Layers W) (v : TablesValue S V Map) (is : tables_of p hand (valued_layers f ls) ≡ v) (layer : Layer) where
  pub entries_seen : (change : List (TableEntry V) → List (TableEntry V)) (es : List (TableEntry W)) → valued f es ≡ change (valued f (list_of layer ls)) → (now : Layers W) → now ≡ with_list layer es ls
      → tables_of p hand (valued_layers f now) ≡ with_entries layer (change (entries_of layer v)) v
  entries_seen change es changes now same =
      let all : Layers V = valued_layers f ls in
      ap (λ l. tables_of p hand (valued_layers f l)) same ∙ ap (tables_of p hand) (valued_with f layer es ls)
      ∙ layer_written p hand layer (valued f es) all
      ∙ ap (λ ds. with_entries layer ds (tables_of p hand all)) (changes ∙ ap change (sym (valued_list f layer ls) ∙ layer_listed p hand layer all))
      ∙ ap (λ x. with_entries layer (change (entries_of layer x)) x) is

  pub entry_seen : (t : ℕ) (e : TableEntry W) → slice_get (list_of layer ls) t ≡ Some e → slice_get (entries_of layer v) t ≡ Some (valued_entry f e)
  entry_seen t e at = ap (λ es. slice_get es t) (seen f p hand ls v is layer) ∙ get-valued f (list_of layer ls) t e at

  pub none_seen : NoneWaits (list_of layer ls) → NoneWaits (entries_of layer v)
  none_seen none = subst NoneWaits (sym (seen f p hand ls v is layer)) (none-valued f (list_of layer ls) none)

pub known_none : {W : Type 0} (Known : W → Type 0) (ls : Layers W) → ls ≡ no_layers → AreKnown Known ls
known_none Known ls same = subst (AreKnown Known) (sym same) (record { base = tt; target = tt; walk = tt })

module _ {M P W : Type 0} {pushdown : M → P} {Knows : M → W → Type 0} (p : P) (m : M) (hand : Option W) (ls : Layers W) (kept : AreKept pushdown Knows p m hand ls) where
  pub kept_with : (layer : Layer) (es : List (TableEntry W)) → AllKnown (Knows m) es → (now : Layers W) → now ≡ with_list layer es ls → AreKept pushdown Knows p m hand now
  kept_with layer es all now same = record { system = kept.system; held = kept.held; layers = subst (AreKnown (Knows m)) (sym same) (known_with (Knows m) ls kept.layers layer es all) }

  pub kept_popped : (layer : Layer) (o : Option ℕ) (now : Layers W) → IfNone o (now ≡ ls) → IfSome o (λ t. now ≡ with_list layer (taken t (list_of layer ls)) ls) → AreKept pushdown Knows p m hand now
  kept_popped layer None now stays takes = subst (AreKept pushdown Knows p m hand) (sym stays) kept
  kept_popped layer (Some t) now stays takes = kept_with layer (taken t (list_of layer ls)) (known_taken (Knows m) t (list_of layer ls) (known_list (Knows m) ls kept.layers layer)) now takes

pub both_some : {X : Type 0} {P Q R : X → Type 0} (o : Option X) → ((x : X) → P x → Q x → R x) → IfSome o P → IfSome o Q → IfSome o R
both_some None f h k = tt
both_some (Some x) f h k = f x h k

-- what a semiring makes of weights, by the system that has it
module _ {S V Map : Type 0} (operations : S → Operations V Map) {p q : Pushdown S V Map} (sys : p ≡ q) where
  pub returned_is : (m : Option Map) {u x y : V} → u ≡ (operations p.semiring).after (unwrap_or m (operations p.semiring).plain) x → x ≡ y → u ≡ (operations q.semiring).after (unwrap_or m (operations q.semiring).plain) y
  returned_is m {u} {x} {y} is same = is ∙ ap (λ t. (operations t.semiring).after (unwrap_or m (operations t.semiring).plain) x) sys ∙ ap ((operations q.semiring).after (unwrap_or m (operations q.semiring).plain)) same

  pub extended_is : {u x y x' y' : V} → u ≡ (operations p.semiring).extend x y → x ≡ x' → y ≡ y' → u ≡ (operations q.semiring).extend x' y'
  extended_is {u} {x} {y} {x'} {y'} is left right =
      is ∙ ap (λ t. (operations t.semiring).extend x y) sys ∙ ap (λ z. (operations q.semiring).extend z y) left ∙ ap ((operations q.semiring).extend x') right
